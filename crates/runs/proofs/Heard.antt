-- The reply that a caller finds is the reply that the definition says.
--
--   said_fits     what a frame says fits the reply buffer that the frame was given
--   heard-said    so the first bytes of the buffer, as many as the answer counts, are those said
--
-- Assumes nothing.
use mathlib.Core.Path.{◌≡◌, refl, ap, ◌∙◌}
use mathlib.Core.List.{List}
use Prim.Native.Nat.{ℕ, suc, ◌+◌, ◌-◌, ◌*◌, ◌≤◌}
use native.Mathlib.Omega.{arith}
use lib.ListN.{length, get_or}
use Rattle.octets.proofs.Laid.{take-sets}
use Rattle.crc.specs.CrcA.{with_crc}
use Rattle.crc.proofs.Laws.{with_crc-length}
use Rattle.fips197.specs.State.{add_round_key}
use Rattle.fips197.specs.Cipher.{last_round, cipher, encipher}
use Rattle.fips197.specs.Cbc.{cbc_encipher}
use Rattle.model.specs.declared.Map.{Map}
use Rattle.model.specs.declared.Tag.{Tag}
use Rattle.model.specs.declared.Decision.{Decision}
use Rattle.model.specs.declared.Command.{Command}
use Rattle.model.specs.declared.Command.TheVariants.{Read, FastRead, Write, ReadCnt, IncrCnt, Authenticate, Proof, Halt}
use Rattle.model.specs.Map.{mf0aes20}
use Rattle.model.specs.Numbers.{kept, refused, answered, acknowledged}
use Rattle.model.specs.Reading.{fast_range}
use Rattle.model.specs.Authentication.{challenged, proved}
use Rattle.model.specs.Frame.{command_done, halted, decide, Said, silence, nibble, bytes, said_of, frame, reply_of, laid_over}
use Rattle.model.proofs.Carried.{decide-is}
use Rattle.reply.specs.Speaking.{said_size}
use Rattle.shown.proofs.Shown.{shown-length, window-length}
use Rattle.reply.proofs.Room.{ours-fits}
use Rattle.runs.specs.Heard.{heard}

-- the bytes of a reply, in the reply buffer
abbrev pub in_buffer : Said → ℕ
in_buffer silence = 0
in_buffer (nibble n) = 0
in_buffer (bytes bs) = length bs

abbrev said_by : Map → Tag → List ℕ → Decision → Said
said_by m tag s d = said_of m tag s d.block d.say

cbc-length : (key chain b : List ℕ) → length (cbc_encipher key chain b) ≡ 16
unfolding cbc_encipher encipher cipher last_round add_round_key
cbc-length key chain b = refl

sealed-size : (d : List ℕ) (n : ℕ) → length d ≡ n → length (with_crc d) ≡ n + 2
sealed-size d n h = with_crc-length d ∙ ap (λ (k : ℕ). k + 2) h

module _ (m : Map) (tag : Tag) (s f random : List ℕ) (room : ℕ) where
  -- a command that is carried out
  done-size : (c : Command) → let d = command_done c m tag s f random in in_buffer (said_by m tag s d) ≡ said_size d.say
  unfolding command_done answered acknowledged challenged proved halted said_of fast_range
  done-size Read = sealed-size _ 16 (window-length m tag.state s (get_or f 1 0))
  done-size FastRead =
      let p = get_or f 1 0 in
      let q = get_or f 2 0 in
      sealed-size _ (4 * (q + 1 - p)) (shown-length m tag.state s p (q + 1 - p))
  done-size Write = refl
  done-size ReadCnt = sealed-size _ 3 refl
  done-size IncrCnt = refl
  done-size Authenticate = sealed-size _ 17 (ap suc (cbc-length _ _ _))
  done-size Proof = sealed-size _ 17 (ap suc (cbc-length _ _ _))
  done-size Halt = refl

  -- and any other frame says nothing or a nibble
  said-size : let d = decide m tag s f random room in in_buffer (said_by m tag s d) ≡ said_size d.say
  unfolding kept refused said_of
  said-size =
      decide-is m tag s f random room (λ (d : Decision). in_buffer (said_by m tag s d) ≡ said_size d.say) (λ c. done-size c.command)
      (λ n. refl)
      (λ n b e. refl)

pub said_fits : (tag : Tag) (s f random : List ℕ) (room : ℕ) → in_buffer (frame tag s f random room).said ≤ room
unfolding frame
said_fits tag s f random room =
    omega (arith, said-size mf0aes20 tag s f random room, ours-fits tag s f random room)

pub heard-said : (buffer : List ℕ) (x : Said) → in_buffer x ≤ length buffer → heard (reply_of x) (laid_over buffer x) ≡ x
heard-said buffer silence h = refl
heard-said buffer (nibble n) h = refl
heard-said buffer (bytes bs) h = ap bytes (take-sets buffer bs h)

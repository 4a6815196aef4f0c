-- The answer of a frame, read back.
--
--   nibble-small       a nibble that is said is below 16
--   number_read        the number of the answer of a frame is the frame's
--   reason-read, reply-read    and so are the reason and the reply
--
-- Assumes nothing.
use mathlib.Core.Path.{◌≡◌, refl}
use mathlib.Core.List.{List}
use mathlib.Core.Bool.{Bool, true, false, ◌||◌, cond}
use Prim.Native.Nat.{ℕ, ◌<◌}
use native.Mathlib.Omega.{arith}
use lib.Dec.{eqb}
use Rattle.model.specs.declared.Map.{Map}
use Rattle.model.specs.declared.Tag.{Tag}
use Rattle.model.specs.declared.Decision.{Decision}
use Rattle.model.specs.declared.Say.{Say}
use Rattle.model.specs.declared.Say.TheVariants.{Silence, Nibble, Window, Range, Count, Block}
use Rattle.model.specs.declared.Command.{Command}
use Rattle.model.specs.declared.Command.TheVariants.{Read, FastRead, Write, ReadCnt, IncrCnt, Authenticate, Proof, Halt}
use Rattle.model.specs.Map.{mf0aes20}
use Rattle.model.specs.Numbers.{nibble_of, kept, refused, answered, acknowledged}
use Rattle.model.specs.Writing.{barred_place}
use Rattle.model.specs.Authentication.{challenged, proved}
use Rattle.model.specs.Frame.{command_done, halted, decide, said_of, Outcome, frame, reply_of}
use Rattle.model.proofs.Carried.{decide-is}
use Rattle.model.proofs.Demand1.{number-in-table}
use Rattle.model.proofs.Reasons.{place-small}
use Rattle.c_answer.specs.Answer.{answer_of, number_in, reason_in, reply_in}
use Rattle.c_answer.specs.Claims.{nibble_of as nibbleSaid}
use Rattle.c_answer.proofs.Told.{answer-told}
use Rattle.tag_c.proofs.Calls.{count_small}

-- the nibble of a saying; 0 where there is none
abbrev say_nibble : Say → ℕ
say_nibble Silence = 0
say_nibble (Nibble n) = n
say_nibble (Window p) = 0
say_nibble (Range p q) = 0
say_nibble (Count n) = 0
say_nibble (Block b) = 0

nak-small : (a b : Bool) → cond a 0x1 (cond b 0x4 0x0) < 16
nak-small true b = omega arith
nak-small false true = omega arith
nak-small false false = omega arith

same-nibble : (m : Map) (tag : Tag) (s block : List ℕ) (y : Say) → nibbleSaid (reply_of (said_of m tag s block y)) ≡ say_nibble y
unfolding said_of
same-nibble m tag s block Silence = refl
same-nibble m tag s block (Nibble n) = refl
same-nibble m tag s block (Window p) = refl
same-nibble m tag s block (Range p q) = refl
same-nibble m tag s block (Count n) = refl
same-nibble m tag s block (Block b) = refl

module _ (m : Map) (tag : Tag) (s f random : List ℕ) (room : ℕ) where
  done-small : (c : Command) → say_nibble (command_done c m tag s f random).say < 16
  unfolding command_done answered acknowledged challenged proved halted
  done-small Read = omega arith
  done-small FastRead = omega arith
  done-small Write = omega arith
  done-small ReadCnt = omega arith
  done-small IncrCnt = omega arith
  done-small Authenticate = omega arith
  done-small Proof = omega arith
  done-small Halt = omega arith

  decided-small : say_nibble (decide m tag s f random room).say < 16
  unfolding kept refused nibble_of
  decided-small =
      decide-is m tag s f random room (λ (d : Decision). say_nibble d.say < 16) (λ c. done-small c.command) (λ n. omega arith)
      (λ n b e. nak-small (eqb n 2) (eqb n 9 || eqb n 11))

pub nibble-small : (tag : Tag) (s f random : List ℕ) (room : ℕ) → nibbleSaid (reply_of (frame tag s f random room).said) < 16
unfolding frame
nibble-small tag s f random room =
    let d = decide mf0aes20 tag s f random room in
    rw (same-nibble mf0aes20 tag s d.block d.say) (decided-small mf0aes20 tag s f random room)

-- ---- the answer

module _ (tag : Tag) (s f random : List ℕ) (room : ℕ) where
  abbrev o : Outcome
  o = frame tag s f random room

  abbrev answer : ℕ
  answer = answer_of o.number (barred_place o.reason) (reply_of o.said)

  told : (number_in answer ≡ o.number) × (reason_in answer ≡ barred_place o.reason) × (reply_in answer ≡ reply_of o.said)
  told =
      answer-told o.number (barred_place o.reason) (reply_of o.said) (omega (arith, number-in-table tag s f random room))
      (omega (arith, place-small o.reason))
      (nibble-small tag s f random room)
      (count_small tag s f random room)

  pub number_read : number_in answer ≡ o.number
  number_read = told.0

  pub reason-read : reason_in answer ≡ barred_place o.reason
  reason-read = told.1

  pub reply-read : reply_in answer ≡ reply_of o.said
  reply-read = told.2

-- Document 01, "What the box plays": a frame, from the record, store, frame, random block and buffer length to the number, reply, record and store.
--
--     misfit ..               number 10: a wrong buffer, or a record that no tag can have
--     command_number, command_reason, command_done    each command's own checks, the rule that stops a WRITE, and what a command does where no check applies
--     not_done ..              what a number other than 0 leaves behind
--     commanded ..            what a command comes to
--     earlier_number ..        the checks before a command's own
--     decide ..               what a frame comes to: the lowest check in document 01's order wins
--     Said                    a reply with its bytes: document 01's silence, a nibble, or bytes with CRC_A
--     Outcome                 number, reply, rule that stopped a WRITE, record and store after a call
--     frame ..                the call
--
-- Assumes nothing.
use Rattle.std.specs.Prelude.{List, [], ◌∷◌, Bool, not, ◌||◌, cond, ℕ, zero, suc, ◌+◌, ◌*◌, ltb, eqb, length, get_or, set}
use Rattle.std.proofs.lemmas.List.Edits.{sets}
use Rattle.crc.specs.CrcA.{with_crc}
use Rattle.model.specs.declared.Map.{Map}
use Rattle.model.specs.declared.Tag.{Tag}
use Rattle.model.specs.declared.State.TheVariants.{Waiting}
use Rattle.model.specs.declared.Quad.{Quad}
use Rattle.model.specs.declared.Command.{Command}
use Rattle.model.specs.declared.Command.TheVariants.{Read, FastRead, Write, ReadCnt, IncrCnt, Authenticate, Proof, Halt}
use Rattle.std.specs.Prelude.{Option, Some, None}
use Rattle.model.specs.declared.Barred.{Barred}
use Rattle.model.specs.declared.Barred.TheVariants.{Open}
use Rattle.model.specs.declared.Effect.{Effect}
use Rattle.model.specs.declared.Effect.TheVariants.{Keep, Page, Counter, Failed}
use Rattle.model.specs.declared.Say as say
use Rattle.model.specs.declared.Say.{Say}
use Rattle.model.specs.declared.Reply as reply
use Rattle.model.specs.declared.Reply.{Reply}
use Rattle.model.specs.declared.Decision.{Decision}
use Rattle.model.specs.Map.{mf0aes20, store_size, reply_size}
use Rattle.model.specs.Record.{zeros, is_waiting, counter, possible}
use Rattle.model.specs.Numbers.{number_if, first, kept, refused, answered, acknowledged}
use Rattle.model.specs.Telling.{damaged, told, told_number}
use Rattle.model.specs.Reading.{read_number, fast_read_number, read_window, fast_range, shown_pages}
use Rattle.model.specs.Writing.{barred, write_number, quad, written}
use Rattle.model.specs.Counters.{low_first, read_cnt_number, increment, incr_cnt_number}
use Rattle.model.specs.Authentication.{raised, challenge_number, challenged, proof_number, proved}

-- number 10 for a frame: room is the reply buffer's length
unfoldable pub misfit : Map → Tag → List ℕ → List ℕ → ℕ → Bool
misfit m tag s random room =
    not (eqb (length s) (store_size m)) || ltb room (reply_size m) || not (eqb (length random) 16) || not (possible tag)

-- the four bytes of a frame behind its code and its page or counter number
abbrev pub data4 : List ℕ → Quad
data4 f = quad (get_or f 2 0) (get_or f 3 0) (get_or f 4 0) (get_or f 5 0)

-- request E6: why a WRITE is refused; no other command has a reason
unfoldable pub command_reason : Command → Map → Tag → List ℕ → List ℕ → Barred
command_reason Read m tag s f = Open
command_reason FastRead m tag s f = Open
command_reason Write m tag s f = barred m tag.state s (get_or f 1 0) (data4 f)
command_reason ReadCnt m tag s f = Open
command_reason IncrCnt m tag s f = Open
command_reason Authenticate m tag s f = Open
command_reason Proof m tag s f = Open
command_reason Halt m tag s f = Open

-- numbers 5 and on
unfoldable pub command_number : Command → Map → Tag → List ℕ → List ℕ → ℕ
command_number Read m tag s f = read_number m tag.state s (get_or f 1 0)
command_number FastRead m tag s f = fast_read_number m tag.state s (get_or f 1 0) (get_or f 2 0)
command_number Write m tag s f = write_number m (get_or f 1 0) (command_reason Write m tag s f)
command_number ReadCnt m tag s f = read_cnt_number m tag.state s (get_or f 1 0)
command_number IncrCnt m tag s f = incr_cnt_number m tag s (get_or f 1 0) (data4 f)
command_number Authenticate m tag s f = challenge_number m tag s (get_or f 1 0)
command_number Proof m tag s f = proof_number m tag s f
command_number Halt m tag s f = number_if (not (eqb (get_or f 1 0) 0)) 5

-- HLTA done leaves WAITING, with silence
unfoldable pub halted : Decision
halted = record {
  number = 0;
  reason = Open;
  effect = Keep;
  say = say.TheVariants.Silence;
  block = zeros;
  state = Waiting;
  challenge = zeros;
}

unfoldable pub command_done : Command → Map → Tag → List ℕ → List ℕ → List ℕ → Decision
command_done Read m tag s f random = answered tag (say.TheVariants.Window (get_or f 1 0))
command_done FastRead m tag s f random = answered tag (say.TheVariants.Range (get_or f 1 0) (get_or f 2 0))
command_done Write m tag s f random = acknowledged tag (Page (get_or f 1 0) (written m s (get_or f 1 0) (data4 f)))
command_done ReadCnt m tag s f random = answered tag (say.TheVariants.Count (get_or f 1 0))
command_done IncrCnt m tag s f random =
    acknowledged tag (Counter (get_or f 1 0) (counter tag (get_or f 1 0) + increment (data4 f)))
command_done Authenticate m tag s f random = challenged m tag s (get_or f 1 0) random
command_done Proof m tag s f random = proved m tag s f
command_done Halt m tag s f random = halted

-- 1 and 10 change nothing; 8 raises the count where 8.6.5 says so; every other number but 0 ends the session and nothing else
unfoldable pub not_done : Map → Tag → List ℕ → ℕ → Barred → Decision
not_done m tag s n b = cond (eqb n 1 || eqb n 10) (kept n tag) (refused n b (cond (eqb n 8) (raised m tag s) Keep))

abbrev pub concluded : ℕ → Barred → Map → Tag → List ℕ → Decision → Decision
concluded zero b m tag s d = d
concluded (suc n) b m tag s d = not_done m tag s (suc n) b

-- what a command comes to: its own checks, and what it does where none applies
unfoldable pub commanded : Command → Map → Tag → List ℕ → List ℕ → List ℕ → Decision
commanded c m tag s f random =
    concluded (command_number c m tag s f) (command_reason c m tag s f) m tag s (command_done c m tag s f random)

-- the same for what the code tells; a code that tells nothing is refused before
abbrev pub told_commanded : Option (Command × ℕ) → Map → Tag → List ℕ → List ℕ → List ℕ → Decision
told_commanded (Some (c, k)) m tag s f random = commanded c m tag s f random
told_commanded None m tag s f random = halted

-- the checks before a command's own: 10, 1, 2, 3 and 4
unfoldable pub earlier_number : Map → Tag → List ℕ → List ℕ → List ℕ → ℕ → ℕ
earlier_number m tag s f random room =
    first (number_if (misfit m tag s random room) 10)
    (first (number_if (is_waiting tag.state) 1)
    (first (number_if (damaged f) 2) (told_number (told (get_or f 0 0)) tag.state (length f))))

-- a frame that one of these refuses has no reason
unfoldable pub decide : Map → Tag → List ℕ → List ℕ → List ℕ → ℕ → Decision
decide m tag s f random room =
    concluded (earlier_number m tag s f random room) Open m tag s (told_commanded (told (get_or f 0 0)) m tag s f random)

-- a reply with all that it carries; silence is document 01's term for none
pub data Said : Type 0 where
  silence : Said
  nibble : ℕ → Said
  bytes : List ℕ → Said

-- data goes out with its CRC_A behind it, low byte first
abbrev pub sealed : List ℕ → Said
sealed d = bytes (with_crc d)

-- what is read is the memory before the frame
unfoldable pub said_of : Map → Tag → List ℕ → List ℕ → Say → Said
said_of m tag s block say.TheVariants.Silence = silence
said_of m tag s block (say.TheVariants.Nibble n) = nibble n
said_of m tag s block (say.TheVariants.Window p) = sealed (shown_pages m tag.state s (read_window m tag.state s p))
said_of m tag s block (say.TheVariants.Range p q) = sealed (shown_pages m tag.state s (fast_range p q))
said_of m tag s block (say.TheVariants.Count n) = sealed (low_first 3 (counter tag n))
said_of m tag s block (say.TheVariants.Block b) = sealed (b ∷ block)

-- the one definition that stores: at most one page, counter or count
unfoldable pub counters_after : List ℕ → Effect → List ℕ
counters_after cs Keep = cs
counters_after cs (Page p q) = cs
counters_after cs (Counter n v) = set cs n v
counters_after cs (Failed v) = cs

unfoldable pub failed_after : ℕ → Effect → ℕ
failed_after c Keep = c
failed_after c (Page p q) = c
failed_after c (Counter n v) = c
failed_after c (Failed v) = v

unfoldable pub store_after : List ℕ → Effect → List ℕ
store_after s Keep = s
store_after s (Page p q) = sets s (4 * p) (q.a ∷ q.b ∷ q.c ∷ q.d ∷ [])
store_after s (Counter n v) = s
store_after s (Failed v) = s

unfoldable pub tag_after : Tag → Decision → Tag
tag_after tag d = record {
  counters = counters_after tag.counters d.effect;
  failed = failed_after tag.failed d.effect;
  originality = tag.originality;
  state = d.state;
  challenge = d.challenge;
}

pub record Outcome : Type 0 where
  pub number : ℕ
  pub said : Said
  pub reason : Barred
  pub tag : Tag
  pub store : List ℕ

abbrev pub outcome : Map → Tag → List ℕ → Decision → Outcome
outcome m tag s d = record {
  number = d.number;
  said = said_of m tag s d.block d.say;
  reason = d.reason;
  tag = tag_after tag d;
  store = store_after s d.effect;
}

unfoldable pub frame : Tag → List ℕ → List ℕ → List ℕ → ℕ → Outcome
frame tag s f random room = outcome mf0aes20 tag s (decide mf0aes20 tag s f random room)

-- the reply as the call hands it back, and the reply buffer after it: only the bytes said are written
abbrev pub reply_of : Said → Reply
reply_of silence = reply.TheVariants.Silence
reply_of (nibble n) = reply.TheVariants.Nibble n
reply_of (bytes bs) = reply.TheVariants.Bytes (length bs)

abbrev pub laid_over : List ℕ → Said → List ℕ
laid_over buffer silence = buffer
laid_over buffer (nibble n) = buffer
laid_over buffer (bytes bs) = sets buffer 0 bs

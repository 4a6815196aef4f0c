-- A bench case: its form, and when it is right.
--
--     Line               a call, the number it must be answered with, the place of the rule that stops a WRITE, and the whole reply
--     Case               an image, calls with their answers, and what they leave
--     played_right c b ls the calls ls, played from the box b, are answered and leave what the case c says
--     case_right c        the case c, played from the loading of its image, is as it says
--     to_active           power-on and selection, from any state to ACTIVE
--     sent, sent_with     a frame with its answer         stopped    a WRITE that a rule stops
--
-- Cases.antt has the list of the cases. Assumes nothing.
use Rattle.std.specs.Prelude.{List, [], ◌∷◌, Bool, true, false, ◌&&◌, ℕ, ◌+◌, ◌*◌, eqb, get_or, take, drop, replicate}
use Rattle.forget.specs.Machine.{Given}
use Rattle.model.specs.declared.State.{State}
use Rattle.model.specs.Record.{zeros, state_number, key_number}
use Rattle.model.specs.Authentication.{same_bytes}
use Rattle.model.specs.Frame.{Said, silence, nibble, bytes}
use Rattle.model.specs.Image.{load}
use Rattle.model.specs.Calls.{Box, Call, power, select, frame, Report, step, loaded_box}
use Rattle.model.specs.CaseImages.{Patch, patched}

pub record Line : Type 0 where
  pub call : Call
  pub number : ℕ
  pub place : ℕ
  pub said : Said

pub record Case : Type 0 where
  pub image : List ℕ
  pub lines : List Line
  -- what the stored memory differs in from the image afterwards
  pub changed : List Patch
  pub state : State

-- the same kind, and the same nibble or the same bytes
unfoldable pub same_said : Said → Said → Bool
same_said silence silence = true
same_said silence (nibble m) = false
same_said silence (bytes ys) = false
same_said (nibble n) silence = false
same_said (nibble n) (nibble m) = eqb n m
same_said (nibble n) (bytes ys) = false
same_said (bytes xs) silence = false
same_said (bytes xs) (nibble m) = false
same_said (bytes xs) (bytes ys) = same_bytes xs ys

unfoldable pub same_state : State → State → Bool
same_state a b = eqb (state_number a) (state_number b) && eqb (key_number a) (key_number b)

-- a number of three bytes of an image, low byte first
abbrev pub three_at : List ℕ → ℕ → ℕ
three_at i at = get_or i at 0 + 256 * get_or i (at + 1) 0 + 65536 * get_or i (at + 2) 0

-- all that is stored is what the image i holds
unfoldable pub stored_right : List ℕ → Box → Bool
stored_right i b =
    same_bytes b.store (take 240 (drop 1 i)) && same_bytes b.tag.counters (three_at i 242 ∷ three_at i 245 ∷ three_at i 248 ∷ [])
    && eqb b.tag.failed (get_or i 252 0 + 256 * get_or i 253 0)
    && same_bytes b.tag.originality (take 16 (drop 255 i))

-- what the calls leave; no case ends in CHALLENGED, so the challenge bytes are zero
unfoldable pub left_right : Case → Box → Bool
left_right c b =
    stored_right (patched c.image c.changed) b && same_state b.tag.state c.state && same_bytes b.tag.challenge zeros

unfoldable pub line_right : Line → Given Box Report → Bool
line_right l g = eqb g.number l.number && eqb g.said.place l.place && same_said g.said.reply l.said

-- the calls one after another, each answered as its line says
unfoldable pub played_right : Case → Box → List Line → Bool
played_right c b [] = left_right c b
played_right c b (l ∷ ls) = let g = step b l.call in line_right l g && played_right c g.next ls

-- the store that an image is loaded into
abbrev pub blank : List ℕ
blank = replicate 240 0xff

unfoldable pub case_right : Case → Bool
case_right c = eqb (load c.image blank).number 0 && played_right c (loaded_box c.image blank) c.lines

unfoldable pub all_right : List Case → Bool
all_right [] = true
all_right (c ∷ cs) = case_right c && all_right cs

-- ---- calls

abbrev pub powered : Line
powered = record { call = power; number = 0; place = 0; said = silence }

abbrev pub selected : Line
selected = record { call = select; number = 0; place = 0; said = silence }

abbrev pub to_active : List Line
to_active = powered ∷ selected ∷ []

-- a frame with the random block of a challenge, and a reply buffer of the least length
abbrev pub sent_with : List ℕ → List ℕ → ℕ → Said → Line
sent_with random f n s = record { call = frame f random 242; number = n; place = 0; said = s }

-- a frame for which the random block is of no use
abbrev pub sent : List ℕ → ℕ → Said → Line
sent f n s = sent_with (replicate 16 0xa5) f n s

-- a WRITE that is stopped by the rule at place k
abbrev pub stopped : ℕ → List ℕ → ℕ → Said → Line
stopped k f n s = record { call = frame f (replicate 16 0xa5) 242; number = n; place = k; said = s }

abbrev pub ack : Said
ack = nibble 0xa

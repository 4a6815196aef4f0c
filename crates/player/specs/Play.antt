-- A line of a script, played: what is printed for it, and the box that it leaves.
--
--     data_of x              the data bytes of a reply, without CRC_A; none for silence and a nibble
--     heard_data r buffer    the same, from the reply that a call hands back and its buffer
--     random_of count        the challenge bytes: sixteen copies of the line number, modulo 256
--     next_count count       the number of the line after so many
--     Turn, turn            the text and the box, and whether the line is bad
--     good_turn, bad_turn    a turn of a line that is played; that of a bad line, in the box that it leaves
--
-- count is the number of the line, from 1. A bad line has no text here: the program writes it and stops. Assumes nothing.
use Rattle.std.specs.Prelude.{List, [], Bool, true, false, cond, Option, Some, None, ℕ, ◌+◌, ◌-◌, ◌%◌, ltb, length, take, replicate}
use Rattle.crc.specs.CrcA.{with_crc}
use Rattle.model.specs.declared.Tag.{Tag}
use Rattle.model.specs.declared.Reply.{Reply}
use Rattle.model.specs.declared.Reply.TheVariants as reply
use Rattle.model.specs.Map.{mf0aes20, reply_size, trailer}
use Rattle.model.specs.Frame.{Said, silence, nibble, bytes}
use Rattle.model.specs.Calls as call
use Rattle.model.specs.Calls.{Box, Call, step}
use Rattle.script.specs.declared.line.Line.{Line}
use Rattle.script.specs.declared.line.Line.TheVariants.{Power, Select, Frame}
use Rattle.script.specs.Line.{line_of, frame_bytes}
use Rattle.answers.specs.Answer.{answer_text}

abbrev pub data_of : Said → List ℕ
data_of silence = []
data_of (nibble n) = []
data_of (bytes bs) = take (length bs - trailer) bs

abbrev pub heard_data : Reply → List ℕ → List ℕ
heard_data reply.Silence buffer = []
heard_data (reply.Nibble n) buffer = []
heard_data (reply.Bytes n) buffer = take (n - trailer) buffer

abbrev pub random_of : ℕ → List ℕ
random_of count = replicate 16 (count % 256)

-- lines are counted in 64 bits
abbrev pub next_count : ℕ → ℕ
next_count count = cond (ltb count 18446744073709551615) (count + 1) count

pub record Turn : Type 0 where
  pub text : List ℕ
  pub box : Box
  pub bad : Bool

abbrev pub good_turn : List ℕ → Tag → List ℕ → Turn
good_turn text tag store = record { text = text; box = record { tag = tag; store = store }; bad = false }

abbrev pub bad_turn : Tag → List ℕ → Turn
bad_turn tag store = record { text = []; box = record { tag = tag; store = store }; bad = true }

-- a call made in the box b
abbrev pub made : Box → Call → Turn
made b c = let g = step b c in record { text = answer_text g.number g.said.place (data_of g.said.reply); box = g.next; bad = false }

-- what a line comes to, by what it asks; the program adds the CRC_A
abbrev pub turn_of : Option Line → Box → ℕ → List ℕ → Turn
turn_of (Some Power) b count l = made b call.power
turn_of (Some Select) b count l = made b call.select
turn_of (Some (Frame n)) b count l = made b (call.frame (with_crc (frame_bytes l n)) (random_of count) (reply_size mf0aes20))
turn_of None b count l = record { text = []; box = b; bad = true }

unfoldable pub turn : Box → ℕ → List ℕ → Turn
turn b count l = turn_of (line_of l) b count l

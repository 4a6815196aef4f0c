-- What is claimed of the answer of a frame; proofs/Told.antt proves it.
--
--     nibble_of r       the nibble of a reply, 0 where there is none
--     AnswerTold       number, reason and reply are told by their answer
--
-- Assumes nothing.
use Rattle.std.specs.Prelude.{◌≡◌, ℕ, ◌<◌}
use Rattle.model.specs.declared.Reply.{Reply}
use Rattle.model.specs.declared.Reply.TheVariants.{Silence, Nibble, Bytes}
use Rattle.c_answer.specs.Answer.{answer_of, count_of, number_in, reason_in, reply_in}

abbrev pub nibble_of : Reply → ℕ
nibble_of Silence = 0
nibble_of (Nibble n) = n
nibble_of (Bytes n) = 0

abbrev pub AnswerTold : Type 0
AnswerTold =
    (n k : ℕ) (r : Reply) → n < 256 → k < 256 → nibble_of r < 16 → count_of r < 65536
    → (number_in (answer_of n k r) ≡ n) × (reason_in (answer_of n k r) ≡ k) × (reply_in (answer_of n k r) ≡ r)

-- `answers::answer::put_hex` meets its contract. The loop's invariant: the digits of the bytes so far are put.
use Rattle.std.proofs.Common.{◌≡◌, ◌++◌, ◌+◌, ◌*◌, map}
use Rattle.arrayvec.specs.ArrayVec.{array_vec_len}
use Rattle.std.specs.List.{range_with_len}
use Rattle.answers.specs.Answer.{letter_at}
use Rattle.answers.proofs.answer.put_hex.Given as goal

abbrev pub invariant-loop-b : goal.invariant-loop-b
invariant-loop-b l = (l.text.items ≡ l.initial.text.items ++ map (letter_at l.bytes) (range_with_len 0 (2 * l.b-index))) × (array_vec_len l.text ≡ array_vec_len l.initial.text + 2 * l.b-index)

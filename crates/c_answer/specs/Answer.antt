-- docs/C-FORM.md, "The answer of kz_frame": one number of 64 bits.
--
--     packed ..        number, reply kind, nibble, reason, byte count and bit count, lowest first: four of one byte and two of two
--     answer_of n k r   the answer of the number n, the reason at place k and the reply r: kind 0 is silence, 1 a nibble, 2 bytes
--     count_of r        the byte count of a reply
--     number_in a, kind_in a, nibble_in a, reason_in a, count_in a
--                      what the accessors of include/kazdumera.h take out of an answer
--     reply_in a        the reply that they tell
--
-- No call has a bit count yet: it is 0. Assumes nothing.
use Rattle.std.specs.Prelude.{cond, ℕ, ◌+◌, ◌*◌, ◌/◌, ◌%◌, ◌^◌, eqb}
use Rattle.model.specs.declared.Reply.{Reply}
use Rattle.model.specs.declared.Reply.TheVariants.{Silence, Nibble, Bytes}

unfoldable pub packed : (number kind nibble reason count bits : ℕ) → ℕ
packed number kind nibble reason count bits =
    number + 2 ^ 8 * kind + 2 ^ 16 * nibble + 2 ^ 24 * reason + 2 ^ 32 * count + 2 ^ 48 * bits

abbrev pub answer_of : ℕ → ℕ → Reply → ℕ
answer_of n k Silence = packed n 0 0 k 0 0
answer_of n k (Nibble x) = packed n 1 x k 0 0
answer_of n k (Bytes c) = packed n 2 0 k c 0

abbrev pub count_of : Reply → ℕ
count_of Silence = 0
count_of (Nibble x) = 0
count_of (Bytes k) = k

unfoldable pub number_in : ℕ → ℕ
number_in a = a % 2 ^ 8

unfoldable pub kind_in : ℕ → ℕ
kind_in a = a / 2 ^ 8 % 2 ^ 8

unfoldable pub nibble_in : ℕ → ℕ
nibble_in a = a / 2 ^ 16 % 2 ^ 8

unfoldable pub reason_in : ℕ → ℕ
reason_in a = a / 2 ^ 24 % 2 ^ 8

unfoldable pub count_in : ℕ → ℕ
count_in a = a / 2 ^ 32 % 2 ^ 16

unfoldable pub reply_in : ℕ → Reply
reply_in a = cond (eqb (kind_in a) 0) Silence (cond (eqb (kind_in a) 1) (Nibble (nibble_in a)) (Bytes (count_in a)))

-- Bytes from the hexadecimal digits that the standards print.
--
--     octet_or_zero l i          byte i of a text of digits, and 0 where the text has not both of its digits
--     octets_from l start n      n bytes of the text from byte start on
--
-- Assumes nothing.
use Rattle.std.specs.Prelude.{List, cond, ℕ, ◌+◌, ◌*◌, ◌/◌, ltb, length, map}
use Rattle.std.specs.List.{range_with_len}
use Rattle.text.specs.Digits.{octet_of}

unfoldable pub octet_or_zero : List ℕ → ℕ → ℕ
octet_or_zero l i = cond (ltb i (length l / 2)) (octet_of l (2 * i)) 0

abbrev pub octets_from : List ℕ → ℕ → ℕ → List ℕ
octets_from l start n = map (λ k. octet_or_zero l (start + k)) (range_with_len 0 n)

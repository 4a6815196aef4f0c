-- Hexadecimal digits.
--
--     digit_of b             the value of a lower-case hexadecimal digit, and 16 for every other byte
--     octet_of l i           the byte of the two digits at place i and behind it, the high one first; every other byte counts 0
--
-- Assumes nothing.
use Rattle.std.specs.Prelude.{List, ◌&&◌, cond, ℕ, ◌+◌, ◌-◌, ◌*◌, ◌%◌, leb, get_or}

-- ASCII: 0 to 9 are 48 to 57, a to f are 97 to 102
unfoldable pub digit_of : ℕ → ℕ
digit_of b = cond (leb 48 b && leb b 57) (b - 48) (cond (leb 97 b && leb b 102) (b - 97 + 10) 16)

unfoldable pub octet_of : List ℕ → ℕ → ℕ
octet_of l i = 16 * (digit_of (get_or l i 0) % 16) + digit_of (get_or l (i + 1) 0) % 16

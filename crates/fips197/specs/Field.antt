-- FIPS 197 section 4: bytes as elements of the field GF(2^8).
--
--     a xor b        addition                                          4.1
--     xtime b        multiplication by x, {02} • b                     4.2.1
--     product a b    multiplication, a • b                             4.2
--     inverse b      the multiplicative inverse of b, and 0 for 0      4.2
--
-- Assumes nothing.
use Rattle.std.specs.Prelude.{ℕ, zero, suc, ◌*◌, ◌/◌, ◌%◌}
use Rattle.std.specs.Int.Bits.{bit_xor}

infixl 68 ◌xor◌
-- addition, 4.1
abbrev pub ◌xor◌ : ℕ → ℕ → ℕ
a xor b = bit_xor a b

-- multiplication by x, 4.2.1: a shift left by one, and the polynomial {1b} added where bit 7 went out
unfoldable pub xtime : ℕ → ℕ
xtime b = (b * 2 % 256) xor (b / 128 % 2 * 27)

-- r with b added if the digit is 1
abbrev pub add_if : ℕ → ℕ → ℕ → ℕ
add_if zero b r = r
add_if (suc d) b r = r xor b

-- the sum of the products of b with each of the n lowest powers of x in a
unfoldable pub product_of : ℕ → ℕ → ℕ → ℕ
product_of zero a b = 0
product_of (suc n) a b = add_if (a % 2) b (product_of n (a / 2) (xtime b))

-- multiplication, 4.2
unfoldable pub product : ℕ → ℕ → ℕ
product a b = product_of 8 a b

-- s • s² • s⁴ • .., n factors
unfoldable pub squares : ℕ → ℕ → ℕ
squares zero s = 1
squares (suc n) s = product s (squares n (product s s))

-- the multiplicative inverse, 4.2: b raised to 254 = 2 + 4 + .. + 128 (`InverseInverts` of `Claims` says what it is for)
unfoldable pub inverse : ℕ → ℕ
inverse b = squares 7 (product b b)

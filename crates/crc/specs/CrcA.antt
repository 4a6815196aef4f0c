-- CRC_A, the check of ISO/IEC 14443-3 type A: a register of 16 bits, each byte of a frame taken lowest bit first.
--
--   feed_back b r   the shifted register r after the bit b that was shifted out has fed back
--   crc_bit r       the register r after one bit step
--   crc_bits n r    .. after n bit steps
--   crc_byte r b    .. after the byte b
--   crc_from r bs   .. after the bytes bs
--   crc_a bs        the CRC_A of the bytes bs
--   on_air c        the two bytes of a CRC as they are sent
--   with_crc bs     the bytes bs followed by their CRC_A
--
-- What is claimed of them (proved in proofs/Laws.antt):
--   ResidueIsZero  the CRC_A of a frame together with its CRC_A is 0
--
-- Assumes nothing.
use Rattle.std.specs.Prelude.{◌≡◌, ℕ, zero, suc, ◌/◌, ◌%◌, List, [], ◌∷◌, ◌++◌}
use Rattle.std.specs.Int.Bits.{bit_xor}

-- what a bit that was shifted out does to the register: a 0 nothing, a 1 xors in the polynomial x^16 + x^12 + x^5 + 1, whose bits
-- stand in reverse order since the lowest bit is sent first
abbrev pub feed_back : ℕ → ℕ → ℕ
feed_back zero r = r
feed_back (suc b) r = bit_xor r 0x8408

-- one bit step: the register moves right by one, and the bit shifted out feeds back
unfoldable pub crc_bit : ℕ → ℕ
crc_bit r = feed_back (r % 2) (r / 2)

-- n bit steps, one after the other
unfoldable pub crc_bits : ℕ → ℕ → ℕ
crc_bits zero r = r
crc_bits (suc n) r = crc_bits n (crc_bit r)

-- a byte is xored into the low byte of the register, and eight bit steps follow
unfoldable pub crc_byte : ℕ → ℕ → ℕ
crc_byte r b = crc_bits 8 (bit_xor r b)

-- the bytes one after the other
unfoldable pub crc_from : ℕ → List ℕ → ℕ
crc_from r [] = r
crc_from r (b ∷ bs) = crc_from (crc_byte r b) bs

-- the register starts at 6363h, and nothing is done to it at the end
unfoldable pub crc_a : List ℕ → ℕ
crc_a bs = crc_from 0x6363 bs

-- low byte first
unfoldable pub on_air : ℕ → List ℕ
on_air c = c % 256 ∷ c / 256 ∷ []

-- a frame with its CRC_A
unfoldable pub with_crc : List ℕ → List ℕ
with_crc bs = bs ++ on_air (crc_a bs)

-- a receiver may run the register over a whole frame, its two last bytes too, and compare with 0
abbrev pub ResidueIsZero : Type 0
ResidueIsZero = (bs : List ℕ) → crc_a (with_crc bs) ≡ 0

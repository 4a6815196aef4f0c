-- CRC_A by half-bytes.
--
--   half_table       for each half-byte, what it feeds back when its four bits are shifted out
--   HalfBytesRight  four bit steps of any register are its upper part xor the table's entry of its low half-byte
--
-- proofs/HalfBytes.antt proves the claim. Assumes nothing.
use Rattle.std.specs.Prelude.{◌≡◌, List, [], ◌∷◌, ℕ, ◌/◌, ◌%◌, get_or}
use Rattle.std.specs.Int.Bits.{bit_xor}
use Rattle.crc.specs.CrcA.{crc_bits}

unfoldable pub half_table : List ℕ
half_table =
    0x0000 ∷ 0x1081 ∷ 0x2102 ∷ 0x3183 ∷ 0x4204 ∷ 0x5285 ∷ 0x6306 ∷ 0x7387 ∷
    0x8408 ∷ 0x9489 ∷ 0xa50a ∷ 0xb58b ∷ 0xc60c ∷ 0xd68d ∷ 0xe70e ∷ 0xf78f ∷ []

abbrev pub HalfBytesRight : Type 0
HalfBytesRight = (r : ℕ) → crc_bits 4 r ≡ bit_xor (r / 16) (get_or half_table (r % 16) 0)

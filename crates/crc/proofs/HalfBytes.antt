-- The table of half-bytes: the claim HalfBytesRight of specs/HalfBytes.antt.
--
--   crc_bit-xor, crc_bits-xor   a bit step, and n of them, of registers xored are those of each, xored
--   half-table                at each of the 16 half-bytes the table has four bit steps of it: a computed test
--   half_bytes_right          the claim
--   byte_halves               a byte is two half-bytes
--
-- Assumes nothing.
use mathlib.Core.Path.{◌≡◌, refl, sym, ap, ap₂, ◌∙◌}
use Prim.Native.Nat.{ℕ, zero, suc, ◌/◌, ◌%◌, ◌*◌, ◌<◌}
use native.Mathlib.Nat.{mod-lt, zero-lt-suc}
use lib.Bits.{bit_xor, xor_shr, xor_mod, xor_shifted, xor_comm, xor_zero_r}
use lib.Pow.{split}
use lib.ListN.{get_or}
use Rattle.bits.proofs.Additive.{Additive}
use Rattle.bits.proofs.Bit.{Digit, off, on, digit-of}
use Rattle.bits.proofs.Test.{equal-below}
use Rattle.std.specs.Int.Bits.{xor_assoc}
use Rattle.bits.proofs.Xor.{xor-swap}
use Rattle.crc.specs.CrcA.{feed_back, crc_bit, crc_bits}
use Rattle.crc.specs.HalfBytes.{half_table, HalfBytesRight}
use Rattle.crc.proofs.Laws.{shift-out}

feed_back-xor : (p q x y : ℕ) → Digit p → Digit q → feed_back (bit_xor p q) (bit_xor x y) ≡ bit_xor (feed_back p x) (feed_back q y)
feed_back-xor _ _ x y off off = refl
feed_back-xor _ _ x y off on = xor_assoc x y _
feed_back-xor _ _ x y on off = xor_assoc x y _ ∙ ap (bit_xor x) (xor_comm y _) ∙ sym (xor_assoc x _ y)
feed_back-xor _ _ x y on on = sym (xor-swap x _ y _ ∙ xor_zero_r (bit_xor x y))

pub crc_bit-xor : Additive crc_bit
unfolding crc_bit
crc_bit-xor a b =
    ap₂ feed_back (xor_mod a b 1) (xor_shr a b 1)
    ∙ feed_back-xor (a % 2) (b % 2) (a / 2) (b / 2) (digit-of (a % 2) (mod-lt a (zero-lt-suc 1))) (digit-of (b % 2) (mod-lt b (zero-lt-suc 1)))

pub crc_bits-xor : (n : ℕ) → Additive (crc_bits n)
unfolding crc_bits
crc_bits-xor zero a b = refl
crc_bits-xor (suc n) a b = ap (crc_bits n) (crc_bit-xor a b) ∙ crc_bits-xor n (crc_bit a) (crc_bit b)

half-table : (k : ℕ) → k < 16 → crc_bits 4 k ≡ get_or half_table k 0
unfolding crc_bits crc_bit half_table
half-table = equal-below (crc_bits 4) (λ k. get_or half_table k 0) 16 tt

-- the register is its upper part, above four zeros, xor its low half-byte
pub half_bytes_right : HalfBytesRight
half_bytes_right r =
    ap (crc_bits 4) (sym (xor_shifted (r / 16) 4 (r % 16) (mod-lt r (zero-lt-suc 15)) ∙ split r 4))
    ∙ crc_bits-xor 4 (r / 16 * 16) (r % 16)
    ∙ ap₂ bit_xor (shift-out 4 (r / 16)) (half-table (r % 16) (mod-lt r (zero-lt-suc 15)))

pub byte_halves : (r : ℕ) → crc_bits 8 r ≡ crc_bits 4 (crc_bits 4 r)
unfolding crc_bits
byte_halves r = refl

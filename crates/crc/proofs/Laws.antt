-- The laws of CRC_A that callers use in place of its definition.
--
--   crc_from_folds    the register after bs is the fold of the byte step over them
--   crc_from-append   the register after a ++ b goes on from the register after a
--   Bytes bs         every element of bs is a byte
--   crc_from-lt       over bytes a register of 16 bits stays one
--   on_air-lt         the two bytes of a CRC of 16 bits are bytes
--   on_air-back       low byte + 256 * high byte is the CRC
--   on_air-length     they are two
--   with_crc-length   a frame with its CRC_A is two bytes longer
--   shift-out        low bits that are 0 are shifted out, and nothing feeds back
--   crc_from-on_air    a register that meets its own two bytes ends at 0
--   residue-is-zero  the claim ResidueIsZero of specs/CrcA.antt
--
-- Assumes nothing.
use mathlib.Core.Path.{◌≡◌, refl, sym, ap, ap₂, ◌∙◌}
use mathlib.Core.List.{List, [], ◌∷◌, ◌++◌}
use Prim.Native.Nat.{ℕ, zero, suc, ◌+◌, ◌*◌, ◌/◌, ◌%◌, ◌^◌, ◌<◌}
use native.Mathlib.Nat.{mod-lt, zero-lt-suc}
use native.Mathlib.Omega.{arith}
use Rattle.std.specs.List.{fold}
use lib.Bits.{bit_xor, xor_lt, xor_self, xor_shifted, shifted_half, shifted_even}
use lib.Pow.{split}
use lib.ListN.{length, get_or, length-append}
use Rattle.bits.proofs.Xor.{xor-cancel}
use Rattle.crc.specs.CrcA.{feed_back, crc_bit, crc_bits, crc_byte, crc_from, crc_a, on_air, with_crc, ResidueIsZero}

pub crc_from_folds : (r : ℕ) (bs : List ℕ) → crc_from r bs ≡ fold crc_byte r bs
unfolding crc_from
crc_from_folds r [] = refl
crc_from_folds r (b ∷ bs) = crc_from_folds (crc_byte r b) bs

pub crc_from-append : (r : ℕ) (a b : List ℕ) → crc_from r (a ++ b) ≡ crc_from (crc_from r a) b
unfolding crc_from
crc_from-append r [] b = refl
crc_from-append r (x ∷ a) b = crc_from-append (crc_byte r x) a b

-- ---- 16 bits

abbrev pub Bytes : List ℕ → Type 0
Bytes bs = (i : ℕ) → get_or bs i 0 < 256

feed_back-lt : (b r : ℕ) → r < 65536 → feed_back b r < 65536
feed_back-lt zero r h = h
feed_back-lt (suc b) r h = xor_lt 16 r _ h (omega arith)

crc_bits-lt : (n r : ℕ) → r < 65536 → crc_bits n r < 65536
unfolding crc_bits crc_bit
crc_bits-lt zero r h = h
crc_bits-lt (suc n) r h = crc_bits-lt n (crc_bit r) (feed_back-lt (r % 2) (r / 2) (omega arith))

pub crc_from-lt : (r : ℕ) (bs : List ℕ) → r < 65536 → Bytes bs → crc_from r bs < 65536
unfolding crc_from crc_byte
crc_from-lt r [] h bytes = h
crc_from-lt r (b ∷ bs) h bytes =
    crc_from-lt (crc_byte r b) bs (crc_bits-lt 8 (bit_xor r b) (xor_lt 16 r b h (omega (arith, bytes 0)))) (λ i. bytes (suc i))

-- ---- the two bytes on air

pub on_air-lt : (c : ℕ) → c < 65536 → Bytes (on_air c)
unfolding on_air
on_air-lt c h zero = omega arith
on_air-lt c h (suc zero) = omega arith
on_air-lt c h (suc (suc i)) = omega arith

pub on_air-back : (c : ℕ) → get_or (on_air c) 0 0 + 256 * get_or (on_air c) 1 0 ≡ c
unfolding on_air
on_air-back c = omega arith

pub on_air-length : (c : ℕ) → length (on_air c) ≡ 2
unfolding on_air
on_air-length c = refl

pub with_crc-length : (bs : List ℕ) → length (with_crc bs) ≡ length bs + 2
unfolding with_crc
with_crc-length bs = length-append bs (on_air (crc_a bs)) ∙ ap (λ (n : ℕ). length bs + n) (on_air-length (crc_a bs))

-- ---- the residue

-- n low bits that are 0 are shifted out, and nothing feeds back
pub shift-out : (n h : ℕ) → crc_bits n (h * 2 ^ n) ≡ h
unfolding crc_bits crc_bit
shift-out zero h = omega arith
shift-out (suc n) h = ap (crc_bits n) (ap₂ feed_back (shifted_even h n) (shifted_half h n)) ∙ shift-out n h

-- a register xored with its own low byte is its high byte above eight zeros
xor_low : (c : ℕ) → bit_xor c (c % 256) ≡ c / 256 * 256
xor_low c =
    let l = c % 256 in
    ap (λ (x : ℕ). bit_xor x l) (sym (xor_shifted (c / 256) 8 l (mod-lt c (zero-lt-suc 255)) ∙ split c 8))
    ∙ xor-cancel (c / 256 * 256) l

pub crc_from-on_air : (c : ℕ) → crc_from c (on_air c) ≡ 0
unfolding crc_from crc_byte on_air
crc_from-on_air c =
    ap (λ (r : ℕ). crc_byte r (c / 256)) (ap (crc_bits 8) (xor_low c) ∙ shift-out 8 (c / 256))
    ∙ ap (crc_bits 8) (xor_self (c / 256))
    ∙ shift-out 8 0

pub residue-is-zero : ResidueIsZero
unfolding with_crc crc_a
residue-is-zero bs = crc_from-append 0x6363 bs (on_air (crc_a bs)) ∙ crc_from-on_air (crc_a bs)

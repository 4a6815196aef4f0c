-- The laws of a one-way byte, from the bits of `or` and `and`. The claims are stated in specs/Bits.antt.
--
--   bit-one_way               bit k afterwards, from bit k of the mask, of old and of new
--   open-bit-is-old-or-new, frozen-bit-kept, set-bit-never-cleared
--                            the three claims
--   one_way-lt, one_way-byte   two numbers of w bits, two bytes, give one
--   one_way-frozen            with no bit open nothing changes
--   one_way-open              with every bit open the value is old or new
--   one_way-again             the same write again changes nothing
--
-- Assumes nothing.
use mathlib.Core.Path.{◌≡◌, ap, ◌∙◌}
use Prim.Native.Nat.{ℕ, ◌-◌, ◌^◌, ◌<◌, min, max}
use native.Mathlib.Nat.{mod-eq_of_lt, lt_of_le_of_lt}
use native.Mathlib.Omega.{arith}
use lib.Bits.{bit_or, bit_and, or_lt, and_le_l, and_zero_r, or_zero_r, and_mask}
use Rattle.bits.specs.Bits.{bit_of, one_way, OpenBitIsOldOrNew, FrozenBitKept, SetBitNeverCleared}
use Rattle.bits.proofs.Bit.{bit-lt, bit-or, bit-and, bits-ext}

pub bit-one_way : (k mask old new : ℕ) → bit_of k (one_way mask old new) ≡ max (bit_of k old) (min (bit_of k new) (bit_of k mask))
unfolding one_way
bit-one_way k mask old new = simp (bit-or, bit-and)

pub open-bit-is-old-or-new : OpenBitIsOldOrNew
open-bit-is-old-or-new k mask old new h = rw bit-one_way (omega (arith, bit-lt k new))

pub frozen-bit-kept : FrozenBitKept
frozen-bit-kept k mask old new h = rw bit-one_way (omega arith)

pub set-bit-never-cleared : SetBitNeverCleared
set-bit-never-cleared k mask old new h = rw bit-one_way (omega (arith, bit-lt k new))

pub one_way-lt : (w mask : ℕ) {old new : ℕ} → old < 2 ^ w → new < 2 ^ w → one_way mask old new < 2 ^ w
unfolding one_way
one_way-lt w mask {old} {new} ho hn = or_lt w old (bit_and new mask) ho (lt_of_le_of_lt (and_le_l new mask) hn)

pub one_way-byte : (mask : ℕ) {old new : ℕ} → old < 256 → new < 256 → one_way mask old new < 256
one_way-byte = one_way-lt 8

pub one_way-frozen : (old new : ℕ) → one_way 0 old new ≡ old
unfolding one_way
one_way-frozen old new = simp (and_zero_r, or_zero_r)

pub one_way-open : (w old new : ℕ) → new < 2 ^ w → one_way (2 ^ w - 1) old new ≡ bit_or old new
unfolding one_way
one_way-open w old new h = ap (bit_or old) (and_mask new w ∙ mod-eq_of_lt h)

pub one_way-again : (mask old new : ℕ) → one_way mask (one_way mask old new) new ≡ one_way mask old new
one_way-again mask old new = bits-ext _ _ (λ k. simp bit-one_way (omega arith))

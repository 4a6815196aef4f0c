-- The bits of a number, and the rule of a one-way byte: a byte whose bits a write can set and nothing can clear.
--
--   bit_of k n             bit k of n, counted from 0, the lowest
--   one_way mask old new   a one-way byte after a write: it held old, new was written, and mask has a 1 at each bit that may still be set
--
-- What is claimed of one_way, for every mask and every bit (proved in proofs/OneWay.antt):
--   OpenBitIsOldOrNew     an open bit ends as the old bit or the new bit, whichever is set
--   FrozenBitKept         a bit that is not open keeps its value
--   SetBitNeverCleared    a bit that is set stays set
--
-- Assumes nothing.
use Rattle.std.specs.Prelude.{◌≡◌, ℕ, ◌/◌, ◌%◌, ◌^◌, max}
use Rattle.std.specs.Int.Bits.{bit_or, bit_and}

-- bit k of n
unfoldable pub bit_of : ℕ → ℕ → ℕ
bit_of k n = n / 2 ^ k % 2

-- the value of a one-way byte after a write: the old bits, and those new bits that mask lets through
unfoldable pub one_way : ℕ → ℕ → ℕ → ℕ
one_way mask old new = bit_or old (bit_and new mask)

-- where mask has a 1, the bit afterwards is the larger of the old bit and the new bit
abbrev pub OpenBitIsOldOrNew : Type 0
OpenBitIsOldOrNew =
    (k mask old new : ℕ) → bit_of k mask ≡ 1 → bit_of k (one_way mask old new) ≡ max (bit_of k old) (bit_of k new)

-- where mask has a 0, the bit afterwards is the old bit, whatever is written
abbrev pub FrozenBitKept : Type 0
FrozenBitKept = (k mask old new : ℕ) → bit_of k mask ≡ 0 → bit_of k (one_way mask old new) ≡ bit_of k old

-- a bit that was 1 is 1 afterwards, whatever the mask and whatever is written
abbrev pub SetBitNeverCleared : Type 0
SetBitNeverCleared = (k mask old new : ℕ) → bit_of k old ≡ 1 → bit_of k (one_way mask old new) ≡ 1

-- A number's bytes as std's `to_le_bytes` gives them are those of `low_first`.
--
--   low_bytes       the low bytes of a number of 32 bits
--
-- Assumes nothing.
use mathlib.Core.Path.{◌≡◌, refl}
use Rattle.std.proofs.Math.Nat.{div-div-eq-div-mul}
use Prim.Native.Nat.{ℕ, zero, suc, ◌≤◌}
use native.Mathlib.Omega.{arith}
use lib.ListN.{take}
use Rattle.std.specs.Int.{w32, to_le_bytes}
use Rattle.model.specs.Counters.{low_first}

pub low_bytes : (count n : ℕ) → count ≤ 4 → take count (to_le_bytes w32 n) ≡ low_first count n
low_bytes zero n h = refl
low_bytes (suc zero) n h = refl
low_bytes (suc (suc zero)) n h = refl
low_bytes (suc (suc (suc zero))) n h = simp div-div-eq-div-mul
low_bytes (suc (suc (suc (suc zero)))) n h = simp div-div-eq-div-mul
low_bytes (suc (suc (suc (suc (suc count))))) n h = absurd (omega arith)

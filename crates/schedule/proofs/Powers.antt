-- The table of the powers of x: its rule is computed at its ten entries.
--
--   powers_right   entry n is x to the n
--
-- Assumes nothing.
use mathlib.Core.Path.{◌≡◌}
use mathlib.Core.List.{[], ◌∷◌}
use Prim.Native.Nat.{ℕ, ◌<◌}
use lib.ListN.{get_or}
use Rattle.bits.proofs.Test.{equal-below}
use Rattle.fips197.specs.Field.{xtime}
use Rattle.fips197.specs.KeyExpansion.{power_of_x}

pub powers_right : (n : ℕ) → n < 10 → get_or (1 ∷ 2 ∷ 4 ∷ 8 ∷ 16 ∷ 32 ∷ 64 ∷ 128 ∷ 27 ∷ 54 ∷ []) n 0 ≡ power_of_x n
unfolding power_of_x xtime
powers_right = equal-below (λ n. get_or (1 ∷ 2 ∷ 4 ∷ 8 ∷ 16 ∷ 32 ∷ 64 ∷ 128 ∷ 27 ∷ 54 ∷ []) n 0) power_of_x 10 tt

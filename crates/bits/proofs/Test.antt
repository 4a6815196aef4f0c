-- A rule of every number below a bound, proved by one test that antt computes.
--
--   both a b          both tests pass
--   passes f n        the test f passes at each number below n
--   passes_at         what passes below n passes at each of them
--   equal-below       two functions that a computed test finds equal below n are equal there
--
-- Assumes nothing.
use mathlib.Core.Path.{◌≡◌, subst}
use mathlib.Core.Bool.{Bool, true, false}
use Prim.Native.Nat.{ℕ, zero, suc, ◌<◌}
use native.Mathlib.Nat.{not-suc-le-zero}
use native.Mathlib.Omega.{arith}
use native.Mathlib.Decide.{dec_lt}
use lib.Dec.{T, eqb, eqb→eq}

abbrev pub both : Bool → Bool → Bool
both true b = b
both false b = false

pub both_left : (a b : Bool) → T (both a b) → T a
both_left true b t = tt
both_left false b t = t

pub both_right : (a b : Bool) → T (both a b) → T b
both_right true b t = t
both_right false b t = absurd t

abbrev pub passes : (ℕ → Bool) → ℕ → Bool
passes f zero = true
passes f (suc n) = both (f n) (passes f n)

-- below n + 1 is below n, or n itself
last : (f : ℕ → Bool) (n k : ℕ) → k < suc n → T (f n) → (k < n → T (f k)) → T (f k)
last f n k h top below = pick (dec_lt k n)
  where
    pick : Dec (k < n) → T (f k)
    pick (yes less) = below less
    pick (no least) = subst (λ (m : ℕ). T (f m)) (omega arith) top

pub passes_at : (f : ℕ → Bool) (n : ℕ) → T (passes f n) → (k : ℕ) → k < n → T (f k)
passes_at f zero t k h = absurd (not-suc-le-zero h)
passes_at f (suc n) t k h =
    last f n k h (both_left (f n) (passes f n) t) (λ less. passes_at f n (both_right (f n) (passes f n) t) k less)

pub equal-below : (f g : ℕ → ℕ) (n : ℕ) → T (passes (λ k. eqb (f k) (g k)) n) → (k : ℕ) → k < n → f k ≡ g k
equal-below f g n t k h = eqb→eq (f k) (g k) (passes_at (λ k. eqb (f k) (g k)) n t k h)

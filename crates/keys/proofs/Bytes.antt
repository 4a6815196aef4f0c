-- Laws of blocks turned, and of comparing them, for the functions that do it.
--
--   turned            the first byte behind the others is the block rotated
--   same_more         one more byte of each compared
--   same-all          none is left of either
--
-- Assumes nothing.
use mathlib.Core.Path.{◌≡◌, refl, sym, ap, ◌∙◌}
use mathlib.Core.List.{List, [], ◌∷◌, ◌++◌}
use mathlib.Core.Bool.{Bool, ◌&&◌, and-true, and_assoc}
use Prim.Native.Nat.{ℕ}
use native.Mathlib.Omega.{arith}
use lib.Dec.{eqb}
use lib.ListN.{length, take, drop}
use Rattle.fips197.specs.State.{at, state}
use Rattle.fips197.proofs.State.{state-at}
use Rattle.model.specs.Authentication.{rotated, same_bytes}

turned-state : (f : ℕ → ℕ → ℕ) → drop 1 (state f) ++ take 1 (state f) ≡ rotated (state f)
unfolding rotated
turned-state f = refl

pub turned : (b : List ℕ) → length b ≡ 16 → drop 1 b ++ take 1 b ≡ rotated b
turned b h = let e = state-at b h in sym (ap (λ (x : List ℕ). drop 1 x ++ take 1 x) e) ∙ turned-state (at b) ∙ ap rotated e

pub same_more : (a b xs ys : List ℕ) (x y : ℕ) (same : Bool) → a ≡ x ∷ xs → b ≡ y ∷ ys
    → (same && eqb x y) && same_bytes xs ys ≡ same && same_bytes a b
unfolding same_bytes
same_more a b xs ys x y same ea eb = rw (ea, eb) (and_assoc same (eqb x y) (same_bytes xs ys))

pub same-all : (a b : List ℕ) (same : Bool) → length a ≡ 0 → length b ≡ 0 → same && same_bytes a b ≡ same
unfolding same_bytes
same-all [] [] same ea eb = and-true same
same-all [] (y ∷ b) same ea eb = absurd (omega arith)
same-all (x ∷ a) b same ea eb = absurd (omega arith)

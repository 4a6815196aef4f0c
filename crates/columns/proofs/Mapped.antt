-- A function at each byte of a state.
--
--   map_state   it is the state of its bytes, row by row and column by column
--
-- Assumes nothing.
use mathlib.Core.Path.{◌≡◌, sym, ap}
use mathlib.Core.List.{List, map}
use Prim.Native.Nat.{ℕ}
use lib.ListN.{length}
use Rattle.fips197.specs.State.{at, state}
use Rattle.fips197.proofs.State.{state-at}

pub map_state : (h : ℕ → ℕ) (s : List ℕ) → length s ≡ 16 → map h s ≡ state (λ r c. h (at s r c))
map_state h s long = ap (map h) (sym (state-at s long))

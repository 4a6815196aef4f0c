-- Laws of the state as a table of rows and columns.
--
--   four           what holds at 0, 1, 2 and 3 holds below 4
--   at-state       the byte in row r and column c of state f is f r c
--   get_or-state     byte i of state f is in row i mod 4 and column i / 4
--   state-cong     two states with the same bytes are equal
--   state-at       a list of 16 is the state of its bytes
--   state-block    a state of bytes is a block
--
-- Assumes nothing.
use mathlib.Core.Path.{◌≡◌, refl, sym, ap, ◌∙◌}
use mathlib.Core.List.{List}
use Prim.Native.Nat.{ℕ, zero, suc, ◌+◌, ◌*◌, ◌/◌, ◌%◌, ◌<◌}
use native.Mathlib.Omega.{arith}
use native.Mathlib.Decide.{dec_lt}
use lib.Dec.{lit<}
use lib.ListN.{length, get_or, get_or-eq_default}
use lib.Seq.{ext_get_or}
use Rattle.fips197.specs.State.{at, state, IsBlock}

-- what holds at 0, 1, 2 and 3 holds below 4
pub four : (P : ℕ → Type 0) → P 0 → P 1 → P 2 → P 3 → (r : ℕ) → r < 4 → P r
four P p0 p1 p2 p3 zero h = p0
four P p0 p1 p2 p3 (suc zero) h = p1
four P p0 p1 p2 p3 (suc (suc zero)) h = p2
four P p0 p1 p2 p3 (suc (suc (suc zero))) h = p3
four P p0 p1 p2 p3 (suc (suc (suc (suc r)))) h = absurd (omega arith)

pub at-state : (f : ℕ → ℕ → ℕ) (r c : ℕ) → r < 4 → c < 4 → at (state f) r c ≡ f r c
at-state f r c hr hc =
    four (λ r. at (state f) r c ≡ f r c)
    (four (λ c. at (state f) 0 c ≡ f 0 c) refl refl refl refl c hc)
    (four (λ c. at (state f) 1 c ≡ f 1 c) refl refl refl refl c hc)
    (four (λ c. at (state f) 2 c ≡ f 2 c) refl refl refl refl c hc)
    (four (λ c. at (state f) 3 c ≡ f 3 c) refl refl refl refl c hc)
    r
    hr

-- byte i is in row i mod 4 and column i / 4
place : (i : ℕ) → i % 4 + 4 * (i / 4) ≡ i
place i = omega arith

pub get_or-state : (f : ℕ → ℕ → ℕ) (i : ℕ) → i < 16 → get_or (state f) i 0 ≡ f (i % 4) (i / 4)
get_or-state f i h = ap (λ (k : ℕ). get_or (state f) k 0) (sym (place i)) ∙ at-state f (i % 4) (i / 4) (omega arith) (omega arith)

pub state-cong : (f g : ℕ → ℕ → ℕ) → ((r c : ℕ) → r < 4 → c < 4 → f r c ≡ g r c) → state f ≡ state g
state-cong f g h =
    ext_get_or 0 (state f) (state g) refl
    (λ i hi. get_or-state f i hi ∙ h (i % 4) (i / 4) (omega arith) (omega arith) ∙ sym (get_or-state g i hi))

pub state-at : (s : List ℕ) → length s ≡ 16 → state (at s) ≡ s
state-at s h =
    ext_get_or 0 (state (at s)) s (sym h) (λ i hi. get_or-state (at s) i hi ∙ ap (λ (k : ℕ). get_or s k 0) (place i))

pub state-block : (f : ℕ → ℕ → ℕ) → ((r c : ℕ) → r < 4 → c < 4 → f r c < 256) → IsBlock (state f)
state-block f h = record { sixteen = refl; bytes = λ i. byte i (dec_lt i 16) }
  where
    byte : (i : ℕ) → Dec (i < 16) → get_or (state f) i 0 < 256
    byte i (yes less) = rw (get_or-state f i less) (h (i % 4) (i / 4) (omega arith) (omega arith))
    byte i (no more) = rw (get_or-eq_default (state f) 0 {n = i} (omega arith)) (lit< tt)

-- A number and a block by their bytes.
--
--   number-two, number-three    a number of two and of three bytes
--   number-four                 a number of four bytes, by its two halves
--   block-read                  the bytes of a list that is the block
--
-- Assumes nothing.
use mathlib.Core.Path.{◌≡◌, ap, ◌∙◌}
use mathlib.Core.List.{List}
use Prim.Native.Nat.{ℕ, suc, ◌+◌, ◌*◌, ◌≤◌, ◌<◌}
use native.Mathlib.Numerals.{add-one}
use native.Mathlib.Omega.{arith}
use native.Mathlib.Decide.{dec_lt}
use lib.ListN.{length, get_or, drop_of_length-le, get_or-eq_default}
use lib.Seq.{drop-cons, take-nil}
use Rattle.fips197.specs.Cbc.{block_of}
use Rattle.fips197.proofs.Cbc.{block-byte}
use Rattle.model.specs.Image.{number_at}

-- the first byte, and the rest; past the end both are 0
number_more : (l : List ℕ) (n k : ℕ) → number_at l n (suc k) ≡ get_or l n 0 + 256 * number_at l (n + 1) k
number_more l n k = by (dec_lt n (length l))
  where
    by : Dec (n < length l) → number_at l n (suc k) ≡ get_or l n 0 + 256 * number_at l (n + 1) k
    by (yes h) = rw (drop-cons l n 0 h, add-one)
    by (no h) =
        let past : length l ≤ n = omega arith in
        let past' : length l ≤ n + 1 = omega arith in
        rw (drop_of_length-le l past, drop_of_length-le l past', take-nil k, get_or-eq_default l 0 past)

pub number-two : (l : List ℕ) (n : ℕ) → number_at l n 2 ≡ get_or l n 0 + 256 * get_or l (n + 1) 0
number-two l n = omega (arith, number_more l n 1, number_more l (n + 1) 0)

pub number-three : (l : List ℕ) (n : ℕ) → number_at l n 3 ≡ get_or l n 0 + 256 * (get_or l (n + 1) 0 + 256 * get_or l (n + 2) 0)
number-three l n =
    let e : n + 1 + 1 ≡ n + 2 = omega arith in
    number_more l n 2 ∙ ap (λ (x : ℕ). get_or l n 0 + 256 * x) (number-two l (n + 1) ∙ ap (λ (j : ℕ). get_or l (n + 1) 0 + 256 * get_or l j 0) e)

pub number-four : (l : List ℕ) (n : ℕ) → number_at l n 4 ≡ number_at l n 2 + 65536 * number_at l (n + 2) 2
number-four l n =
    let e : n + 1 + 1 ≡ n + 2 = omega arith in
    let e' : n + 1 + 2 ≡ n + 2 + 1 = omega arith in
    omega (arith, number_more l n 3, rw (e, e') at (number-three l (n + 1)), number-two l n, number-two l (n + 2))

pub block-read : (l : List ℕ) (n : ℕ) (b : List ℕ) → b ≡ block_of l n → (k : ℕ) → k < 16 → get_or b k 0 ≡ get_or l (n + k) 0
block-read l n b e k h = ap (λ (x : List ℕ). get_or x k 0) e ∙ block-byte l n k h

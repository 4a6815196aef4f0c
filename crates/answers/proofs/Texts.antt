-- Laws of digits that are put one behind the other.
--
--   byte_put    the two digits of one more byte, behind those of the bytes so far
--
-- Assumes nothing.
use Rattle.std.proofs.Common.{◌≡◌, ℕ, ◌+◌, ◌*◌, ◌/◌, ◌%◌, List, [], ◌∷◌, ◌++◌, get_or, map, refl, sym, ◌∙◌, ap, arith, append_assoc, zero-add}
use Rattle.std.specs.List.{range_with_len}
use Rattle.std.proofs.lemmas.List.FromFn.{map-range_with_len_more}
use Rattle.answers.specs.Answer.{letter_of, half_at, letter_at}

high : (ds : List ℕ) (i : ℕ) → letter_at ds (2 * i) ≡ letter_of (get_or ds i 0 / 16)
unfolding letter_at half_at
high ds i =
    let even : 2 * i % 2 ≡ 0 = omega arith in
    let half : 2 * i / 2 ≡ i = omega arith in
    rw (even, half) refl

low : (ds : List ℕ) (i : ℕ) → letter_at ds (2 * i + 1) ≡ letter_of (get_or ds i 0 % 16)
unfolding letter_at half_at
low ds i =
    let odd : (2 * i + 1) % 2 ≡ 1 = omega arith in
    let half : (2 * i + 1) / 2 ≡ i = omega arith in
    rw (odd, half) refl

-- the first n digits
abbrev digits_of : List ℕ → ℕ → List ℕ
digits_of ds n = map (letter_at ds) (range_with_len 0 n)

one_more : (ds : List ℕ) (n : ℕ) → digits_of ds (n + 1) ≡ digits_of ds n ++ letter_at ds n ∷ []
one_more ds n = map-range_with_len_more (letter_at ds) 0 n n (zero-add n)

two_more : (ds : List ℕ) (i : ℕ)
    → digits_of ds (2 * (i + 1)) ≡ digits_of ds (2 * i) ++ (letter_of (get_or ds i 0 / 16) ∷ letter_of (get_or ds i 0 % 16) ∷ [])
two_more ds i =
    let next : 2 * (i + 1) ≡ 2 * i + 1 + 1 = omega arith in
    ap (digits_of ds) next
    ∙ one_more ds (2 * i + 1)
    ∙ ap (λ (xs : List ℕ). xs ++ letter_at ds (2 * i + 1) ∷ []) (one_more ds (2 * i))
    ∙ append_assoc (digits_of ds (2 * i)) (letter_at ds (2 * i) ∷ []) (letter_at ds (2 * i + 1) ∷ [])
    ∙ (λ k. digits_of ds (2 * i) ++ (high ds i k ∷ low ds i k ∷ []))

pub byte_put : (l before after ds two : List ℕ) (i : ℕ) → before ≡ l ++ map (letter_at ds) (range_with_len 0 (2 * i))
    → two ≡ letter_of (get_or ds i 0 / 16) ∷ letter_of (get_or ds i 0 % 16) ∷ [] → after ≡ before ++ two
    → after ≡ l ++ map (letter_at ds) (range_with_len 0 (2 * (i + 1)))
byte_put l before after ds two i so_far digits put =
    put
    ∙ (λ k. so_far k ++ digits k)
    ∙ append_assoc l (digits_of ds (2 * i)) (letter_of (get_or ds i 0 / 16) ∷ letter_of (get_or ds i 0 % 16) ∷ [])
    ∙ ap (λ x. l ++ x) (sym (two_more ds i))

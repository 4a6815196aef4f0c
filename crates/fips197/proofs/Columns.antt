-- MixColumns and InvMixColumns undo each other: both are additive, so it is enough to compute the columns with one bit.
--
--   Additive4                a function of four numbers that turns xor into xor, with the proof that it does
--   argument, sum, times     such functions: each argument, the xor of two, a multiple
--   agree4                   two of them that agree where one argument has one bit and the others none agree on bytes
--   row_of m r                row r of m ⊗ u, from the four bytes of u, as column_byte has it
--   cancels m n              m ⊗ (n ⊗ u) is u, as a test over the bits of a column u
--   columns-undo             two polynomials that cancel undo each other on every column of a block
--
-- Assumes nothing.
use mathlib.Core.Path.{◌≡◌, refl, sym, ap, ap₂, ◌∙◌}
use mathlib.Core.Bool.{Bool}
use mathlib.Core.List.{List}
use Prim.Native.Nat.{ℕ, zero, suc, ◌+◌, ◌*◌, ◌%◌, ◌^◌, ◌<◌}
use lib.Bits.{bit_xor, xor_zero_r}
use lib.Dec.{T, eqb, lit<}
use lib.ListN.{get_or}
use Rattle.bits.proofs.Xor.{xor-swap}
use Rattle.bits.proofs.Test.{passes, passes_at}
use Rattle.bits.proofs.Additive.{Additive, additive-agree}
use Rattle.fips197.specs.Field.{◌xor◌, product}
use Rattle.fips197.specs.State.{at, state, column_byte, IsBlock}
use Rattle.fips197.proofs.Field.{product-additive}
use Rattle.fips197.proofs.State.{four, at-state, state-cong, state-at}

pub record Additive4 : Type 0 where
  pub of : ℕ → ℕ → ℕ → ℕ → ℕ
  pub additive : (a b c d a' b' c' d' : ℕ) → of (a xor a') (b xor b') (c xor c') (d xor d') ≡ of a b c d xor of a' b' c' d'

-- argument number p, from 0; past the last, 0
abbrev argument : ℕ → Additive4
argument zero = record { of = λ a b c d. a; additive = λ a b c d a' b' c' d'. refl }
argument (suc zero) = record { of = λ a b c d. b; additive = λ a b c d a' b' c' d'. refl }
argument (suc (suc zero)) = record { of = λ a b c d. c; additive = λ a b c d a' b' c' d'. refl }
argument (suc (suc (suc zero))) = record { of = λ a b c d. d; additive = λ a b c d a' b' c' d'. refl }
argument (suc (suc (suc (suc p)))) = record { of = λ a b c d. 0; additive = λ a b c d a' b' c' d'. refl }

abbrev sum : Additive4 → Additive4 → Additive4
sum f g = record {
  of = λ a b c d. f.of a b c d xor g.of a b c d;
  additive = λ a b c d a' b' c' d'.
      ap₂ bit_xor (f.additive a b c d a' b' c' d') (g.additive a b c d a' b' c' d')
      ∙ xor-swap (f.of a b c d) (f.of a' b' c' d') (g.of a b c d) (g.of a' b' c' d');
}

abbrev times : ℕ → Additive4 → Additive4
times k f = record {
  of = λ a b c d. product k (f.of a b c d);
  additive = λ a b c d a' b' c' d'.
      ap (product k) (f.additive a b c d a' b' c' d') ∙ product-additive k (f.of a b c d) (f.of a' b' c' d');
}

-- f with x as its argument number p, from 0, and 0 as the others
abbrev lone : Additive4 → ℕ → ℕ → ℕ
lone f zero x = f.of x 0 0 0
lone f (suc zero) x = f.of 0 x 0 0
lone f (suc (suc zero)) x = f.of 0 0 x 0
lone f (suc (suc (suc p))) x = f.of 0 0 0 x

lone-additive : (f : Additive4) (p : ℕ) → Additive (lone f p)
lone-additive f zero x y = f.additive x 0 0 0 y 0 0 0
lone-additive f (suc zero) x y = f.additive 0 x 0 0 0 y 0 0
lone-additive f (suc (suc zero)) x y = f.additive 0 0 x 0 0 0 y 0
lone-additive f (suc (suc (suc p))) x y = f.additive 0 0 0 x 0 0 0 y

-- one argument after the other is split off
apart : (f : Additive4) (a b c d : ℕ) → f.of a b c d ≡ lone f 0 a xor (lone f 1 b xor (lone f 2 c xor lone f 3 d))
apart f a b c d =
    ap (λ (x : ℕ). f.of x b c d) (sym (xor_zero_r a)) ∙ f.additive a 0 0 0 0 b c d
    ∙ ap (λ (x : ℕ). f.of a 0 0 0 xor x)
    (ap (λ (x : ℕ). f.of 0 x c d) (sym (xor_zero_r b)) ∙ f.additive 0 b 0 0 0 0 c d
    ∙ ap (λ (x : ℕ). f.of 0 b 0 0 xor x) (ap (λ (x : ℕ). f.of 0 0 x d) (sym (xor_zero_r c)) ∙ f.additive 0 0 c 0 0 0 0 d))

-- f and g agree where argument p has one of 8 bits and the others none
abbrev agree_at : Additive4 → Additive4 → ℕ → Bool
agree_at f g p = passes (λ k. eqb (lone f p (2 ^ k)) (lone g p (2 ^ k))) 8

agree4 : (f g : Additive4) → T (passes (agree_at f g) 4)
    → (a b c d : ℕ) → a < 256 → b < 256 → c < 256 → d < 256 → f.of a b c d ≡ g.of a b c d
agree4 f g t a b c d ha hb hc hd =
    apart f a b c d
    ∙ ap₂ bit_xor (same 0 (lit< tt) a ha) (ap₂ bit_xor (same 1 (lit< tt) b hb) (ap₂ bit_xor (same 2 (lit< tt) c hc) (same 3 (lit< tt) d hd)))
    ∙ sym (apart g a b c d)
  where
    same : (p : ℕ) → p < 4 → (x : ℕ) → x < 256 → lone f p x ≡ lone g p x
    same p hp = additive-agree (lone f p) (lone g p) (lone-additive f p) (lone-additive g p) 8 (passes_at (agree_at f g) 4 t p hp)

-- row r of m ⊗ u, where u's bytes are f, g, h and k of the arguments
abbrev row : List ℕ → ℕ → Additive4 → Additive4 → Additive4 → Additive4 → Additive4
row m r f g h k =
    sum
    (sum (sum (times (get_or m (r % 4) 0) f) (times (get_or m ((r + 3) % 4) 0) g)) (times (get_or m ((r + 2) % 4) 0) h))
    (times (get_or m ((r + 1) % 4) 0) k)

abbrev row_of : List ℕ → ℕ → Additive4
row_of m r = row m r (argument 0) (argument 1) (argument 2) (argument 3)

-- row r of m ⊗ (n ⊗ u)
abbrev twice : List ℕ → List ℕ → ℕ → Additive4
twice m n r = row m r (row_of n 0) (row_of n 1) (row_of n 2) (row_of n 3)

abbrev pub cancels : List ℕ → List ℕ → Bool
cancels m n = passes (λ r. passes (agree_at (twice m n r) (argument r)) 4) 4

argument-at : (s : List ℕ) (c r : ℕ) → r < 4 → (argument r).of (at s 0 c) (at s 1 c) (at s 2 c) (at s 3 c) ≡ at s r c
argument-at s c = four (λ r. (argument r).of (at s 0 c) (at s 1 c) (at s 2 c) (at s 3 c) ≡ at s r c) refl refl refl refl

pub columns-undo : (m n : List ℕ) → T (cancels m n) → (s : List ℕ) → IsBlock s → state (column_byte m (state (column_byte n s))) ≡ s
columns-undo m n t s h = state-cong (column_byte m (state (column_byte n s))) (at s) byte ∙ state-at s h.sixteen
  where
    product_at : (r c : ℕ) → r < 4 → c < 4 → at (state (column_byte n s)) r c ≡ column_byte n s r c
    product_at = at-state (column_byte n s)

    byte : (r c : ℕ) → r < 4 → c < 4 → column_byte m (state (column_byte n s)) r c ≡ at s r c
    byte r c hr hc =
        (λ i. (row_of m r).of (product_at 0 c (lit< tt) hc i) (product_at 1 c (lit< tt) hc i) (product_at 2 c (lit< tt) hc i) (product_at 3 c (lit< tt) hc i))
        ∙ agree4 (twice m n r) (argument r) (passes_at (λ r. passes (agree_at (twice m n r) (argument r)) 4) 4 t r hr)
        (at s 0 c) (at s 1 c) (at s 2 c) (at s 3 c)
        (h.bytes (0 + 4 * c)) (h.bytes (1 + 4 * c)) (h.bytes (2 + 4 * c)) (h.bytes (3 + 4 * c))
        ∙ argument-at s c r hr

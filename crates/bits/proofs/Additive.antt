-- Functions on numbers that turn xor into xor, and how few values tell them apart.
--
--   Additive f            f (a xor b) is f a xor f b
--   additive-zero         such a function is 0 at 0
--   additive-agree        two of them that agree at each power of two below 2 ^ n agree below 2 ^ n
--
-- A rule of a linear step is so a test at 8 or 16 values that antt computes. Assumes nothing.
use mathlib.Core.Path.{◌≡◌, sym, ap, ap₂, ◌∙◌}
use mathlib.Core.Bool.{Bool}
use Prim.Native.Nat.{ℕ, zero, suc, ◌*◌, ◌/◌, ◌%◌, ◌^◌, ◌<◌}
use native.Mathlib.Nat.{mod-lt, one-mul, zero-mul}
use native.Mathlib.Numerals.{one-add}
use lib.Arith.{lt-one}
use lib.Bits.{bit_xor, xor_self, xor_shifted}
use lib.Dec.{T, eqb, eqb→eq}
use lib.Pow.{pow_pos, split, shr_lt}
use Rattle.bits.proofs.Bit.{Digit, off, on, digit-of}
use Rattle.bits.proofs.Test.{both_left, both_right, passes}

-- f turns xor into xor
abbrev pub Additive : (ℕ → ℕ) → Type 0
Additive f = (a b : ℕ) → f (bit_xor a b) ≡ bit_xor (f a) (f b)

pub additive-zero : (f : ℕ → ℕ) → Additive f → f 0 ≡ 0
additive-zero f hf = hf 0 0 ∙ xor_self (f 0)

-- the value at a, from those at its upper part and at its n low bits
by_parts : (f : ℕ → ℕ) → Additive f → (a n : ℕ) → f a ≡ bit_xor (f (a / 2 ^ n * 2 ^ n)) (f (a % 2 ^ n))
by_parts f hf a n =
    ap f (sym (xor_shifted (a / 2 ^ n) n (a % 2 ^ n) (mod-lt a (pow_pos n)) ∙ split a n)) ∙ hf (a / 2 ^ n * 2 ^ n) (a % 2 ^ n)

module _ (f g : ℕ → ℕ) (hf : Additive f) (hg : Additive g) where
  agree-zero : f 0 ≡ g 0
  agree-zero = additive-zero f hf ∙ sym (additive-zero g hg)

  agree-bit : (n : ℕ) → f (2 ^ n) ≡ g (2 ^ n) → (q : ℕ) → Digit q → f (q * 2 ^ n) ≡ g (q * 2 ^ n)
  agree-bit n e _ off = rw zero-mul agree-zero
  agree-bit n e _ on = rw one-mul e

  abbrev same_at : ℕ → Bool
  same_at k = eqb (f (2 ^ k)) (g (2 ^ k))

  pub additive-agree : (n : ℕ) → T (passes same_at n) → (a : ℕ) → a < 2 ^ n → f a ≡ g a
  additive-agree zero t a h = rw (lt-one h) agree-zero
  additive-agree (suc n) t a h =
      let top : f (2 ^ n) ≡ g (2 ^ n) = eqb→eq (f (2 ^ n)) (g (2 ^ n)) (both_left (same_at n) (passes same_at n) t) in
      by_parts f hf a n
      ∙ ap₂ bit_xor
      (agree-bit n top (a / 2 ^ n) (digit-of (a / 2 ^ n) (shr_lt 1 n (rw one-add h))))
      (additive-agree n (both_right (same_at n) (passes same_at n) t) (a % 2 ^ n) (mod-lt a (pow_pos n)))
      ∙ sym (by_parts g hg a n)

-- Laws of xor that std does not have.
--
--   xor-cancel                 what is xored in twice is gone
--   xor-left-comm              the first two of three change places
--   xor-swap                   the middle two of four change places
--
-- Assumes nothing.
use mathlib.Core.Path.{◌≡◌, sym, ap, ◌∙◌}
use Prim.Native.Nat.{ℕ}
use Rattle.std.specs.Int.Bits.{xor_assoc}
use lib.Bits.{bit_xor, xor_self, xor_comm, xor_zero_r}

pub xor-cancel : (a b : ℕ) → bit_xor (bit_xor a b) b ≡ a
xor-cancel a b = simp (xor_assoc, xor_self, xor_zero_r)

pub xor-left-comm : (a b c : ℕ) → bit_xor a (bit_xor b c) ≡ bit_xor b (bit_xor a c)
xor-left-comm a b c = sym (xor_assoc a b c) ∙ ap (λ (x : ℕ). bit_xor x c) (xor_comm a b) ∙ xor_assoc b a c

pub xor-swap : (a b c d : ℕ) → bit_xor (bit_xor a b) (bit_xor c d) ≡ bit_xor (bit_xor a c) (bit_xor b d)
xor-swap a b c d = simp (xor_assoc, xor-left-comm b c d)

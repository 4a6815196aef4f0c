-- The check bytes of an image i by the block b that begins with the serial number.
--
--   judged            they are tested where the block has them
--   bcc0_right        where BCC0 is right, BCC1 decides
--   bcc0_wrong        where BCC0 is wrong, so are the check bytes
--
-- Assumes nothing.
use mathlib.Core.Path.{◌≡◌, sym, ap, ◌∙◌}
use mathlib.Core.Bool.{Bool, ◌&&◌}
use mathlib.Core.List.{List}
use Prim.Native.Nat.{ℕ, ◌+◌, ◌<◌}
use native.Mathlib.Omega.{arith}
use borrow.Author.Tests.{eq-eqb, ne_eqb}
use lib.Bits.{bit_xor}
use lib.Dec.{eqb}
use lib.ListN.{get_or, drop}
use Rattle.model.specs.Image.{check_bytes_right}
use Rattle.sections.proofs.Sections.{check-places}

module _ (i b : List ℕ) (at : (k : ℕ) → k < 16 → get_or b k 0 ≡ get_or i (1 + k) 0) where
  abbrev bcc0 : ℕ
  bcc0 = bit_xor (bit_xor (bit_xor 0x88 (get_or b 0 0)) (get_or b 1 0)) (get_or b 2 0)

  abbrev bcc1 : ℕ
  bcc1 = bit_xor (bit_xor (bit_xor (get_or b 4 0) (get_or b 5 0)) (get_or b 6 0)) (get_or b 7 0)

  judged : eqb (get_or b 3 0) bcc0 && eqb (get_or b 8 0) bcc1 ≡ check_bytes_right (drop 1 i)
  judged =
      let a0 = at 0 (omega arith) in
      let a1 = at 1 (omega arith) in
      let a2 = at 2 (omega arith) in
      let a3 = at 3 (omega arith) in
      let a4 = at 4 (omega arith) in
      let a5 = at 5 (omega arith) in
      let a6 = at 6 (omega arith) in
      let a7 = at 7 (omega arith) in
      let a8 = at 8 (omega arith) in
      (λ j. eqb (a3 j) (bit_xor (bit_xor (bit_xor 0x88 (a0 j)) (a1 j)) (a2 j)) && eqb (a8 j) (bit_xor (bit_xor (bit_xor (a4 j) (a5 j)) (a6 j)) (a7 j)))
      ∙ check-places i

  pub bcc0_right : get_or b 3 0 ≡ bcc0 → eqb (get_or b 8 0) bcc1 ≡ check_bytes_right (drop 1 i)
  bcc0_right h = ap (λ (t : Bool). t && eqb (get_or b 8 0) bcc1) (sym (eq-eqb _ _ h)) ∙ judged

  pub bcc0_wrong : (get_or b 3 0 ≡ bcc0 → ⊥) → eqb (get_or b 3 0) bcc0 ≡ check_bytes_right (drop 1 i)
  bcc0_wrong h = let no = ne_eqb (get_or b 3 0) bcc0 h in no ∙ ap (λ (t : Bool). t && eqb (get_or b 8 0) bcc1) (sym no) ∙ judged

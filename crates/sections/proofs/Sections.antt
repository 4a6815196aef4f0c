-- Laws of an image's parts, as the code reads and writes them.
--
--   check-places                the check bytes by their places in the image
--   sections                    an image laid section by section
--
-- Assumes nothing.
use mathlib.Core.Path.{◌≡◌, sym, ap, ◌∙◌}
use mathlib.Core.List.{List, ◌∷◌, ◌++◌}
use mathlib.Core.Bool.{◌&&◌}
use Prim.Native.Nat.{ℕ, ◌+◌}
use native.Mathlib.Omega.{arith}
use lib.Bits.{bit_xor}
use lib.Dec.{eqb}
use lib.ListN.{length, get_or, drop, length-append}
use lib.Seq.{sets, get_or-drop}
use Rattle.octets.proofs.Laid.{sets-append}
use Rattle.model.specs.declared.Map.{Map}
use Rattle.model.specs.declared.Tag.{Tag}
use Rattle.model.specs.Map.{store_size}
use Rattle.model.specs.Counters.{low_first}
use Rattle.model.specs.Image.{counters_at, failed_at, key_at, image_of, check_bytes_right}
use Rattle.sections.specs.Sections.{counters_section}

-- the check bytes by their places in the image
pub check-places : (i : List ℕ)
    → eqb (get_or i 4 0) (bit_xor (bit_xor (bit_xor 0x88 (get_or i 1 0)) (get_or i 2 0)) (get_or i 3 0))
    && eqb (get_or i 9 0) (bit_xor (bit_xor (bit_xor (get_or i 5 0) (get_or i 6 0)) (get_or i 7 0)) (get_or i 8 0))
    ≡ check_bytes_right (drop 1 i)
unfolding check_bytes_right
check-places i =
    let at : (k : ℕ) → get_or i (1 + k) 0 ≡ get_or (drop 1 i) k 0 = λ k. sym (get_or-drop 1 i k 0) in
    λ j. eqb (at 3 j) (bit_xor (bit_xor (bit_xor 0x88 (at 0 j)) (at 1 j)) (at 2 j))
    && eqb (at 8 j) (bit_xor (bit_xor (bit_xor (at 4 j) (at 5 j)) (at 6 j)) (at 7 j))

-- one section more, behind those that are laid
more : (b x y : List ℕ) (n : ℕ) → length x ≡ n → sets (sets b 0 x) n y ≡ sets b 0 (x ++ y)
more b x y n e = ap (λ (k : ℕ). sets (sets b 0 x) k y) (sym e ∙ omega arith) ∙ sym (sets-append b 0 x y)

-- each section laid behind the ones before it: b1 to b4 are the buffer after each
module _ (m : Map) (tag : Tag) (s b b1 b2 b3 b4 : List ℕ) (c f k : ℕ) (size : length s ≡ store_size m) where
  pub sections : b1 ≡ sets b 0 (m.pages ∷ s) → c ≡ counters_at m → b2 ≡ sets b1 c (counters_section tag.counters) → f ≡ failed_at m
      → b3 ≡ sets b2 f (1 ∷ low_first 2 tag.failed)
      → k ≡ key_at m
      → b4 ≡ sets b3 k (1 ∷ tag.originality)
      → b4 ≡ sets b 0 (image_of m tag s)
  unfolding image_of counters_section
  sections e1 ec e2 ef e3 ek e4 =
      let pages = m.pages ∷ s in
      let counters = counters_section tag.counters in
      let failed : List ℕ = 1 ∷ low_first 2 tag.failed in
      let n2 = length-append pages counters in
      let n3 = length-append (pages ++ counters) failed in
      rw (e4, e3, e2, e1)
      (rw (more b pages counters c (omega arith), more b (pages ++ counters) failed f (omega arith))
      (more b (pages ++ counters ++ failed) (1 ∷ tag.originality) k (omega arith)))

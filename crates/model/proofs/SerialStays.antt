-- The serial number stays as it was loaded, its check bytes and the internal byte too: in one WRITE and so in every list of calls.
--
--   kept_byte         a byte that is kept and takes nothing stays
--   serial-page       a WRITE keeps the first ten bytes of the store
--   serial-list       so does a list of calls
--
-- Assumes nothing.
use mathlib.Core.Path.{◌≡◌, refl, sym, ap, ◌∙◌}
use mathlib.Core.List.{List}
use mathlib.Core.Bool.{false}
use Prim.Native.Nat.{ℕ, ◌*◌, ◌≤◌, ◌<◌}
use native.Mathlib.Nat.{mod-eq_of_lt}
use native.Mathlib.Omega.{arith}
use Rattle.std.proofs.lemmas.Bool.{or_parts}
use borrow.Author.Tests.{ltb-false}
use lib.Bits.{bit_and, and_mask}
use lib.ListN.{get_or}
use Rattle.bits.proofs.OneWay.{one_way-frozen}
use Rattle.forget.specs.Machine.{Every, end}
use Rattle.model.specs.declared.Quad.{Quad}
use Rattle.model.specs.Map.{mf0aes20}
use Rattle.model.specs.Writing.{page_bars, merged, keep_of, opened_of, written}
use Rattle.model.specs.Frame.{store_after}
use Rattle.model.specs.Calls.{Box, Call, tag_machine, Bytes, Fit}
use Rattle.model.proofs.Valid.{Valid, sets-four-at}
use Rattle.model.proofs.StoreByte.{KeptByWrite, byte-list}

kept_byte : (old new : ℕ) → old < 256 → merged 0xff 0x00 old new ≡ old
unfolding merged
kept_byte old new h = one_way-frozen (bit_and old 0xff) new ∙ and_mask old 8 ∙ mod-eq_of_lt h

page-low : (p : ℕ) → page_bars mf0aes20 p ≡ false → 2 ≤ p
unfolding page_bars mf0aes20
page-low p h = ltb-false p 2 (or_parts _ _ h).0

-- the first two bytes of page 02h
module _ (s : List ℕ) (q : Quad) (h : Bytes s) where
  first-kept : (written mf0aes20 s 2 q).a ≡ get_or s 8 0
  unfolding written keep_of opened_of mf0aes20
  first-kept = kept_byte (get_or s 8 0) q.a (h 8)

  second-kept : (written mf0aes20 s 2 q).b ≡ get_or s 9 0
  unfolding written keep_of opened_of mf0aes20
  second-kept = kept_byte (get_or s 9 0) q.b (h 9)

serial-page : (i x : ℕ) → i < 10 → KeptByWrite (λ (y : ℕ). y ≡ x) i
unfolding store_after
serial-page i x low b v p q inside old =
    let s = b.store in
    let from = page-low p inside in
    sets-four-at (λ (y : ℕ). y ≡ x) s (4 * p) _ _ _ _ i
    (λ e. let two : p ≡ 2 = omega arith in let eight : i ≡ 8 = omega arith in
    ap (λ (k : ℕ). (written mf0aes20 s k q).a) two ∙ first-kept s q v.bytes ∙ ap (λ (k : ℕ). get_or s k 0) (sym eight) ∙ old)
    (λ e. let two : p ≡ 2 = omega arith in let nine : i ≡ 9 = omega arith in
    ap (λ (k : ℕ). (written mf0aes20 s k q).b) two ∙ second-kept s q v.bytes ∙ ap (λ (k : ℕ). get_or s k 0) (sym nine) ∙ old)
    (λ e. absurd (omega arith))
    (λ e. absurd (omega arith))
    old

pub serial-list : (b : Box) → Valid b → (list : List Call) → Every Fit list → (i : ℕ) → i < 10
    → get_or (end tag_machine b list).store i 0 ≡ get_or b.store i 0
serial-list b v list h i low = byte-list (λ (y : ℕ). y ≡ get_or b.store i 0) i (serial-page i (get_or b.store i 0) low) b v list h refl

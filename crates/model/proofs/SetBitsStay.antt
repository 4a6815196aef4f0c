-- A one-way bit that is set stays set, in one call and then in the list.
--
--   merged_keeps      a bit that is set and kept is set in the merged byte
--   kept-covers       the kept bits of every page hold its one-way bits, computed at each place of the store
--   bits-step         a call clears no one-way bit
--   bits-list         nor does a list of calls
--
-- Assumes nothing.
use mathlib.Core.Path.{◌≡◌, refl, sym, subst, subst₂, ap, ◌∙◌}
use mathlib.Core.List.{List, [], ◌∷◌}
use mathlib.Core.Bool.{Bool, true, false, cond}
use Prim.Native.Nat.{ℕ, ◌+◌, ◌-◌, ◌*◌, ◌/◌, ◌%◌, ◌^◌, ◌≤◌, ◌<◌, min}
use native.Mathlib.Nat.{zero-div, zero-mod}
use native.Mathlib.Decide.{dec_lt}
use native.Mathlib.Omega.{arith}
use borrow.Author.Tests.{le-ltb, le-leb, ne_eqb}
use lib.Bits.{bit_and}
use lib.Dec.{eqb, lit<}
use lib.ListN.{get_or}
use Rattle.bits.specs.Bits.{bit_of}
use Rattle.bits.proofs.Bit.{bit-lt, bit-and}
use Rattle.bits.proofs.OneWay.{set-bit-never-cleared}
use Rattle.bits.proofs.Test.{equal-below}
use Rattle.forget.specs.Machine.{Every, end}
use Rattle.model.specs.declared.Quad.{Quad}
use Rattle.model.specs.declared.Command.{Command}
use Rattle.model.specs.declared.Command.TheVariants.{Read, FastRead, Write, ReadCnt, IncrCnt, Authenticate, Proof, Halt}
use Rattle.model.specs.declared.Effect.{Effect}
use Rattle.model.specs.declared.Effect.TheVariants.{Keep, Page, Counter, Failed}
use Rattle.model.specs.Map.{mf0aes20}
use Rattle.model.specs.Settings.{auth_limit}
use Rattle.model.specs.Numbers.{answered, acknowledged}
use Rattle.model.specs.Writing.{merged, keep_of, opened_of, written}
use Rattle.model.specs.Authentication.{challenged, lowered, proved}
use Rattle.model.specs.Frame.{data4, halted, command_done, store_after, frame}
use Rattle.model.specs.Calls as calls
use Rattle.model.specs.Calls.{Box, Call, power, select, tag_machine, Fit, step}
use Rattle.model.specs.FieldClaims.{one_way_bits}
use Rattle.model.proofs.Valid.{Valid, sets-four-at}
use Rattle.model.proofs.Sound.{valid-step}
use Rattle.model.proofs.Telling.{Answered, done, refused, ignored, answered-so}

-- a bit that is set and kept is set in the merged byte
merged_keeps : (k keep opened old new : ℕ) → bit_of k keep ≡ 1 → bit_of k old ≡ 1 → bit_of k (merged keep opened old new) ≡ 1
unfolding merged
merged_keeps k keep opened old new hk ho =
    set-bit-never-cleared k opened (bit_and old keep) new (bit-and k old keep ∙ omega arith)

-- byte j of four
abbrev pub quad_at : Quad → ℕ → ℕ
quad_at q j = get_or (q.a ∷ q.b ∷ q.c ∷ q.d ∷ []) j 0

-- the kept bits of each byte of the store hold its one-way bits: computed at each of the 240 places
kept-covers : (i : ℕ) → i < 240 → bit_and (one_way_bits i) (quad_at (keep_of mf0aes20 (i / 4)) (i % 4)) ≡ one_way_bits i
unfolding one_way_bits keep_of mf0aes20
kept-covers = equal-below (λ i. bit_and (one_way_bits i) (quad_at (keep_of mf0aes20 (i / 4)) (i % 4))) one_way_bits 240 tt

none-past : (i : ℕ) → 240 ≤ i → one_way_bits i ≡ 0
unfolding one_way_bits
none-past i h =
    simp (
      le-leb 10 i (omega arith),
      le-ltb i 16 (omega arith),
      le-leb 160 i (omega arith),
      le-ltb i 163 (omega arith),
      ne_eqb i 168 (omega arith),
      ne_eqb i 180 (omega arith),
    )

zero_bit : (k : ℕ) → bit_of k 0 ≡ 1 → ⊥
unfolding bit_of
zero_bit k h = let none : 0 / 2 ^ k % 2 ≡ 0 = simp (zero-div, zero-mod) in omega arith

kept-bit : (i k : ℕ) → bit_of k (one_way_bits i) ≡ 1 → bit_of k (quad_at (keep_of mf0aes20 (i / 4)) (i % 4)) ≡ 1
kept-bit i k h = pick (dec_lt i 240)
  where
    keep : ℕ
    keep = quad_at (keep_of mf0aes20 (i / 4)) (i % 4)

    pick : Dec (i < 240) → bit_of k keep ≡ 1
    pick (yes less) =
        let both' : min (bit_of k (one_way_bits i)) (bit_of k keep) ≡ bit_of k (one_way_bits i) =
        sym (bit-and k (one_way_bits i) keep) ∙ ap (bit_of k) (kept-covers i less) in
        omega (arith, bit-lt k keep)
    pick (no more) = absurd (zero_bit k (sym (ap (bit_of k) (none-past i (omega arith))) ∙ h))

-- byte j of page p keeps its one-way bits
kept_at : (p j k : ℕ) → j < 4 → bit_of k (one_way_bits (4 * p + j)) ≡ 1 → bit_of k (quad_at (keep_of mf0aes20 p) j) ≡ 1
kept_at p j k hj h =
    let page : (4 * p + j) / 4 ≡ p = omega arith in
    let place : (4 * p + j) % 4 ≡ j = omega arith in
    subst₂ (λ (x y : ℕ). bit_of k (quad_at (keep_of mf0aes20 x) y) ≡ 1) page place (kept-bit (4 * p + j) k h)

module _ (b : Box) (f random : List ℕ) (room i k : ℕ) (way : bit_of k (one_way_bits i) ≡ 1) (old : bit_of k (get_or b.store i 0) ≡ 1) where
  abbrev Set : ℕ → Type 0
  Set x = bit_of k x ≡ 1

  -- byte j of page p after a write, where that is byte i of the store
  bits-written : (p j opened new : ℕ) → j < 4 → i ≡ 4 * p + j
      → Set (merged (quad_at (keep_of mf0aes20 p) j) opened (get_or b.store (4 * p + j) 0) new)
  bits-written p j opened new hj e =
      merged_keeps k (quad_at (keep_of mf0aes20 p) j) opened (get_or b.store (4 * p + j) 0) new
      (kept_at p j k hj (ap (λ (x : ℕ). bit_of k (one_way_bits x)) (sym e) ∙ way))
      (ap (λ (x : ℕ). bit_of k (get_or b.store x 0)) (sym e) ∙ old)

  bits-page : (p : ℕ) (q : Quad) → Set (get_or (store_after b.store (Page p (written mf0aes20 b.store p q))) i 0)
  unfolding store_after written
  bits-page p q =
      let o = opened_of mf0aes20 b.store p in
      sets-four-at Set b.store (4 * p) _ _ _ _ i (λ e. bits-written p 0 o.a q.a (lit< tt) (omega arith))
      (λ e. bits-written p 1 o.b q.b (lit< tt) (omega arith))
      (λ e. bits-written p 2 o.c q.c (lit< tt) (omega arith))
      (λ e. bits-written p 3 o.d q.d (lit< tt) (omega arith))
      old

  bits-keep : (e : Effect) → ((p : ℕ) (q : Quad) → e ≡ Page p q → ⊥) → Set (get_or (store_after b.store e) i 0)
  unfolding store_after
  bits-keep Keep h = old
  bits-keep (Page p q) h = absurd (h p q refl)
  bits-keep (Counter n v) h = old
  bits-keep (Failed v) h = old

  lowered-page : (p : ℕ) (q : Quad) → lowered mf0aes20 b.tag b.store ≡ Page p q → ⊥
  unfolding lowered
  lowered-page p q = pick (eqb (auth_limit mf0aes20 b.store) 0)
    where
      pick : (t : Bool) → cond t Keep (Failed (b.tag.failed - 16)) ≡ Page p q → ⊥
      pick true e = let z : ◌≡◌ {A = ℕ} 0 1 = cc in omega arith
      pick false e = let z : ◌≡◌ {A = ℕ} 0 1 = cc in omega arith

  bits-done : (c : Command) → Set (get_or (store_after b.store (command_done c mf0aes20 b.tag b.store f random).effect) i 0)
  unfolding command_done answered acknowledged challenged proved halted store_after
  bits-done Read = old
  bits-done FastRead = old
  bits-done Write = bits-page (get_or f 1 0) (data4 f)
  bits-done ReadCnt = old
  bits-done IncrCnt = old
  bits-done Authenticate = old
  bits-done Proof = bits-keep (lowered mf0aes20 b.tag b.store) lowered-page
  bits-done Halt = old

  bits-frame : Answered b f random room → Set (get_or (frame b.tag b.store f random room).store i 0)
  unfolding frame
  bits-frame (done c zero') = subst (λ d. Set (get_or (store_after b.store d.effect) i 0)) (sym c.decided) (bits-done c.command)
  bits-frame (refused nz no1 e) = subst (λ (l : List ℕ). Set (get_or l i 0)) (sym e.pages) old
  bits-frame (ignored one w u) = subst (λ (l : List ℕ). Set (get_or l i 0)) (sym u.pages) old

pub bits-step : (b : Box) (c : Call) (i k : ℕ) → Valid b → Fit c → bit_of k (one_way_bits i) ≡ 1 → bit_of k (get_or b.store i 0) ≡ 1
    → bit_of k (get_or (step b c).next.store i 0) ≡ 1
unfolding step
bits-step b power i k v h way old = old
bits-step b select i k v h way old = old
bits-step b (calls.frame f random room) i k v h way old = bits-frame b f random room i k way old (answered-so b f random room v h)

pub bits-list : (b : Box) → Valid b → (list : List Call) → Every Fit list → (i k : ℕ) → bit_of k (one_way_bits i) ≡ 1
    → bit_of k (get_or b.store i 0) ≡ 1 → bit_of k (get_or (end tag_machine b list).store i 0) ≡ 1
unfolding end
bits-list b v [] h i k way old = old
bits-list b v (c ∷ list) h i k way old =
    bits-list (step b c).next (valid-step b c v h.0) list h.1 i k way (bits-step b c i k v h.0 way old)

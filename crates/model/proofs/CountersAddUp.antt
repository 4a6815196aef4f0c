-- Counters add up: what each call adds, and then the list.
--
--   counters-step     a call adds to a counter what an INCR_CNT of it answered 0 says
--   counters-list     a list of calls adds the sum
--
-- Assumes nothing.
use mathlib.Core.Path.{◌≡◌, refl, sym, ap, ◌∙◌}
use mathlib.Core.List.{List, [], ◌∷◌}
use mathlib.Core.Bool.{Bool, true, false, ◌&&◌, cond}
use Prim.Native.Nat.{◌*◌, ℕ, ◌+◌, ◌-◌, ◌≤◌, ◌<◌}
use native.Mathlib.Nat.{add-zero}
use native.Mathlib.Decide.{ℕ_discrete}
use native.Mathlib.Omega.{arith}
use borrow.Author.Tests.{ltb-false, ne_eqb, eq-eqb}
use lib.Dec.{eqb}
use lib.ListN.{length, get_or, set}
use lib.Seq.{get_or-set_same, get_or-set_other}
use Rattle.forget.specs.Machine.{Every, log, end}
use Rattle.model.specs.declared.Tag.{Tag}
use Rattle.model.specs.declared.Command.{Command}
use Rattle.model.specs.declared.Command.TheVariants.{Read, FastRead, Write, ReadCnt, IncrCnt, Authenticate, Proof, Halt}
use Rattle.model.specs.declared.Effect.TheVariants.{Keep, Failed}
use Rattle.model.specs.Map.{mf0aes20}
use Rattle.model.specs.Settings.{auth_limit}
use Rattle.model.specs.Record.{counter}
use Rattle.model.specs.Numbers.{answered, acknowledged}
use Rattle.model.specs.Telling.{code_of}
use Rattle.model.specs.Counters.{increment, incr_cnt_number}
use Rattle.model.specs.Authentication.{challenged, lowered, proved}
use Rattle.model.specs.Frame.{data4, command_number, halted, command_done, counters_after, tag_after, frame}
use Rattle.model.specs.Calls as calls
use Rattle.model.specs.Calls.{Box, Call, power, select, tag_machine, Fit, step}
use Rattle.model.specs.FieldClaims.{added, added_in}
use Rattle.model.proofs.Carried.{first-zero, number_if-zero}
use Rattle.model.proofs.Valid.{Valid}
use Rattle.model.proofs.Sound.{valid-step}
use Rattle.model.proofs.Telling.{told-code, Answered, done, refused, ignored, answered-so}

-- what a number other than 0 adds
added_none : (n : ℕ) (f random : List ℕ) (room k : ℕ) → (k ≡ 0 → ⊥) → added n (calls.frame f random room) k ≡ 0
unfolding added
added_none n f random room k h = simp (ne_eqb k 0 h)

-- what a command other than INCR_CNT adds
added-other : (n : ℕ) (f random : List ℕ) (room k c : ℕ) → get_or f 0 0 ≡ c → eqb c (code_of IncrCnt) ≡ false
    → added n (calls.frame f random room) k ≡ 0
unfolding added
added-other n f random room k c e h = rw (e, h) (pick (eqb k 0) (get_or f 2 0 + 256 * get_or f 3 0 + 65536 * get_or f 4 0))
  where
    pick : (t : Bool) (v : ℕ) → cond (t && false && eqb (get_or f 1 0) n) v 0 ≡ 0
    pick true v = refl
    pick false v = refl

-- a counter after INCR_CNT: the one that was named is raised, the others stay
raised-counter : (cs : List ℕ) (k v n : ℕ) → k < length cs → get_or (set cs k (get_or cs k 0 + v)) n 0 ≡ get_or cs n 0 + cond (eqb k n) v 0
raised-counter cs k v n h = pick (ℕ_discrete k n)
  where
    pick : Dec (k ≡ n) → get_or (set cs k (get_or cs k 0 + v)) n 0 ≡ get_or cs n 0 + cond (eqb k n) v 0
    pick (yes same) = rw (eq-eqb k n same, ← same) (get_or-set_same cs k (get_or cs k 0 + v) 0 h)
    pick (no other) =
        rw (ne_eqb k n other) (get_or-set_other cs k n (get_or cs k 0 + v) 0 (λ e. other (sym e)) ∙ sym (add-zero (get_or cs n 0)))

-- what INCR_CNT answered 0 adds
added-incr : (n : ℕ) (f random : List ℕ) (room : ℕ) → get_or f 0 0 ≡ code_of IncrCnt
    → added n (calls.frame f random room) 0 ≡ cond (eqb (get_or f 1 0) n) (increment (data4 f)) 0
unfolding added
added-incr n f random room code =
    let three : get_or f 2 0 + 256 * get_or f 3 0 + 65536 * get_or f 4 0 ≡ increment (data4 f) = omega arith in
    rw (code, three)

-- INCR_CNT is carried out only for a counter that there is
counter-low : (tag : Tag) (s f : List ℕ) → command_number IncrCnt mf0aes20 tag s f ≡ 0 → get_or f 1 0 ≤ 2
unfolding command_number incr_cnt_number
counter-low tag s f h = ltb-false 2 (get_or f 1 0) (number_if-zero _ 4 (first-zero _ _ h).0)

lowered-counters : (tag : Tag) (s : List ℕ) (cs : List ℕ) → counters_after cs (lowered mf0aes20 tag s) ≡ cs
unfolding lowered counters_after
lowered-counters tag s cs = pick (eqb (auth_limit mf0aes20 s) 0)
  where
    pick : (t : Bool) → counters_after cs (cond t Keep (Failed (tag.failed - 16))) ≡ cs
    pick true = refl
    pick false = refl

module _ (b : Box) (f random : List ℕ) (room n : ℕ) (v : Valid b) where
  unraised : (c : Command) → get_or f 0 0 ≡ code_of c → eqb (code_of c) (code_of IncrCnt) ≡ false
      → (cs : List ℕ) → cs ≡ b.tag.counters → get_or cs n 0 ≡ counter b.tag n + added n (calls.frame f random room) 0
  unraised c code other cs e =
      ap (λ (l : List ℕ). get_or l n 0) e ∙ sym (add-zero (counter b.tag n))
      ∙ ap (λ (k : ℕ). counter b.tag n + k) (sym (added-other n f random room 0 (code_of c) code other))

  counters-done : (c : Command) → get_or f 0 0 ≡ code_of c → command_number c mf0aes20 b.tag b.store f ≡ 0
      → get_or (counters_after b.tag.counters (command_done c mf0aes20 b.tag b.store f random).effect) n 0
      ≡ counter b.tag n + added n (calls.frame f random room) 0
  unfolding command_done answered acknowledged challenged proved halted counters_after
  counters-done Read code own = unraised Read code refl b.tag.counters refl
  counters-done FastRead code own = unraised FastRead code refl b.tag.counters refl
  counters-done Write code own = unraised Write code refl b.tag.counters refl
  counters-done ReadCnt code own = unraised ReadCnt code refl b.tag.counters refl
  counters-done IncrCnt code own =
      let few : get_or f 1 0 < length b.tag.counters = omega (arith, counter-low b.tag b.store f own, v.three) in
      raised-counter b.tag.counters (get_or f 1 0) (increment (data4 f)) n few
      ∙ ap (λ (k : ℕ). counter b.tag n + k) (sym (added-incr n f random room code))
  counters-done Authenticate code own = unraised Authenticate code refl b.tag.counters refl
  counters-done Proof code own =
      unraised Proof code refl (counters_after b.tag.counters (lowered mf0aes20 b.tag b.store))
      (lowered-counters b.tag b.store b.tag.counters)
  counters-done Halt code own = unraised Halt code refl b.tag.counters refl

  -- a number other than 0 keeps the counters and adds nothing
  kept-counter : (k : ℕ) → (k ≡ 0 → ⊥) → (cs : List ℕ) → cs ≡ b.tag.counters
      → get_or cs n 0 ≡ counter b.tag n + added n (calls.frame f random room) k
  kept-counter k nz cs e =
      ap (λ (l : List ℕ). get_or l n 0) e ∙ sym (add-zero (counter b.tag n))
      ∙ ap (λ (j : ℕ). counter b.tag n + j) (sym (added_none n f random room k nz))

  counters-frame : Answered b f random room → let o = frame b.tag b.store f random room in
      counter o.tag n ≡ counter b.tag n + added n (calls.frame f random room) o.number
  unfolding frame tag_after
  counters-frame (done c zero') =
      ap (λ d. get_or (counters_after b.tag.counters d.effect) n 0) c.decided
      ∙ counters-done c.command (told-code (get_or f 0 0) c.command c.size c.known) c.own
      ∙ ap (λ (k : ℕ). counter b.tag n + added n (calls.frame f random room) k) (sym zero')
  counters-frame (refused nz no1 e) = kept-counter _ nz _ e.counters
  counters-frame (ignored one w u) = kept-counter _ (λ z. omega arith) _ (ap (λ (t : Tag). t.counters) u.record')

pub counters-step : (b : Box) (c : Call) (n : ℕ) → Valid b → Fit c
    → counter (step b c).next.tag n ≡ counter b.tag n + added n c (step b c).number
unfolding step added
counters-step b power n v h = sym (add-zero (counter b.tag n))
counters-step b select n v h = sym (add-zero (counter b.tag n))
counters-step b (calls.frame f random room) n v h = counters-frame b f random room n v (answered-so b f random room v h)

pub counters-list : (b : Box) → Valid b → (list : List Call) → Every Fit list → (n : ℕ)
    → counter (end tag_machine b list).tag n ≡ counter b.tag n + added_in n (log tag_machine b list)
unfolding end log added_in
counters-list b v [] h n = sym (add-zero (counter b.tag n))
counters-list b v (c ∷ list) h n =
    let next = (step b c).next in
    omega (arith, counters-list next (valid-step b c v h.0) list h.1 n, counters-step b c n v h.0)

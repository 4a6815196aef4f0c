-- Why a WRITE was refused: the claims of specs/ReasonClaims.antt, each under its name in lower case.
--
--   place-small         no rule has a place above 6
--   concluded-none      where no rule counts, what a frame comes to says none
--   concluded-stopped   a WRITE that its own check refuses with 6 or 7 says its rule
--
-- Assumes nothing.
use mathlib.Core.Path.{◌≡◌, refl, sym, ap, subst, ◌∙◌}
use mathlib.Core.List.{List}
use mathlib.Core.Bool.{Bool, true, false, ◌||◌, cond}
use mathlib.Core.Logic.{◌⊎◌, inl, inr}
use Prim.Native.Nat.{ℕ, zero, suc, ◌≤◌}
use native.Mathlib.Omega.{arith}
use lib.Dec.{eqb, leb}
use lib.ListN.{get_or}
use Rattle.model.specs.declared.Map.{Map}
use Rattle.model.specs.declared.Tag.{Tag}
use Rattle.model.specs.declared.Barred.{Barred}
use Rattle.model.specs.declared.Barred.TheVariants.{Open, Auth0, RandomId, OwnLock, PairLock, KeyLock, ConfigLock}
use Rattle.model.specs.declared.Command.TheVariants.{Read, FastRead, Write, ReadCnt, IncrCnt, Authenticate, Proof, Halt}
use Rattle.std.specs.Prelude.{Option, Some, None}
use Rattle.model.specs.declared.Command.{Command}
use Rattle.model.specs.declared.Effect.{Effect}
use Rattle.model.specs.declared.Decision.{Decision}
use Rattle.model.specs.Map.{mf0aes20}
use Rattle.model.specs.Numbers.{number_if, first, kept, refused}
use Rattle.model.specs.Telling.{code_of, told}
use Rattle.model.specs.Writing.{page_bars, auth0_bars, random_id_bars, own_lock_bars, pair_lock_bars, key_lock_bars, config_lock_bars}
use Rattle.model.specs.Writing.{barred, barred_number, barred_place, write_number}
use Rattle.model.specs.Frame.{data4, command_reason, command_number, command_done, not_done, concluded}
use Rattle.model.specs.Frame.{earlier_number, decide, frame}
use Rattle.model.specs.ReasonClaims.{RuleOrder, FirstRuleTold, NoOtherReason, PlaceTellsRule}
use Rattle.model.proofs.Parts.{told_command_number, told_command_reason, told_done, frame_number, reason_behind, frame_reason, decide-parts}
use Rattle.model.proofs.Numbers.{told-done, decide-number, numbers-of-earlier}
use Rattle.model.proofs.Telling.{told-code}

-- ---- the judge of a write

in_order : (a b c d e f : Bool)
    → barred_place (cond a Auth0 (cond b RandomId (cond c OwnLock (cond d PairLock (cond e KeyLock (cond f ConfigLock Open))))))
    ≡ first (number_if a 1)
    (first (number_if b 2) (first (number_if c 3) (first (number_if d 4) (first (number_if e 5) (number_if f 6)))))
unfolding first number_if
in_order true b c d e f = refl
in_order false true c d e f = refl
in_order false false true d e f = refl
in_order false false false true e f = refl
in_order false false false false true f = refl
in_order false false false false false true = refl
in_order false false false false false false = refl

pub rule-order : RuleOrder
unfolding barred
rule-order m st s p q h =
    rw h
    (in_order (auth0_bars m st s p) (random_id_bars m st s p q) (own_lock_bars m s p) (pair_lock_bars m s p) (key_lock_bars m s p) (config_lock_bars m s p))

-- ---- what a frame comes to

-- a rule with a place is 6 or 7
placed : (b : Barred) → (barred_number b ≡ 6 → ⊥) → (barred_number b ≡ 7 → ⊥) → barred_place b ≡ 0
placed Open six seven = refl
placed Auth0 six seven = absurd (six refl)
placed RandomId six seven = absurd (six refl)
placed OwnLock six seven = absurd (seven refl)
placed PairLock six seven = absurd (seven refl)
placed KeyLock six seven = absurd (seven refl)
placed ConfigLock six seven = absurd (seven refl)

pub place-small : (b : Barred) → barred_place b ≤ 6
place-small Open = omega arith
place-small Auth0 = omega arith
place-small RandomId = omega arith
place-small OwnLock = omega arith
place-small PairLock = omega arith
place-small KeyLock = omega arith
place-small ConfigLock = omega arith

module _ (m : Map) (tag : Tag) (s : List ℕ) (d : Decision) (done : d.reason ≡ Open) where
  not-done-none : (n : ℕ) (b : Barred) → barred_place b ≡ 0 → barred_place (not_done m tag s n b).reason ≡ 0
  unfolding not_done kept refused
  not-done-none n b h = pick (eqb n 1 || eqb n 10) _
    where
      pick : (x : Bool) (e : Effect) → barred_place (cond x (kept n tag) (refused n b e)).reason ≡ 0
      pick true e = refl
      pick false e = h

  concluded-none : (e o : ℕ) (b : Barred) → (e ≡ 0 → barred_place b ≡ 0)
      → barred_place (concluded (first e o) (reason_behind e b) m tag s d).reason ≡ 0
  unfolding first
  concluded-none zero zero b h = ap barred_place done
  concluded-none zero (suc o) b h = not-done-none (suc o) b (h refl)
  concluded-none (suc e) o b h = not-done-none (suc e) Open refl

-- the rule b stopped a WRITE
record Stopped (b : Barred) (d : Decision) : Type 0 where
  why : d.reason ≡ b
  placed' : 1 ≤ barred_place b
  number : barred_number b ≡ cond (leb (barred_place b) 2) 6 7

module _ (m : Map) (tag : Tag) (s : List ℕ) (d : Decision) where
  stopped : (b : Barred) → (barred_number b ≡ 6) ⊎ (barred_number b ≡ 7) → Stopped b (concluded (barred_number b) b m tag s d)
  unfolding not_done refused
  stopped Open (inl h) = absurd (omega arith)
  stopped Open (inr h) = absurd (omega arith)
  stopped Auth0 h = record { why = refl; placed' = omega arith; number = refl }
  stopped RandomId h = record { why = refl; placed' = omega arith; number = refl }
  stopped OwnLock h = record { why = refl; placed' = omega arith; number = refl }
  stopped PairLock h = record { why = refl; placed' = omega arith; number = refl }
  stopped KeyLock h = record { why = refl; placed' = omega arith; number = refl }
  stopped ConfigLock h = record { why = refl; placed' = omega arith; number = refl }

  concluded-stopped : (e : ℕ) (b : Barred) → (e ≡ 6 → ⊥) × (e ≡ 7 → ⊥) → (first e (barred_number b) ≡ 6) ⊎ (first e (barred_number b) ≡ 7)
      → (first e (barred_number b) ≡ barred_number b) × Stopped b (concluded (first e (barred_number b)) (reason_behind e b) m tag s d)
  unfolding first
  concluded-stopped zero b other h = (refl, stopped b h)
  concluded-stopped (suc e) b other (inl h) = absurd (other.0 h)
  concluded-stopped (suc e) b other (inr h) = absurd (other.1 h)

five-other : (e : ℕ) → (e ≡ 6 → ⊥) × (e ≡ 7 → ⊥) → (first e 5 ≡ 6) ⊎ (first e 5 ≡ 7) → ⊥
unfolding first
five-other zero other (inl h) = omega arith
five-other zero other (inr h) = omega arith
five-other (suc e) other (inl h) = other.0 h
five-other (suc e) other (inr h) = other.1 h

-- ---- the two claims

module _ (tag : Tag) (s f random : List ℕ) (room : ℕ) where
  abbrev early : ℕ
  early = earlier_number mf0aes20 tag s f random room

  abbrev rule : Barred
  rule = barred mf0aes20 tag.state s (get_or f 1 0) (data4 f)

  abbrev own : ℕ
  own = write_number mf0aes20 (get_or f 1 0) rule

  not_own : (early ≡ 6 → ⊥) × (early ≡ 7 → ⊥)
  not_own =
      numbers-of-earlier mf0aes20 tag s f random room (λ (n : ℕ). (n ≡ 6 → ⊥) × (n ≡ 7 → ⊥)) (omega arith, omega arith)
      (λ _. (omega arith, omega arith))
      (λ _. (omega arith, omega arith))
      (omega arith, omega arith)
      (omega arith, omega arith)
      (omega arith, omega arith)

  no-rule : page_bars mf0aes20 (get_or f 1 0) ≡ true → rule ≡ Open
  unfolding barred
  no-rule e = rw e

  page-five : page_bars mf0aes20 (get_or f 1 0) ≡ true → own ≡ 5
  unfolding write_number first number_if
  page-five e = rw e

  rule-own : page_bars mf0aes20 (get_or f 1 0) ≡ false → own ≡ barred_number rule
  unfolding write_number first number_if
  rule-own e = rw e

  -- what is told decides all but the earlier checks
  told-decided : (t : Option (Command × ℕ)) → told (get_or f 0 0) ≡ t
      → decide mf0aes20 tag s f random room
      ≡ concluded (first early (told_command_number t mf0aes20 tag s f)) (reason_behind early (told_command_reason t mf0aes20 tag s f))
      mf0aes20 tag s (told_done t mf0aes20 tag s f random)
  unfolding frame_number frame_reason
  told-decided t e = decide-parts mf0aes20 tag s f random room ∙ rw e

  told-number : (t : Option (Command × ℕ)) → told (get_or f 0 0) ≡ t
      → (decide mf0aes20 tag s f random room).number ≡ first early (told_command_number t mf0aes20 tag s f)
  unfolding frame_number
  told-number t e = decide-number mf0aes20 tag s f random room ∙ rw e

  -- a page that can't be written is 5
  page-open : (t : Bool) → page_bars mf0aes20 (get_or f 1 0) ≡ t → (first early own ≡ 6) ⊎ (first early own ≡ 7) → t ≡ false
  page-open true e h = absurd (five-other early not_own (subst (λ (n : ℕ). (first early n ≡ 6) ⊎ (first early n ≡ 7)) (page-five e) h))
  page-open false e h = refl

  write-told : get_or f 0 0 ≡ code_of Write → told (get_or f 0 0) ≡ Some (Write, 6)
  unfolding told
  write-told code = rw code

  -- only a WRITE that is refused with 6 or 7 by its own check has a rule with a place
  no_place : (t : Option (Command × ℕ)) → told (get_or f 0 0) ≡ t
      → (get_or f 0 0 ≡ code_of Write → ⊥)
      ⊎ ((first early (told_command_number t mf0aes20 tag s f) ≡ 6 → ⊥) × (first early (told_command_number t mf0aes20 tag s f) ≡ 7 → ⊥))
      → early ≡ 0 → barred_place (told_command_reason t mf0aes20 tag s f) ≡ 0
  unfolding command_reason command_number first
  no_place (Some (Write, k)) e (inl other) z = absurd (other (told-code (get_or f 0 0) Write k e))
  no_place (Some (Write, k)) e (inr other) z = by (page_bars mf0aes20 (get_or f 1 0)) refl
    where
      by : (t : Bool) → page_bars mf0aes20 (get_or f 1 0) ≡ t → barred_place rule ≡ 0
      by true p = ap barred_place (no-rule p)
      by false p = placed rule (λ h. other.0 (rw z (rule-own p ∙ h))) (λ h. other.1 (rw z (rule-own p ∙ h)))
  no_place (Some (Read, k)) e other z = refl
  no_place (Some (FastRead, k)) e other z = refl
  no_place (Some (ReadCnt, k)) e other z = refl
  no_place (Some (IncrCnt, k)) e other z = refl
  no_place (Some (Authenticate, k)) e other z = refl
  no_place (Some (Proof, k)) e other z = refl
  no_place (Some (Halt, k)) e other z = refl
  no_place None e other z = refl

pub first-rule-told : FirstRuleTold
unfolding frame command_reason command_number
first-rule-told tag s f random room code h =
    let t = write-told tag s f random room code in
    let number = told-number tag s f random room (Some (Write, 6)) t in
    let r = rule tag s f random room in
    let six-or-seven = subst (λ (k : ℕ). (k ≡ 6) ⊎ (k ≡ 7)) number h in
    let page = page-open tag s f random room (page_bars mf0aes20 (get_or f 1 0)) refl six-or-seven in
    let same = rule-own tag s f random room page in
    let c =
    concluded-stopped mf0aes20 tag s (command_done Write mf0aes20 tag s f random) (early tag s f random room) r (not_own tag s f random room)
    (subst (λ (n : ℕ). (first (early tag s f random room) n ≡ 6) ⊎ (first (early tag s f random room) n ≡ 7)) same six-or-seven) in
    let why : (decide mf0aes20 tag s f random room).reason ≡ r =
    ap (λ (d : Decision). d.reason) (told-decided tag s f random room (Some (Write, 6)) t)
    ∙ (λ i. (concluded (first (early tag s f random room) (same i)) (reason_behind (early tag s f random room) r) mf0aes20 tag s (command_done Write mf0aes20 tag s f random)).reason)
    ∙ c.1.why in
    record {
      rule = ap barred_place why ∙ rule-order mf0aes20 tag.state s (get_or f 1 0) (data4 f) page;
      placed = subst (λ (b : Barred). 1 ≤ barred_place b) (sym why) c.1.placed';
      number =
          number ∙ ap (first (early tag s f random room)) same ∙ c.0 ∙ c.1.number
          ∙ ap (λ (b : Barred). cond (leb (barred_place b) 2) 6 7) (sym why);
    }

pub no-other-reason : NoOtherReason
unfolding frame
no-other-reason tag s f random room h =
    let t = told (get_or f 0 0) in
    let number = told-number tag s f random room t refl in
    rw (told-decided tag s f random room t refl)
    (concluded-none mf0aes20 tag s (told_done t mf0aes20 tag s f random) (told-done t mf0aes20 tag s f random).1 (early tag s f random room)
    (told_command_number t mf0aes20 tag s f)
    (told_command_reason t mf0aes20 tag s f)
    (no_place tag s f random room t refl (by_number number h)))
  where
    by_number : {a b : ℕ} → a ≡ b → (get_or f 0 0 ≡ code_of Write → ⊥) ⊎ ((a ≡ 6 → ⊥) × (a ≡ 7 → ⊥))
        → (get_or f 0 0 ≡ code_of Write → ⊥) ⊎ ((b ≡ 6 → ⊥) × (b ≡ 7 → ⊥))
    by_number e (inl other) = inl other
    by_number e (inr other) = inr (λ p. other.0 (e ∙ p), λ p. other.1 (e ∙ p))

pub place-tells-rule : PlaceTellsRule
place-tells-rule Open = refl
place-tells-rule Auth0 = refl
place-tells-rule RandomId = refl
place-tells-rule OwnLock = refl
place-tells-rule PairLock = refl
place-tells-rule KeyLock = refl
place-tells-rule ConfigLock = refl

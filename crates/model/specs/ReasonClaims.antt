-- Request E6: what is claimed of the reason of a refused WRITE, for every record, store, frame, random block and buffer length.
--
--     first_rule ..        the place of the first of document 02's six rules that applies, 0 where none does
--     RuleOrder           the judge of a write answers the first rule, for every map, state, store and data, and every page that can be written
--     FirstRuleTold       a WRITE answered 6 or 7 says the first rule that applies; the first two rules are 6, the others 7
--     NoOtherReason       no other answer says a rule
--     rule_at k            the rule at the place k
--     PlaceTellsRule      a rule is told by its place
--
-- proofs/Reasons.antt proves each. Assumes nothing.
use Rattle.std.specs.Prelude.{◌≡◌, List, false, cond, ◌⊎◌, ℕ, ◌≤◌, eqb, leb, get_or}
use Rattle.model.specs.declared.Map.{Map}
use Rattle.model.specs.declared.Tag.{Tag}
use Rattle.model.specs.declared.State.{State}
use Rattle.model.specs.declared.Quad.{Quad}
use Rattle.model.specs.declared.Barred.{Barred}
use Rattle.model.specs.declared.Barred.TheVariants.{Open, Auth0, RandomId, OwnLock, PairLock, KeyLock, ConfigLock}
use Rattle.model.specs.declared.Command.TheVariants.{Write}
use Rattle.model.specs.Map.{mf0aes20}
use Rattle.model.specs.Numbers.{number_if, first}
use Rattle.model.specs.Telling.{code_of}
use Rattle.model.specs.Writing.{page_bars, auth0_bars, random_id_bars, own_lock_bars, pair_lock_bars, key_lock_bars, config_lock_bars, barred, barred_place}
use Rattle.model.specs.Frame.{data4, Outcome, frame}

-- 1 AUTH0, 2 Random ID bit, 3 own lock bit, 4 pair lock bit, 5 key lock, 6 configuration lock
abbrev pub first_rule : Map → State → List ℕ → ℕ → Quad → ℕ
first_rule m st s p q =
    first (number_if (auth0_bars m st s p) 1)
    (first (number_if (random_id_bars m st s p q) 2)
    (first (number_if (own_lock_bars m s p) 3)
    (first (number_if (pair_lock_bars m s p) 4) (first (number_if (key_lock_bars m s p) 5) (number_if (config_lock_bars m s p) 6)))))

abbrev pub RuleOrder : Type 0
RuleOrder =
    (m : Map) (st : State) (s : List ℕ) (p : ℕ) (q : Quad) → page_bars m p ≡ false → barred_place (barred m st s p q) ≡ first_rule m st s p q

-- what a WRITE answered 6 or 7 says
pub record WriteStopped (tag : Tag) (s f : List ℕ) (o : Outcome) : Type 0 where
  pub rule : barred_place o.reason ≡ first_rule mf0aes20 tag.state s (get_or f 1 0) (data4 f)
  pub placed : 1 ≤ barred_place o.reason
  pub number : o.number ≡ cond (leb (barred_place o.reason) 2) 6 7

abbrev pub FirstRuleTold : Type 0
FirstRuleTold =
    (tag : Tag) (s f random : List ℕ) (room : ℕ) → let o = frame tag s f random room in
    get_or f 0 0 ≡ code_of Write → (o.number ≡ 6) ⊎ (o.number ≡ 7) → WriteStopped tag s f o

abbrev pub NoOtherReason : Type 0
NoOtherReason =
    (tag : Tag) (s f random : List ℕ) (room : ℕ) → let o = frame tag s f random room in
    (get_or f 0 0 ≡ code_of Write → ⊥) ⊎ ((o.number ≡ 6 → ⊥) × (o.number ≡ 7 → ⊥)) → barred_place o.reason ≡ 0

abbrev pub rule_at : ℕ → Barred
rule_at k =
    cond (eqb k 1) Auth0
    (cond (eqb k 2) RandomId (cond (eqb k 3) OwnLock (cond (eqb k 4) PairLock (cond (eqb k 5) KeyLock (cond (eqb k 6) ConfigLock Open)))))

abbrev pub PlaceTellsRule : Type 0
PlaceTellsRule = (b : Barred) → rule_at (barred_place b) ≡ b

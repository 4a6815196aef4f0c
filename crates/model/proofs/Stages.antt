-- The definition of a frame by stages, as code goes through it: each law says what a frame comes to once a stage is decided.
--
--   decide-misfit, decide-waiting, decide-damaged    numbers 10, 1 and 2
--   decide-told-refused                              numbers 3 and 4
--   decide-known                                     a known command that is allowed and has its length: what the command comes to
--   told-plain                                       and each of these leaves nothing behind but the end of the session
--   commanded-done, commanded-not, commanded-refused   a command whose own number is 0, and is not
--   proof-false, proof-limited                       part 2, whose 8 raises the count
--
-- Assumes nothing.
use mathlib.Core.Path.{◌≡◌, refl, ◌∙◌}
use mathlib.Core.List.{List}
use mathlib.Core.Bool.{true, false}
use Prim.Native.Nat.{ℕ}
use lib.ListN.{length, get_or}
use Rattle.model.specs.declared.Map.{Map}
use Rattle.model.specs.declared.Tag.{Tag}
use Rattle.model.specs.declared.State.{State}
use Rattle.model.specs.declared.Command.{Command}
use Rattle.model.specs.declared.Command.TheVariants.{Read, FastRead, Write, ReadCnt, IncrCnt, Authenticate, Proof, Halt}
use Rattle.std.specs.Prelude.{Option, Some, None}
use Rattle.model.specs.declared.Barred.{Barred}
use Rattle.model.specs.declared.Barred.TheVariants.{Open}
use Rattle.model.specs.declared.Effect.TheVariants.{Keep}
use Rattle.model.specs.Record.{is_waiting}
use Rattle.model.specs.Numbers.{number_if, first, kept, refused}
use Rattle.model.specs.Telling.{damaged, told, told_number}
use Rattle.model.specs.Reading.{read_number, fast_read_number}
use Rattle.model.specs.Counters.{read_cnt_number, incr_cnt_number}
use Rattle.model.specs.Authentication.{raised, challenge_number}
use Rattle.model.specs.Frame.{misfit, command_reason, command_number, command_done, not_done, concluded, commanded, told_commanded, earlier_number, decide}
use Rattle.model.proofs.Numbers.{first-is, number_if-is, two-checks, of-write, concluded-not}

-- a number that leaves nothing behind but the end of the session
abbrev Plain : Map → Tag → List ℕ → Barred → ℕ → Type 0
Plain m tag s b n = not_done m tag s n b ≡ refused n b Keep

module _ (m : Map) (tag : Tag) (s f : List ℕ) (b : Barred) where
  pub told-plain : (t : Option (Command × ℕ)) (st : State) (n : ℕ) → Plain m tag s b (told_number t st n)
  unfolding told_number not_done
  told-plain (Some (c, k)) st n = two-checks m tag s f (Plain m tag s b) _ _ 3 4 refl refl refl
  told-plain None st n = refl

  -- the numbers of every command but part 2
  command-plain : (c : Command) → (c ≡ Proof → ⊥) → Plain m tag s b (command_number c m tag s f)
  unfolding command_number read_number fast_read_number read_cnt_number incr_cnt_number challenge_number not_done
  command-plain Read h = two-checks m tag s f (Plain m tag s b) _ _ 5 6 refl refl refl
  command-plain FastRead h = two-checks m tag s f (Plain m tag s b) _ _ 5 6 refl refl refl
  command-plain Write h = of-write m tag s f (Plain m tag s b) refl refl refl refl (get_or f 1 0) (command_reason Write m tag s f)
  command-plain ReadCnt h = two-checks m tag s f (Plain m tag s b) _ _ 5 6 refl refl refl
  command-plain IncrCnt h =
      first-is (Plain m tag s b) (number_if _ 5) _ (number_if-is (Plain m tag s b) _ 5 refl (λ _. refl))
      (two-checks m tag s f (Plain m tag s b) _ _ 6 9 refl refl refl)
  command-plain Authenticate h = two-checks m tag s f (Plain m tag s b) _ _ 5 11 refl refl refl
  command-plain Proof h = absurd (h refl)
  command-plain Halt h = number_if-is (Plain m tag s b) _ 5 refl (λ _. refl)

module _ (m : Map) (tag : Tag) (s f random : List ℕ) (room : ℕ) where
  pub decide-misfit : misfit m tag s random room ≡ true → decide m tag s f random room ≡ kept 10 tag
  unfolding decide earlier_number number_if first not_done
  decide-misfit h = rw h

  module _ (fits : misfit m tag s random room ≡ false) where
    pub decide-waiting : is_waiting tag.state ≡ true → decide m tag s f random room ≡ kept 1 tag
    unfolding decide earlier_number number_if first not_done
    decide-waiting h = rw (fits, h)

    module _ (awake : is_waiting tag.state ≡ false) where
      pub decide-damaged : damaged f ≡ true → decide m tag s f random room ≡ refused 2 Open Keep
      unfolding decide earlier_number number_if first not_done
      decide-damaged h = rw (fits, awake, h)

      module _ (whole : damaged f ≡ false) where
        -- what is left: the telling and the command
        decide-rest : (t : Option (Command × ℕ)) → told (get_or f 0 0) ≡ t
            → decide m tag s f random room
            ≡ concluded (told_number t tag.state (length f)) Open m tag s (told_commanded t m tag s f random)
        unfolding decide earlier_number number_if first
        decide-rest t e = rw (fits, awake, whole, e)

        pub decide-told-refused : (told_number (told (get_or f 0 0)) tag.state (length f) ≡ 0 → ⊥)
            → decide m tag s f random room ≡ refused (told_number (told (get_or f 0 0)) tag.state (length f)) Open Keep
        decide-told-refused h =
            decide-rest (told (get_or f 0 0)) refl
            ∙ concluded-not (told_number (told (get_or f 0 0)) tag.state (length f)) Open m tag s _ h
            ∙ told-plain m tag s f Open (told (get_or f 0 0)) tag.state (length f)

        pub decide-known : (c : Command) (k : ℕ) → told (get_or f 0 0) ≡ Some (c, k) → told_number (Some (c, k)) tag.state (length f) ≡ 0
            → decide m tag s f random room ≡ commanded c m tag s f random
        decide-known c k e h = decide-rest (Some (c, k)) e ∙ rw h

-- ---- a command's own

pub commanded-done : (c : Command) (m : Map) (tag : Tag) (s f random : List ℕ) → command_number c m tag s f ≡ 0
    → commanded c m tag s f random ≡ command_done c m tag s f random
unfolding commanded
commanded-done c m tag s f random h = rw h

pub commanded-not : (c : Command) (m : Map) (tag : Tag) (s f random : List ℕ) → (command_number c m tag s f ≡ 0 → ⊥)
    → commanded c m tag s f random ≡ not_done m tag s (command_number c m tag s f) (command_reason c m tag s f)
unfolding commanded
commanded-not c m tag s f random h =
    concluded-not (command_number c m tag s f) (command_reason c m tag s f) m tag s (command_done c m tag s f random) h

pub commanded-refused : (c : Command) → (c ≡ Proof → ⊥) → (m : Map) (tag : Tag) (s f random : List ℕ)
    → (command_number c m tag s f ≡ 0 → ⊥)
    → commanded c m tag s f random ≡ refused (command_number c m tag s f) (command_reason c m tag s f) Keep
commanded-refused c other m tag s f random h = commanded-not c m tag s f random h ∙ command-plain m tag s f (command_reason c m tag s f) c other

-- part 2: 8 raises the count, 11 doesn't
pub proof-false : (m : Map) (tag : Tag) (s f random : List ℕ) → command_number Proof m tag s f ≡ 8
    → commanded Proof m tag s f random ≡ refused 8 Open (raised m tag s)
unfolding commanded command_reason not_done
proof-false m tag s f random h = rw h

pub proof-limited : (m : Map) (tag : Tag) (s f random : List ℕ) → command_number Proof m tag s f ≡ 11
    → commanded Proof m tag s f random ≡ refused 11 Open Keep
unfolding commanded command_reason not_done
proof-limited m tag s f random h = rw h

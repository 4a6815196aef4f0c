-- What is known of a frame by its number.
--
--   first-zero, number_if-zero   no check applied
--   Carried, carried            number 0: a known command that is allowed, none of its checks applied, and what it comes to
--   decide-is                   what holds of a command done, of nothing changed and of a refusal holds of what a frame comes to
--   eight-open                  8 is answered only where the limit is not reached
--   one-waiting, ten-misfit     1 is answered only while WAITING, 10 only for a misfit
--   waiting-one                 while WAITING a frame that fits is answered 1
--
-- Assumes nothing.
use mathlib.Core.Path.{◌≡◌, refl, sym, subst}
use mathlib.Core.List.{List}
use mathlib.Core.Bool.{Bool, true, false, not, ◌||◌, cond}
use Prim.Native.Nat.{ℕ, zero, suc}
use native.Mathlib.Omega.{arith}
use borrow.Author.Tests.{not-false}
use lib.Dec.{eqb}
use lib.ListN.{length, get_or}
use Rattle.model.specs.declared.Map.{Map}
use Rattle.model.specs.declared.Tag.{Tag}
use Rattle.model.specs.declared.Command.{Command}
use Rattle.model.specs.declared.Barred.{Barred}
use Rattle.model.specs.declared.Effect.{Effect}
use Rattle.model.specs.declared.Decision.{Decision}
use Rattle.std.specs.Prelude.{Option, Some, None}
use Rattle.model.specs.Record.{is_waiting}
use Rattle.model.specs.Numbers.{number_if, first, kept, refused}
use Rattle.model.specs.Telling.{damaged, told, allowed, told_number}
use Rattle.model.specs.Authentication.{limit_reached}
use Rattle.model.specs.Frame.{misfit, command_number, command_done, earlier_number, not_done, decide}
use Rattle.model.proofs.Parts.{told_command_number, told_done, frame_number, frame_reason}
use Rattle.model.proofs.Numbers.{numbers-of-frame, decide-done, decide-not}

pub first-zero : (a b : ℕ) → first a b ≡ 0 → (a ≡ 0) × (b ≡ 0)
unfolding first
first-zero zero b h = (refl, h)
first-zero (suc a) b h = absurd (omega arith)

pub number_if-zero : (t : Bool) (n : ℕ) → number_if t (suc n) ≡ 0 → t ≡ false
unfolding number_if
number_if-zero true n h = absurd (omega arith)
number_if-zero false n h = refl

-- a frame that was answered 0
pub record Carried (m : Map) (tag : Tag) (s f random : List ℕ) (room : ℕ) : Type 0 where
  pub command : Command
  pub size : ℕ
  pub known : told (get_or f 0 0) ≡ Some (command, size)
  pub own : command_number command m tag s f ≡ 0
  pub permitted : allowed tag.state command ≡ true
  pub awake : is_waiting tag.state ≡ false
  pub fits : misfit m tag s random room ≡ false
  pub whole : damaged f ≡ false
  pub decided : decide m tag s f random room ≡ command_done command m tag s f random

module _ (m : Map) (tag : Tag) (s f random : List ℕ) (room : ℕ) where
  by-told : (t : Option (Command × ℕ)) → told (get_or f 0 0) ≡ t → told_number t tag.state (length f) ≡ 0 → told_command_number t m tag s f ≡ 0
      → is_waiting tag.state ≡ false → misfit m tag s random room ≡ false → damaged f ≡ false
      → decide m tag s f random room ≡ told_done t m tag s f random → Carried m tag s f random room
  unfolding told_number
  by-told (Some (c, k)) e n own awake fits whole d = record {
    command = c;
    size = k;
    known = e;
    own = own;
    permitted = not-false (allowed tag.state c) (number_if-zero (not (allowed tag.state c)) 2 (first-zero _ _ n).0);
    awake = awake;
    fits = fits;
    whole = whole;
    decided = d;
  }
  by-told None e n own awake fits whole d = absurd (omega arith)

  pub carried : frame_number m tag s f random room ≡ 0 → Carried m tag s f random room
  unfolding earlier_number frame_number
  carried h =
      let all = first-zero _ _ h in
      let one = first-zero _ _ all.0 in
      let two = first-zero _ _ one.1 in
      let three = first-zero _ _ two.1 in
      by-told (told (get_or f 0 0)) refl three.1 all.1 (number_if-zero _ 0 two.0) (number_if-zero _ 9 one.0) (number_if-zero _ 1 three.0)
      (decide-done m tag s f random room h)

  module _ (P : Decision → Type 0) (done : (c : Carried m tag s f random room) → P (command_done c.command m tag s f random))
      (same : (n : ℕ) → P (kept n tag)) (ended : (n : ℕ) (b : Barred) (e : Effect) → P (refused n b e)) where
    not-done-is : (n : ℕ) (b : Barred) → P (not_done m tag s n b)
    unfolding not_done
    not-done-is n b = pick (eqb n 1 || eqb n 10) _
      where
        pick : (x : Bool) (e : Effect) → P (cond x (kept n tag) (refused n b e))
        pick true e = same n
        pick false e = ended n b e

    by_number : (n : ℕ) → frame_number m tag s f random room ≡ n → P (decide m tag s f random room)
    by_number zero h = let c = carried h in subst P (sym c.decided) (done c)
    by_number (suc n) h =
        subst P (sym (decide-not m tag s f random room (λ z. omega arith)))
        (not-done-is (frame_number m tag s f random room) (frame_reason m tag s f random room))

    pub decide-is : P (decide m tag s f random room)
    decide-is = by_number (frame_number m tag s f random room) refl

-- ---- the numbers 1, 8 and 10

module _ (m : Map) (tag : Tag) (s f random : List ℕ) (room : ℕ) where
  -- what a number other than 0 says, where it says something
  Tells : ℕ → Type 0
  Tells n =
      (n ≡ 1 → is_waiting tag.state ≡ true) × (n ≡ 8 → limit_reached m tag s ≡ false) × (n ≡ 10 → misfit m tag s random room ≡ true)

  silent-number : (n : ℕ) → (n ≡ 1 → ⊥) → (n ≡ 8 → ⊥) → (n ≡ 10 → ⊥) → Tells n
  unfolding Tells
  silent-number n h1 h8 h10 = (λ e. absurd (h1 e), λ e. absurd (h8 e), λ e. absurd (h10 e))

  tells : Tells (frame_number m tag s f random room)
  unfolding Tells
  tells =
      numbers-of-frame m tag s f random room Tells
      (record {
        own = record {
          of0 = silent-number 0 (omega arith) (omega arith) (omega arith);
          of5 = silent-number 5 (omega arith) (omega arith) (omega arith);
          of6 = silent-number 6 (omega arith) (omega arith) (omega arith);
          of7 = silent-number 7 (omega arith) (omega arith) (omega arith);
          of8 = λ h. (λ e. absurd (omega arith), λ e. h, λ e. absurd (omega arith));
          of9 = silent-number 9 (omega arith) (omega arith) (omega arith);
          of11 = silent-number 11 (omega arith) (omega arith) (omega arith);
        };
        of1 = λ h. (λ e. h, λ e. absurd (omega arith), λ e. absurd (omega arith));
        of2 = silent-number 2 (omega arith) (omega arith) (omega arith);
        of3 = silent-number 3 (omega arith) (omega arith) (omega arith);
        of4 = silent-number 4 (omega arith) (omega arith) (omega arith);
        of10 = λ h. (λ e. absurd (omega arith), λ e. absurd (omega arith), λ e. h);
      })

  pub one-waiting : frame_number m tag s f random room ≡ 1 → is_waiting tag.state ≡ true
  unfolding Tells
  one-waiting = tells.0

  pub eight-open : frame_number m tag s f random room ≡ 8 → limit_reached m tag s ≡ false
  unfolding Tells
  eight-open = tells.1

  pub ten-misfit : frame_number m tag s f random room ≡ 10 → misfit m tag s random room ≡ true
  unfolding Tells
  ten-misfit = tells.2

  pub waiting-one : misfit m tag s random room ≡ false → is_waiting tag.state ≡ true → frame_number m tag s f random room ≡ 1
  unfolding earlier_number frame_number number_if first
  waiting-one fits waits = rw (fits, waits)

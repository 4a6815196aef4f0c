-- Laws of checks and of what a frame comes to.
--
--   first-is, number_if-is     what holds of the numbers that checks can give holds of the one they give
--   numbers-of-command        what holds of each number that a command can get holds of the one it gets
--   numbers-of-earlier, numbers-of-frame     the same for the checks before a command's own, and for a frame
--   told-done                 a command that is carried out is answered 0, and has no reason
--   concluded-not             a number that is not 0 ends it there
--   decide-number             what a frame comes to has the frame's number
--   decide-done, decide-not   what it is where the number is 0, and where it is not
--
-- Assumes nothing.
use mathlib.Core.Path.{◌≡◌, refl, ap, ◌∙◌}
use mathlib.Core.List.{List}
use mathlib.Core.Bool.{Bool, true, false, ◌||◌, cond}
use mathlib.Core.Logic.{◌⊎◌, inl, inr}
use Prim.Native.Nat.{ℕ, zero, suc}
use borrow.Author.Tests.{ne_eqb}
use lib.Dec.{eqb}
use lib.ListN.{length, get_or}
use Rattle.model.specs.declared.Map.{Map}
use Rattle.model.specs.declared.Tag.{Tag}
use Rattle.model.specs.declared.State.{State}
use Rattle.model.specs.declared.Barred.{Barred}
use Rattle.model.specs.declared.Barred.TheVariants.{Open, Auth0, RandomId, OwnLock, PairLock, KeyLock, ConfigLock}
use Rattle.model.specs.declared.Command.{Command}
use Rattle.model.specs.declared.Command.TheVariants.{Read, FastRead, Write, ReadCnt, IncrCnt, Authenticate, Proof, Halt}
use Rattle.std.specs.Prelude.{Option, Some, None}
use Rattle.model.specs.declared.Effect.{Effect}
use Rattle.model.specs.declared.Effect.TheVariants.{Keep}
use Rattle.model.specs.declared.Decision.{Decision}
use Rattle.model.specs.Numbers.{number_if, first, kept, refused, answered, acknowledged}
use Rattle.model.specs.Record.{is_waiting}
use Rattle.model.specs.Telling.{damaged, told, told_number}
use Rattle.model.specs.Reading.{read_number, fast_read_number}
use Rattle.model.specs.Writing.{barred_number, write_number}
use Rattle.model.specs.Counters.{read_cnt_number, incr_cnt_number}
use Rattle.model.specs.Authentication.{limit_reached, raised, challenge_number, challenged, proof_number, proved}
use Rattle.model.specs.Frame.{misfit, command_reason, command_number, halted, command_done, earlier_number, not_done, concluded, decide}
use Rattle.model.proofs.Parts.{told_command_number, told_done, frame_number, frame_reason, decide-parts}

-- ---- which numbers there are

-- what holds of both numbers holds of the first of them
pub first-is : (P : ℕ → Type 0) (a b : ℕ) → P a → P b → P (first a b)
unfolding first
first-is P zero b pa pb = pb
first-is P (suc a) b pa pb = pa

-- what holds of 0, and of n where the check applies, holds of the check's number
pub number_if-is : (P : ℕ → Type 0) (t : Bool) (n : ℕ) → P 0 → (t ≡ true → P n) → P (number_if t n)
unfolding number_if
number_if-is P true n zero' other = other refl
number_if-is P false n zero' other = zero'

-- what holds of each of a command's numbers, of 8 where the limit is not reached
pub record OfCommand (m : Map) (tag : Tag) (s : List ℕ) (P : ℕ → Type 0) : Type 0 where
  pub of0 : P 0
  pub of5 : P 5
  pub of6 : P 6
  pub of7 : P 7
  pub of8 : limit_reached m tag s ≡ false → P 8
  pub of9 : P 9
  pub of11 : P 11

-- the same for a frame: 10 for a misfit, 1 while WAITING
pub record OfFrame (m : Map) (tag : Tag) (s f random : List ℕ) (room : ℕ) (P : ℕ → Type 0) : Type 0 where
  pub own : OfCommand m tag s P
  pub of1 : is_waiting tag.state ≡ true → P 1
  pub of2 : P 2
  pub of3 : P 3
  pub of4 : P 4
  pub of10 : misfit m tag s random room ≡ true → P 10

module _ (m : Map) (tag : Tag) (s f : List ℕ) (P : ℕ → Type 0) where
  of-barred : P 0 → P 6 → P 7 → (b : Barred) → P (barred_number b)
  of-barred p0 p6 p7 Open = p0
  of-barred p0 p6 p7 Auth0 = p6
  of-barred p0 p6 p7 RandomId = p6
  of-barred p0 p6 p7 OwnLock = p7
  of-barred p0 p6 p7 PairLock = p7
  of-barred p0 p6 p7 KeyLock = p7
  of-barred p0 p6 p7 ConfigLock = p7

  pub of-write : P 0 → P 5 → P 6 → P 7 → (p : ℕ) (b : Barred) → P (write_number m p b)
  unfolding write_number
  of-write p0 p5 p6 p7 p b = first-is P (number_if _ 5) _ (number_if-is P _ 5 p0 (λ _. p5)) (of-barred p0 p6 p7 b)

  pub two-checks : (t u : Bool) (n k : ℕ) → P 0 → P n → P k → P (first (number_if t n) (number_if u k))
  two-checks t u n k p0 pn pk = first-is P (number_if t n) (number_if u k) (number_if-is P t n p0 (λ _. pn)) (number_if-is P u k p0 (λ _. pk))

  -- the check for 8 stands behind the check for the limit
  pub limit-first : (t u : Bool) → P 0 → P 11 → (t ≡ false → P 8) → P (first (number_if t 11) (number_if u 8))
  unfolding first number_if
  limit-first true u p0 p11 p8 = p11
  limit-first false u p0 p11 p8 = number_if-is P u 8 p0 (λ _. p8 refl)

  pub numbers-of-command : OfCommand m tag s P → (c : Command) → P (command_number c m tag s f)
  unfolding command_number read_number fast_read_number read_cnt_number incr_cnt_number challenge_number proof_number
  numbers-of-command h Read = two-checks _ _ 5 6 h.of0 h.of5 h.of6
  numbers-of-command h FastRead = two-checks _ _ 5 6 h.of0 h.of5 h.of6
  numbers-of-command h Write = of-write h.of0 h.of5 h.of6 h.of7 (get_or f 1 0) (command_reason Write m tag s f)
  numbers-of-command h ReadCnt = two-checks _ _ 5 6 h.of0 h.of5 h.of6
  numbers-of-command h IncrCnt =
      first-is P (number_if _ 5) _ (number_if-is P _ 5 h.of0 (λ _. h.of5)) (two-checks _ _ 6 9 h.of0 h.of6 h.of9)
  numbers-of-command h Authenticate = two-checks _ _ 5 11 h.of0 h.of5 h.of11
  numbers-of-command h Proof = limit-first (limit_reached m tag s) _ h.of0 h.of11 h.of8
  numbers-of-command h Halt = number_if-is P _ 5 h.of0 (λ _. h.of5)

  of-told : P 0 → P 3 → P 4 → (t : Option (Command × ℕ)) (st : State) (n : ℕ) → P (told_number t st n)
  unfolding told_number
  of-told p0 p3 p4 (Some (c, k)) st n = two-checks _ _ 3 4 p0 p3 p4
  of-told p0 p3 p4 None st n = p3

  of-told-command : OfCommand m tag s P → (t : Option (Command × ℕ)) → P (told_command_number t m tag s f)
  of-told-command h (Some (c, k)) = numbers-of-command h c
  of-told-command h None = h.of0

-- the checks before a command's own
pub numbers-of-earlier : (m : Map) (tag : Tag) (s f random : List ℕ) (room : ℕ) (P : ℕ → Type 0) → P 0
    → (misfit m tag s random room ≡ true → P 10) → (is_waiting tag.state ≡ true → P 1) → P 2 → P 3 → P 4
    → P (earlier_number m tag s f random room)
unfolding earlier_number
numbers-of-earlier m tag s f random room P p0 p10 p1 p2 p3 p4 =
    first-is P _ _ (number_if-is P (misfit m tag s random room) 10 p0 p10)
    (first-is P _ _ (number_if-is P (is_waiting tag.state) 1 p0 p1)
    (first-is P _ _ (number_if-is P (damaged f) 2 p0 (λ _. p2)) (of-told m tag s f P p0 p3 p4 (told (get_or f 0 0)) tag.state (length f))))

pub numbers-of-frame : (m : Map) (tag : Tag) (s f random : List ℕ) (room : ℕ) (P : ℕ → Type 0)
    → OfFrame m tag s f random room P → P (frame_number m tag s f random room)
unfolding frame_number
numbers-of-frame m tag s f random room P h =
    first-is P _ _ (numbers-of-earlier m tag s f random room P h.own.of0 h.of10 h.of1 h.of2 h.of3 h.of4)
    (of-told-command m tag s f P h.own (told (get_or f 0 0)))

-- ---- what a frame comes to, by its number

command-done : (c : Command) (m : Map) (tag : Tag) (s f random : List ℕ) → let d = command_done c m tag s f random in
    (d.number ≡ 0) × (d.reason ≡ Open)
unfolding command_done answered acknowledged challenged proved halted
command-done Read m tag s f random = (refl, refl)
command-done FastRead m tag s f random = (refl, refl)
command-done Write m tag s f random = (refl, refl)
command-done ReadCnt m tag s f random = (refl, refl)
command-done IncrCnt m tag s f random = (refl, refl)
command-done Authenticate m tag s f random = (refl, refl)
command-done Proof m tag s f random = (refl, refl)
command-done Halt m tag s f random = (refl, refl)

pub told-done : (t : Option (Command × ℕ)) (m : Map) (tag : Tag) (s f random : List ℕ) → let d = told_done t m tag s f random in
    (d.number ≡ 0) × (d.reason ≡ Open)
unfolding halted
told-done (Some (c, k)) m tag s f random = command-done c m tag s f random
told-done None m tag s f random = (refl, refl)

not-done-number : (m : Map) (tag : Tag) (s : List ℕ) (n : ℕ) (b : Barred) → (not_done m tag s n b).number ≡ n
unfolding not_done kept refused
not-done-number m tag s n b = pick (eqb n 1 || eqb n 10) (cond (eqb n 8) (raised m tag s) Keep)
  where
    pick : (t : Bool) (e : Effect) → (cond t (kept n tag) (refused n b e)).number ≡ n
    pick true e = refl
    pick false e = refl

concluded-number : (n : ℕ) (b : Barred) (m : Map) (tag : Tag) (s : List ℕ) (d : Decision) → d.number ≡ 0 → (concluded n b m tag s d).number ≡ n
concluded-number zero b m tag s d h = h
concluded-number (suc n) b m tag s d h = not-done-number m tag s (suc n) b

pub decide-number : (m : Map) (tag : Tag) (s f random : List ℕ) (room : ℕ)
    → (decide m tag s f random room).number ≡ frame_number m tag s f random room
decide-number m tag s f random room =
    ap (λ (d : Decision). d.number) (decide-parts m tag s f random room)
    ∙ concluded-number (frame_number m tag s f random room) (frame_reason m tag s f random room) m tag s (told_done (told (get_or f 0 0)) m tag s f random)
    (told-done (told (get_or f 0 0)) m tag s f random).0

pub concluded-not : (n : ℕ) (b : Barred) (m : Map) (tag : Tag) (s : List ℕ) (d : Decision) → (n ≡ 0 → ⊥) → concluded n b m tag s d ≡ not_done m tag s n b
concluded-not zero b m tag s d h = absurd (h refl)
concluded-not (suc n) b m tag s d h = refl

-- where the number is not 0, only the number and the reason count
pub decide-not : (m : Map) (tag : Tag) (s f random : List ℕ) (room : ℕ) → (frame_number m tag s f random room ≡ 0 → ⊥)
    → decide m tag s f random room ≡ not_done m tag s (frame_number m tag s f random room) (frame_reason m tag s f random room)
decide-not m tag s f random room h =
    decide-parts m tag s f random room
    ∙ concluded-not (frame_number m tag s f random room) (frame_reason m tag s f random room) m tag s (told_done (told (get_or f 0 0)) m tag s f random) h

-- where it is 0, the command is carried out
pub decide-done : (m : Map) (tag : Tag) (s f random : List ℕ) (room : ℕ) → frame_number m tag s f random room ≡ 0
    → decide m tag s f random room ≡ told_done (told (get_or f 0 0)) m tag s f random
decide-done m tag s f random room h =
    decide-parts m tag s f random room
    ∙ ap (λ (n : ℕ). concluded n (frame_reason m tag s f random room) m tag s (told_done (told (get_or f 0 0)) m tag s f random)) h

pub not-done-refused : (m : Map) (tag : Tag) (s : List ℕ) (n : ℕ) (b : Barred) → (n ≡ 1 → ⊥) → (n ≡ 10 → ⊥)
    → not_done m tag s n b ≡ refused n b (cond (eqb n 8) (raised m tag s) Keep)
unfolding not_done
not-done-refused m tag s n b h1 h10 = simp (ne_eqb n 1 h1, ne_eqb n 10 h10)

pub not-done-kept : (m : Map) (tag : Tag) (s : List ℕ) (n : ℕ) (b : Barred) → (n ≡ 1) ⊎ (n ≡ 10) → not_done m tag s n b ≡ kept n tag
unfolding not_done
not-done-kept m tag s n b (inl h) = rw h
not-done-kept m tag s n b (inr h) = rw h

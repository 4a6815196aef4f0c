-- What the first checks leave for a command: what its functions require.
--
--   fits-failed    a failed count that can be raised
--   whole_long     a frame with a code byte
--   known_code     a command that is told, with the length of its payload
--   exit-err       what holds of a refusal holds at the exit of a `?` on its check
--   told-err, told-ok, on_ok    what holds of the refusal, or of the command, that `check_told` answers; of neither
--
-- Assumes nothing.
use mathlib.Core.Path.{◌≡◌}
use mathlib.Core.List.{List}
use mathlib.Core.Bool.{false}
use Prim.Native.Nat.{ℕ, ◌≤◌, ◌<◌}
use native.Mathlib.Omega.{arith}
use borrow.Author.Tests.{ltb-false}
use lib.Dec.{ltb}
use lib.ListN.{length}
use Rattle.std.specs.Prelude.{Option, Some, None, IsSomeAnd, Result, Ok, Err, IfOk, IfErr, OnOk}
use Rattle.std.specs.Result.{IsErrAnd}
use Rattle.std.proofs.lemmas.Bool.{or_parts}
use Rattle.std.proofs.lemmas.Result.{err_from_is_err_and}
use Rattle.model.specs.declared.Map.{Map}
use Rattle.model.specs.declared.Tag.{Tag}
use Rattle.model.specs.declared.Command.{Command}
use Rattle.model.specs.Telling.{damaged}
use Rattle.model.specs.Frame.{misfit}
use Rattle.model.proofs.Image.{bounded}
use Rattle.numbers.specs.declared.Refusal.{Refusal}
use Rattle.numbers.specs.Refusals.{number_of, number_told}
use Rattle.model.proofs.Misfit.{fits-possible}

pub fits-failed : (m : Map) (tag : Tag) (s random : List ℕ) (room : ℕ) → misfit m tag s random room ≡ false → tag.failed < 65535
fits-failed m tag s random room fits = let few = (bounded tag (fits-possible m tag s random room fits)).failed in omega arith

pub whole_long : (f : List ℕ) → damaged f ≡ false → 1 ≤ length f
unfolding damaged
whole_long f h = let three : 3 ≤ length f = ltb-false _ _ (or_parts (ltb (length f) 3) _ (or_parts _ _ h).0).0 in omega arith

pub known_code : (t : Option (Command × ℕ)) (c : Command) → IsSomeAnd t (λ known. known.0 ≡ c) → (k : ℕ) × (t ≡ Some (c, k))
known_code (Some (d, k)) c same = (k, (λ i. Some (same i, k)))
known_code None c same = absurd same

pub exit-err : (P : Refusal → Type 0) (o : Result Command Refusal) (r why : Refusal) → IsErrAnd o (λ x. x ≡ r) → r ≡ why → P why → IfErr o P
exit-err P o r why exit same h = let e = err_from_is_err_and o exit in rw (e.1, e.2, same) h

pub told-err : (P : Refusal → Type 0) (o : Result Command Refusal) (n : ℕ) → number_told o ≡ n → ((r : Refusal) → number_of r ≡ n → P r) → IfErr o P
told-err P (Ok c) n e h = tt
told-err P (Err r) n e h = h r e

pub told-ok : (P : Command → Type 0) (o : Result Command Refusal) (t : Option (Command × ℕ)) (n : ℕ) → number_told o ≡ n
    → IfOk o (λ c. IsSomeAnd t (λ known. known.0 ≡ c)) → ((c : Command) → IsSomeAnd t (λ known. known.0 ≡ c) → 0 ≡ n → P c) → IfOk o P
told-ok P (Ok c) t n e same h = h c same e
told-ok P (Err r) t n e same h = tt

pub on_ok : (P : Type 0) (o : Result Command Refusal) → P → OnOk o P
on_ok P (Ok c) h = h
on_ok P (Err r) h = tt

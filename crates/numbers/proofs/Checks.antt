-- The numbers of refusals, and a check by `refuse_if`.
--
--   positive           no refusal has number 0
--   number-refuse_if   its number is the refusal's where the test holds, and 0 where it doesn't
--   refuse_if-err      refused, the test held, and the refusal is that one
--   refuse_if-ok       passed, it didn't
--
-- Assumes nothing.
use mathlib.Core.Path.{◌≡◌, refl, ap}
use mathlib.Core.Bool.{Bool, true, false, cond}
use native.Mathlib.Omega.{arith}
use Rattle.std.specs.Prelude.{Result, Ok, Err, ⊤}
use Rattle.model.specs.Numbers.{number_if}
use Rattle.numbers.specs.declared.Refusal.{Refusal}
use Rattle.numbers.specs.declared.Refusal.TheVariants.{Waiting, Damaged, Unknown, Length, Argument, Protected, Locked, FalseProof, CounterEnd, Misfit, LimitReached, NoImage}
use Rattle.numbers.specs.Refusals.{number_of, number_told}

pub positive : (r : Refusal) → number_of r ≡ 0 → ⊥
positive Waiting h = omega arith
positive Damaged h = omega arith
positive Unknown h = omega arith
positive Length h = omega arith
positive Argument h = omega arith
positive Protected h = omega arith
positive Locked h = omega arith
positive FalseProof h = omega arith
positive CounterEnd h = omega arith
positive Misfit h = omega arith
positive LimitReached h = omega arith
positive NoImage h = omega arith

-- what `refuse_if` answers
abbrev refusing : Bool → Refusal → Result ⊤ Refusal
refusing t why = cond t (Err why) (Ok tt)

pub number-refuse_if : (t : Bool) (why : Refusal) → number_told (refusing t why) ≡ number_if t (number_of why)
unfolding number_if
number-refuse_if true why = refl
number-refuse_if false why = refl

-- the refusal, and any other where there is none
error_or : Refusal → Result ⊤ Refusal → Refusal
error_or other (Ok x) = other
error_or other (Err r) = r

pub refuse_if-err : (t : Bool) (why r : Refusal) → Err r ≡ refusing t why → (t ≡ true) × (r ≡ why)
unfolding error_or
refuse_if-err true why r e = (refl, ap (error_or why) e)
refuse_if-err false why r e = absurd (cc e)

pub refuse_if-ok : (t : Bool) (why : Refusal) (x : ⊤) → Ok x ≡ refusing t why → t ≡ false
refuse_if-ok true why x e = absurd (cc e)
refuse_if-ok false why x e = refl

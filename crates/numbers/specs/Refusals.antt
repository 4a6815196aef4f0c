-- Document 01, "The numbers a call answers with": the number of each refusal, and of what a check comes to.
--
--     number_of r     the number of a refusal
--     number_told c   the number of a check: 0 where nothing is refused
--
-- Assumes nothing.
use Rattle.std.specs.Prelude.{ℕ, Result, Ok, Err}
use Rattle.numbers.specs.declared.Refusal.{Refusal}
use Rattle.numbers.specs.declared.Refusal.TheVariants.{Waiting, Damaged, Unknown, Length, Argument, Protected, Locked, FalseProof, CounterEnd, Misfit, LimitReached, NoImage}

abbrev pub number_of : Refusal → ℕ
number_of Waiting = 1
number_of Damaged = 2
number_of Unknown = 3
number_of Length = 4
number_of Argument = 5
number_of Protected = 6
number_of Locked = 7
number_of FalseProof = 8
number_of CounterEnd = 9
number_of Misfit = 10
number_of LimitReached = 11
number_of NoImage = 12

abbrev pub number_told : {A : Type 0} → Result A Refusal → ℕ
number_told (Ok x) = 0
number_told (Err r) = number_of r

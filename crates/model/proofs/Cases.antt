-- Document 01's bench cases: the statement of specs/Cases.antt, by computing every row.
--
--   cases-right     the statement
--
-- Assumes nothing.
use Rattle.model.specs.Cases.{cases, CasesRight}
use Rattle.model.proofs.Computing.{computing}

pub cases-right : CasesRight
unfolding computing cases
cases-right = tt

-- The bench cases with logins: the statement of specs/Logins.antt, by computing every row.
--
--   logins-right     the statement
--
-- Assumes nothing.
use Rattle.model.proofs.Computing.{computing}
use Rattle.login_cases.specs.Logins.{login_cases, LoginsRight}

pub logins-right : LoginsRight
unfolding computing login_cases
logins-right = tt

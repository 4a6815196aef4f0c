-- `login::prove` meets its contract: 11 at the limit.
-- Assumes nothing.
use mathlib.Core.Path.{sym, ◌∙◌}
use Rattle.numbers.specs.declared.Refusal.TheVariants.{LimitReached}
use Rattle.numbers.proofs.Checks.{refuse_if-err}
use Rattle.refusals.proofs.Outcome.{decided-exit}
use Rattle.login.proofs.PartTwo.{proof-at-limit}
use Rattle.login.proofs.prove.Goals as goal

pub returns-in_err-refuse_if : goal.returns-in_err-refuse_if
returns-in_err-refuse_if c =
    let a = c.args.asked.now in
    let e = refuse_if-err _ LimitReached _ c.in_err-refuse_if.ensures in
    decided-exit a.tag _ _ c.from_residual.ensures.1
    ∙ rw e.1 (proof-at-limit a.pages.map a.tag a.pages.bytes.now a.frame.now a.random.now (sym c.limit_reached-reached.ensures ∙ e.0))

-- `freezing::frozen` meets its contract: a row for each turn.
-- Assumes nothing.
use Rattle.std.proofs.Common.{rules}
use Rattle.freezing.proofs.Rows.{joined-on, joined-off, joined-all}
use Rattle.freezing.proofs.frozen.Goals as goal

pub loop-row-preserved : goal.loop-row-preserved
loop-row-preserved c = search (rules, joined-on, joined-off)

pub returns : goal.returns
returns c = search (rules, joined-all)

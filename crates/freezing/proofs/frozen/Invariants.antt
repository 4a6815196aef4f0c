-- `freezing::frozen` meets its contract. The loop's invariant: what the rows so far freeze, with what those that are left freeze, is what all freeze.
use Rattle.std.proofs.Common.{◌≡◌, drop}
use Rattle.model.specs.Writing.{frozen}
use Rattle.freezing.proofs.Rows.{joined}
use Rattle.freezing.proofs.frozen.Given as goal

abbrev pub invariant-loop-row : goal.invariant-loop-row
invariant-loop-row l = joined l.masks (frozen (drop l.row-index l.rows) l.bits) ≡ frozen l.initial.rows l.initial.b

-- `shown::lay_run` meets its contract. The loop's invariant: the bytes before the index are laid.
use mathlib.Core.Path.{◌≡◌}
use lib.Seq.{sets}
use Rattle.shown.specs.Run.{shown_run}
use Rattle.shown.proofs.lay_run.Given as goal

abbrev pub invariant-loop-i : goal.invariant-loop-i
invariant-loop-i l = l.reply ≡ sets l.initial.reply l.at (shown_run l.pages.map l.st l.pages.bytes.now l.first l.i)

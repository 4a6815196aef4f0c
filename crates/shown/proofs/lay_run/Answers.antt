-- `shown::lay_run` meets its contract. One byte more of a run is one store more.
-- Assumes nothing.
use mathlib.Core.Path.{refl}
use Rattle.octets.proofs.Laid.{run-put}
use Rattle.model.specs.Reading.{shown_byte}
use Rattle.shown.specs.Run.{shown_run}
use Rattle.shown.proofs.lay_run.Goals as goal

pub loop-i-init : goal.loop-i-init
unfolding shown_run
loop-i-init c = refl

pub loop-i-preserved : goal.loop-i-preserved
unfolding shown_run
loop-i-preserved c =
    let l = c.loop-i in
    let a = c.args in
    run-put a.reply.now l.reply _ a.at a.first l.i _ (shown_byte a.pages.now.map a.st a.pages.now.bytes.now) l.invariant c.shown_byte-byte.ensures
    c.put.ensures

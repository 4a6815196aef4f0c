-- `script::line::lay_frame` meets its contract: the next byte is laid behind the first i.
-- Assumes nothing.
use Rattle.std.proofs.Common.{ℕ, sym, ap, ◌∙◌, zero-add}
use lib.ListN.{set}
use Rattle.octets.proofs.Laid.{run-put}
use Rattle.script.specs.Line.{byte_at}
use Rattle.script.proofs.line.lay_frame.Goals as goal

pub loop-i-preserved : goal.loop-i-preserved
loop-i-preserved c =
    let l = c.loop-i in
    let a = c.args in
    run-put a.frame.now l.frame _ 0 0 l.i _ (byte_at a.line.now) l.invariant (c.byte_at.ensures ∙ ap (byte_at a.line.now) (sym (zero-add l.i)))
    (c.put.ensures ∙ ap (λ (k : ℕ). set l.frame k c.byte_at.result) (sym (zero-add l.i)))

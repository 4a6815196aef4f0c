-- `script::line::line_of` meets its contract: a line that asks for a frame is long enough, and not too long for a byte.
-- Assumes nothing.
use Rattle.std.proofs.Common.{rules, arith, sym, ◌∙◌}
use Rattle.script.proofs.Frames.{frame-long}
use Rattle.script.proofs.line.line_of.Goals as goal

pub overflow_sub-result : goal.overflow_sub-result
overflow_sub-result c = omega (arith, frame-long _ (sym c.frame_right.ensures ∙ c.if-frame_right.true))

pub overflow_cast-result : goal.overflow_cast-result
overflow_cast-result c = search (rules, frame-long _ (sym c.frame_right.ensures ∙ c.if-frame_right.true))

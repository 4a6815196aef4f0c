-- `script::line::lay_frame` meets its contract. The loop's invariant: the first i bytes are laid.
use Rattle.std.proofs.Common.{◌≡◌}
use Rattle.std.proofs.lemmas.List.Edits.{sets}
use Rattle.script.specs.Line.{frame_bytes}
use Rattle.script.proofs.line.lay_frame.Given as goal

abbrev pub invariant-loop-i : goal.invariant-loop-i
invariant-loop-i l = l.frame ≡ sets l.initial.frame 0 (frame_bytes l.line l.i)

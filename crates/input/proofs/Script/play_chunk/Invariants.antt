-- `input::Script::play_chunk` ends. The measure is what is left of what was read.
use Rattle.std.proofs.Common.{length}
use Rattle.input.proofs.Script.play_chunk.Given as goal

abbrev pub decreases-loop-line : goal.decreases-loop-line
decreases-loop-line l = length l.rest

-- `bench::file::read_full` is safe and ends. The loop's invariant: no more is read than the buffer holds. The measure is what is left of it.
use Rattle.std.proofs.Common.{length, ◌-◌, ◌≤◌}
use Rattle.bench.proofs.file.read_full.Given as goal

abbrev pub invariant-loop-done : goal.invariant-loop-done
invariant-loop-done g l = l.done ≤ length l.image

abbrev pub decreases-loop-done : goal.decreases-loop-done
decreases-loop-done g l = length l.image - l.done

-- `input::play_all` meets its contract. The loop's invariant: nothing is gathered where a reading begins.
use Rattle.std.proofs.Common.{◌≡◌, []}
use Rattle.input.proofs.play_all.Given as goal

abbrev pub invariant-loop : goal.invariant-loop
invariant-loop g l = l.script.gathered.text.items ≡ []

-- `schedule::expand` meets its contract. The loop's invariant: the first i words are the key and the words behind it.
use mathlib.Core.Path.{◌≡◌}
use Prim.Native.Nat.{◌-◌, ◌*◌}
use lib.ListN.{length, take}
use Rattle.fips197.specs.KeyExpansion.{expand}
use Rattle.schedule.proofs.expand.Given as goal

abbrev pub invariant-loop-i : goal.invariant-loop-i
invariant-loop-i l = (length l.w ≡ 176) × (take (4 * l.i) l.w ≡ expand l.fn.key (l.i - 4))

-- `rounds::cipher` meets its contract. The loop's invariant: s is the state after the rounds before n.
use mathlib.Core.Path.{◌≡◌}
use Prim.Native.Nat.{◌-◌}
use Rattle.fips197.specs.Cipher.{rounds}
use Rattle.rounds.proofs.cipher.Given as goal

abbrev pub invariant-loop-n : goal.invariant-loop-n
invariant-loop-n l = l.s ≡ rounds l.w l.initial.s (l.n - 1)

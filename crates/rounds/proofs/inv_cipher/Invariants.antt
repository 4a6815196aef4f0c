-- `rounds::inv_cipher` meets its contract. The loop's invariant: the inverse rounds below n of s are all nine of the start.
use mathlib.Core.Path.{◌≡◌}
use Prim.Native.Nat.{◌-◌}
use Rattle.fips197.specs.Cipher.{inv_rounds}
use Rattle.rounds.proofs.inv_cipher.Given as goal

abbrev pub invariant-loop-n : goal.invariant-loop-n
invariant-loop-n l = inv_rounds l.w (l.n - 1) l.s ≡ inv_rounds l.w 9 l.initial.s

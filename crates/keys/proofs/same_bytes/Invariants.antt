-- `keys::same_bytes` meets its contract. The loop's invariant: what was compared so far, and the rest, are the whole comparison; the rests are of one length.
use mathlib.Core.Path.{◌≡◌}
use mathlib.Core.Bool.{◌&&◌}
use lib.ListN.{length}
use Rattle.model.specs.Authentication.{same_bytes}
use Rattle.keys.proofs.same_bytes.Given as goal

abbrev pub invariant-loop-x : goal.invariant-loop-x
invariant-loop-x l =
    let x = l.x-iterator.a.rest.now in
    let y = l.x-iterator.b.rest.now in
    (length x ≡ length y) × (l.same && same_bytes x y ≡ same_bytes l.fn.a l.fn.b)

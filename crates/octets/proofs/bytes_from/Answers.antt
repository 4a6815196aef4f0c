-- `octets::bytes_from` meets its contract: each call reads the byte at its index, and changes neither s nor start.
-- Assumes nothing.
use Rattle.std.proofs.Common.{rules}
use mathlib.Core.Path.{◌≡◌}
use Prim.Native.Nat.{◌+◌}
use lib.ListN.{get_or}
use Rattle.octets.proofs.Made.{filled}
use Rattle.octets.proofs.bytes_from.Goals as goal

pub returns : goal.returns
returns g c k h =
    filled _ (λ p i y. y ≡ get_or p.0.now (p.1.now + i) 0) c.from_fn.result (λ p i y q e. search rules) _ _ c.from_fn.ensures.items.each k 0 h

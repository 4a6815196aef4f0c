-- `memory::settings::bit_set` meets its contract: above bit 15 the number is divided away.
-- Assumes nothing.
use mathlib.Core.Path.{◌≡◌}
use Prim.Native.Nat.{◌/◌, ◌^◌}
use native.Mathlib.Nat.{div-eq_of_lt, lt_of_lt_of_le}
use lib.Pow.{pow_mono}
use Rattle.std.proofs.Common.{rules}
use Rattle.bits.specs.Bits.{bit_of}
use Rattle.memory.proofs.settings.bit_set.Goals as goal

pub returns-else-k-lt16 : goal.returns-else-k-lt16
unfolding bit_of
returns-else-k-lt16 c =
    let a = c.args in
    let none : a.x / 2 ^ a.k ≡ 0 = div-eq_of_lt (lt_of_lt_of_le c.ranges.x.fits (pow_mono c.if-k-lt16.false)) in
    rw none (search rules)

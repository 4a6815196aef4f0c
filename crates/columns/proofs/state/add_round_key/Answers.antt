-- `columns::state::add_round_key` meets its contract: byte i of round key n is byte i mod 4 of word 4n + i / 4.
-- Assumes nothing.
use native.Mathlib.Omega.{arith}
use Rattle.std.proofs.lemmas.Grind.{common_steps}
use lib.Bits.{bit_xor}
use mathlib.Core.Path.{◌≡◌}
use Prim.Native.Nat.{◌+◌, ◌*◌, ◌/◌, ◌%◌}
use lib.ListN.{get_or}
use Rattle.fips197.specs.State.{add_round_key}
use Rattle.octets.proofs.Made.{made_by}
use Rattle.columns.proofs.state.add_round_key.Goals as goal

pub returns : goal.returns
unfolding add_round_key
returns c =
    let a = c.args in
    made_by _ _ (λ i. bit_xor (get_or a.s i 0) (get_or a.w.now (4 * (4 * a.n + i / 4) + i % 4) 0))
    (λ i y q k. let place : 16 * a.n + i ≡ 4 * (4 * a.n + i / 4) + i % 4 = omega arith in grind (arith, common_steps)) c.from_fn.result 16
    c.from_fn.ensures.items

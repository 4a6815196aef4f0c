-- `columns::state::inv_shift_rows` meets its contract: byte by byte.
-- Assumes nothing.
use borrow.Author.Rules.{rules}
use Prim.Native.Nat.{◌+◌, ◌*◌, ◌%◌}
use lib.ListN.{get_or}
use Rattle.fips197.specs.State.{inv_shift_rows}
use Rattle.octets.proofs.Made.{made_by}
use Rattle.columns.proofs.state.inv_shift_rows.Goals as goal

pub returns : goal.returns
unfolding inv_shift_rows
returns c =
    let a = c.args in
    made_by _ _ (λ i. get_or a.s ((i + 12 * (i % 4)) % 16) 0) (λ i y q k. search rules) c.from_fn.result 16 c.from_fn.ensures.items

-- `columns::state::inv_sub_bytes` meets its contract: the table at each byte.
-- Assumes nothing.
use borrow.Author.Rules.{rules}
use mathlib.Core.Path.{◌∙◌}
use Rattle.fips197.specs.SBox.{inv_sbox}
use Rattle.fips197.specs.State.{inv_sub_bytes}
use Rattle.octets.proofs.Made.{mapped_by}
use Rattle.columns.proofs.Mapped.{map_state}
use Rattle.columns.proofs.state.inv_sub_bytes.Goals as goal

pub returns : goal.returns
unfolding inv_sub_bytes
returns c =
    let a = c.args in
    mapped_by _ _ inv_sbox (λ x y q k. search rules) 0 a.s c.map.result 16 (search rules) c.map.ensures.items ∙ map_state inv_sbox a.s (search rules)

-- `columns::state::sub_bytes` meets its contract: the table at each byte.
-- Assumes nothing.
use borrow.Author.Rules.{rules}
use mathlib.Core.Path.{◌∙◌}
use Rattle.fips197.specs.SBox.{s_box}
use Rattle.fips197.specs.State.{sub_bytes}
use Rattle.octets.proofs.Made.{mapped_by}
use Rattle.columns.proofs.Mapped.{map_state}
use Rattle.columns.proofs.state.sub_bytes.Goals as goal

pub returns : goal.returns
unfolding sub_bytes
returns c =
    let a = c.args in
    mapped_by _ _ s_box (λ x y q k. search rules) 0 a.s c.map.result 16 (search rules) c.map.ensures.items ∙ map_state s_box a.s (search rules)

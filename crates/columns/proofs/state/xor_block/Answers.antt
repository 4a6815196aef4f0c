-- `columns::state::xor_block` meets its contract: each byte is the exclusive or.
-- Assumes nothing.
use borrow.Author.Rules.{rules}
use lib.Bits.{bit_xor}
use lib.ListN.{get_or}
use Rattle.fips197.specs.Cbc.{xor_block}
use Rattle.octets.proofs.Made.{made_by}
use Rattle.columns.proofs.state.xor_block.Goals as goal

pub returns : goal.returns
unfolding xor_block
returns c =
    let a = c.args in
    made_by _ _ (λ i. bit_xor (get_or a.a i 0) (get_or a.b i 0)) (λ i y q k. search rules) c.from_fn.result 16 c.from_fn.ensures.items

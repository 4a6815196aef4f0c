-- `mixing::state_of` meets its contract: byte i of the state is byte i mod 4 of column i / 4.
-- Assumes nothing.
use borrow.Author.Rules.{rules}
use mathlib.Core.List.{[]}
use Prim.Native.Nat.{◌/◌, ◌%◌}
use lib.ListN.{get_or}
use Rattle.octets.proofs.Made.{made_by}
use Rattle.mixing.proofs.state_of.Goals as goal

pub returns : goal.returns
returns c =
    let a = c.args in
    made_by _ _ (λ i. get_or (get_or a.columns (i / 4) []) (i % 4) 0) (λ i y q k. search rules) c.from_fn.result 16 c.from_fn.ensures.items

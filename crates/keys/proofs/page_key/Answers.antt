-- `keys::page_key` meets its contract: byte by byte.
-- Assumes nothing.
use Rattle.std.proofs.Common.{rules, ◌+◌, ◌-◌, get_or}
use Rattle.octets.proofs.Made.{made_by}
use Rattle.model.specs.Authentication.{page_key}
use Rattle.keys.proofs.page_key.Goals as goal

pub returns : goal.returns
unfolding page_key
returns c =
    let a = c.args in
    made_by _ _ (λ j. get_or a.s.now (a.i + (15 - j)) 0) (λ j y q k. search rules) c.from_fn.result 16 c.from_fn.ensures.items

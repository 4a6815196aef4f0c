-- `reports::digits::octets_of` meets its contract: byte by byte.
-- Assumes nothing.
use Rattle.std.proofs.Common.{rules, ◌+◌}
use Rattle.octets.proofs.Made.{made_by}
use Rattle.reports.specs.Digits.{octet_or_zero}
use Rattle.reports.proofs.digits.octets_of.Goals as goal

pub returns : goal.returns
returns g c =
    let a = c.args in
    made_by _ _ (λ k. octet_or_zero a.text.now (a.start + k)) (λ k y q called. search rules) c.from_fn.result g.row.N c.from_fn.ensures.items

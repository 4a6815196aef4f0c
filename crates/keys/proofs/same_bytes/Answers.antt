-- `keys::same_bytes` meets its contract: a byte of each more is compared, until none is left of either.
-- Assumes nothing.
use mathlib.Core.Path.{sym, ◌∙◌}
use mathlib.Core.Logic.{inl, inr}
use native.Mathlib.Omega.{arith}
use Rattle.keys.proofs.Bytes.{same_more, same-all}
use Rattle.keys.proofs.same_bytes.Goals as goal

pub loop-x-preserved : goal.loop-x-preserved
loop-x-preserved c =
    let step = c.in-Some.ensures.steps in
    let before = c.loop-x.invariant in
    let after = c.next.new.self in (
      omega (arith, rw (step.0, step.1) at before.0),
      same_more _ _ _ _ _ _ _ step.0 step.1 ∙ before.1,
    )

pub returns : goal.returns
returns c =
    let same = c.loop-x.invariant.0 in
    let all = c.loop-x.invariant.1 in
    elim c.in-None.ensures.steps [
      | inl e ↦ sym (same-all _ _ _ (e.1.0) (sym same ∙ e.1.0)) ∙ all
      | inr e ↦ sym (same-all _ _ _ (same ∙ e.1.0) (e.1.0)) ∙ all
    ]

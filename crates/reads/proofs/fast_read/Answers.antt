-- `reads::fast_read` meets its contract: by its own check, what it comes to.
-- Assumes nothing.
use mathlib.Core.Path.{refl, sym, ap₂, ◌∙◌}
use Prim.Native.Nat.{ℕ}
use Rattle.model.specs.declared.Command.TheVariants.{FastRead}
use Rattle.model.specs.declared.Say.TheVariants.{Range}
use Rattle.model.specs.Numbers.{answered}
use Rattle.model.specs.Reading.{fast_read_number}
use Rattle.model.specs.Frame.{command_reason, command_number, command_done}
use Rattle.model.proofs.Ruling.{fast-read-other}
use Rattle.refusals.proofs.Outcome.{refused-exit, done-decided}
use Rattle.reads.proofs.fast_read.Goals as goal

pub returns-in_err-check_fast_read : goal.returns-in_err-check_fast_read
unfolding command_reason command_number
returns-in_err-check_fast_read c =
    let a = c.args.asked.now in
    let own = c.in_err-check_fast_read.ensures
    ∙ ap₂ (fast_read_number a.pages.map a.tag.state a.pages.bytes.now) c.at-p.ensures c.at-q.ensures in
    refused-exit FastRead a fast-read-other _ _ c.from_residual.ensures.1 own refl

pub returns : goal.returns
unfolding command_number command_done
returns c =
    let a = c.args.asked.now in
    let own = sym (c.in_ok-check_fast_read.ensures
    ∙ ap₂ (fast_read_number a.pages.map a.tag.state a.pages.bytes.now) c.at-p.ensures c.at-q.ensures) in
    done-decided FastRead a _ own
    (c.answered.ensures ∙ ap₂ (λ (p q : ℕ). answered a.tag (Range p q)) c.at-p.ensures c.at-q.ensures)

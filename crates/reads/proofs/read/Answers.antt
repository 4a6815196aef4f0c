-- `reads::read` meets its contract: by its own check, what it comes to.
-- Assumes nothing.
use mathlib.Core.Path.{refl, sym, ap, ◌∙◌}
use Prim.Native.Nat.{ℕ}
use Rattle.model.specs.declared.Command.TheVariants.{Read}
use Rattle.model.specs.declared.Say.TheVariants.{Window}
use Rattle.model.specs.Numbers.{answered}
use Rattle.model.specs.Reading.{read_number}
use Rattle.model.specs.Frame.{command_reason, command_number, command_done}
use Rattle.model.proofs.Ruling.{read-other}
use Rattle.refusals.proofs.Outcome.{refused-exit, done-decided}
use Rattle.reads.proofs.read.Goals as goal

pub returns-in_err-check_read : goal.returns-in_err-check_read
unfolding command_reason command_number
returns-in_err-check_read c =
    let a = c.args.asked.now in
    let own = c.in_err-check_read.ensures ∙ ap (read_number a.pages.map a.tag.state a.pages.bytes.now) c.at-p.ensures in
    refused-exit Read a read-other _ _ c.from_residual.ensures.1 own refl

pub returns : goal.returns
unfolding command_number command_done
returns c =
    let a = c.args.asked.now in
    let own = sym (c.in_ok-check_read.ensures ∙ ap (read_number a.pages.map a.tag.state a.pages.bytes.now) c.at-p.ensures) in
    done-decided Read a _ own
    (c.answered.ensures ∙ ap (λ (p : ℕ). answered a.tag (Window p)) c.at-p.ensures)

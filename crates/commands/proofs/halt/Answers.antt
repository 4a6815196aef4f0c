-- `commands::halt` meets its contract: by its own check, what it comes to.
-- Assumes nothing.
use mathlib.Core.Path.{refl, sym, ap, ◌∙◌}
use mathlib.Core.Bool.{not}
use Prim.Native.Nat.{ℕ}
use lib.Dec.{eqb}
use Rattle.model.specs.declared.Command.TheVariants.{Halt}
use Rattle.model.specs.Numbers.{number_if}
use Rattle.model.specs.Frame.{command_reason, command_number, command_done}
use Rattle.model.proofs.Ruling.{halt-other}
use Rattle.numbers.specs.declared.Refusal.TheVariants.{Argument}
use Rattle.numbers.specs.Refusals.{number_told}
use Rattle.numbers.proofs.Checks.{number-refuse_if}
use Rattle.refusals.proofs.Outcome.{refused-exit, done-decided}
use Rattle.commands.proofs.halt.Goals as goal

pub returns-in_err-refuse_if : goal.returns-in_err-refuse_if
unfolding command_reason command_number
returns-in_err-refuse_if c =
    let a = c.args.asked.now in
    let own = ap number_told c.in_err-refuse_if.ensures ∙ number-refuse_if _ Argument ∙ ap (λ (n : ℕ). number_if (not (eqb n 0)) 5) c.at.ensures in
    refused-exit Halt a halt-other _ _ c.from_residual.ensures.1 own refl

pub returns : goal.returns
unfolding command_number command_done
returns c =
    let a = c.args.asked.now in
    let own = ap number_told c.in_ok-refuse_if.ensures ∙ number-refuse_if _ Argument ∙ ap (λ (n : ℕ). number_if (not (eqb n 0)) 5) c.at.ensures in
    done-decided Halt a _ (sym own) c.halted.ensures

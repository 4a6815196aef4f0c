-- `challenges::authenticate` meets its contract: by its own check, what it comes to.
-- Assumes nothing.
use mathlib.Core.Path.{refl, sym, ap, ap₂, ◌∙◌}
use Rattle.model.specs.declared.Command.TheVariants.{Authenticate}
use Rattle.model.specs.Authentication.{challenge_number, challenged}
use Rattle.model.specs.Frame.{command_reason, command_number, command_done}
use Rattle.model.proofs.Ruling.{authenticate-other}
use Rattle.refusals.proofs.Outcome.{refused-exit, done-decided}
use Rattle.challenges.proofs.authenticate.Goals as goal

pub returns-in_err-check_challenge : goal.returns-in_err-check_challenge
unfolding command_reason command_number
returns-in_err-check_challenge c =
    let a = c.args.asked.now in
    let own = c.in_err-check_challenge.ensures ∙ ap (challenge_number a.pages.map a.tag a.pages.bytes.now) c.at-k.ensures in
    refused-exit Authenticate a authenticate-other _ _ c.from_residual.ensures.1 own refl

pub returns : goal.returns
unfolding command_number command_done
returns c =
    let a = c.args.asked.now in
    let own = sym (c.in_ok-check_challenge.ensures ∙ ap (challenge_number a.pages.map a.tag a.pages.bytes.now) c.at-k.ensures) in
    done-decided Authenticate a _ own
    (c.challenge.ensures ∙ ap₂ (challenged a.pages.map a.tag a.pages.bytes.now) c.at-k.ensures c.block_of.ensures)

-- `writes::write` meets its contract: by its own check, what it comes to.
-- Assumes nothing.
use mathlib.Core.Path.{sym, ap₂, ◌∙◌}
use Rattle.model.specs.declared.Command.TheVariants.{Write}
use Rattle.model.specs.declared.Effect.TheVariants.{Page}
use Rattle.model.specs.Numbers.{acknowledged}
use Rattle.model.specs.Writing.{barred, write_number, written}
use Rattle.model.specs.Frame.{command_reason, command_number, command_done}
use Rattle.model.proofs.Ruling.{write-other}
use Rattle.refusals.proofs.Outcome.{refused-decided, done-decided}
use Rattle.writes.proofs.write.Goals as goal

pub returns-in-Ok : goal.returns-in-Ok
unfolding command_reason command_number command_done
returns-in-Ok c =
    let a = c.args.asked.now in
    let s = a.pages.bytes.now in
    let page = c.at-p.ensures in
    let value = c.data_of-q.ensures in
    let why = c.barred-reason.ensures ∙ ap₂ (barred a.pages.map a.tag.state s) page value in
    let own = sym (c.in-Ok.ensures ∙ ap₂ (write_number a.pages.map) page why) in
    let stored = c.written-w.ensures ∙ ap₂ (written a.pages.map s) page value in
    done-decided Write a _ own
    (c.acknowledged.ensures ∙ (λ i. acknowledged a.tag (Page (page i) (stored i))))

pub returns-in-Err : goal.returns-in-Err
unfolding command_reason command_number
returns-in-Err c =
    let a = c.args.asked.now in
    let s = a.pages.bytes.now in
    let page = c.at-p.ensures in
    let value = c.data_of-q.ensures in
    let why = c.barred-reason.ensures ∙ ap₂ (barred a.pages.map a.tag.state s) page value in
    let own = c.in-Err.ensures ∙ ap₂ (write_number a.pages.map) page why in
    refused-decided Write a write-other _ _ own (sym why)

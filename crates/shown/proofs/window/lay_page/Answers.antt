-- `shown::window::lay_page` meets its contract: a page is a run of four bytes.
-- Assumes nothing.
use mathlib.Core.Path.{ap, ◌∙◌}
use lib.Seq.{sets}
use Rattle.shown.proofs.Shown.{run-page}
use Rattle.shown.proofs.window.lay_page.Goals as goal

pub returns : goal.returns
returns c =
    let run = c in
    let a = run.args in
    run.lay_run.ensures ∙ ap (sets a.reply.now a.at) (run-page a.pages.now.map a.st a.pages.now.bytes.now a.p)

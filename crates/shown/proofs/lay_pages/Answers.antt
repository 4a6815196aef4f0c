-- `shown::lay_pages` meets its contract: pages in a row are a run of bytes.
-- Assumes nothing.
use mathlib.Core.Path.{sym, ap, ◌∙◌}
use lib.Seq.{sets}
use Rattle.shown.proofs.Shown.{shown-length, run-pages}
use Rattle.shown.proofs.lay_pages.Goals as goal

pub returns : goal.returns
returns c =
    let run = c in
    let a = run.args in
    record {
      count = sym (shown-length a.pages.now.map a.st a.pages.now.bytes.now a.first a.count);
      bytes = run.lay_run.ensures ∙ ap (sets a.reply.now 0) (run-pages a.pages.now.map a.st a.pages.now.bytes.now a.first a.count);
    }

-- `shown::window::lay_window` meets its contract: the pages one behind the other.
-- Assumes nothing.
use mathlib.Core.Path.{sym}
use Rattle.shown.proofs.Shown.{window-length, window-laid}
use Rattle.shown.proofs.window.lay_window.Goals as goal

pub returns : goal.returns
returns c =
    let p4 = c in
    let p3 = p4 in
    let p2 = p3 in
    let p1 = p2 in
    let third = p1 in
    let last = third in
    let a = last.args in
    record {
      count = sym (window-length a.pages.now.map a.st a.pages.now.bytes.now a.p);
      bytes =
          window-laid a.pages.now.map a.st a.pages.now.bytes.now a.reply.now a.p last.last_readable-last.ensures third.page_after-second.ensures
          third.page_after-third.ensures third.page_after-fourth.ensures p1.lay_page.ensures p2.lay_page-2.ensures
          p3.lay_page-3.ensures p4.lay_page-4.ensures;
    }

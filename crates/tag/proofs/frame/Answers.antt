-- `tag::frame` meets its contract: what is decided makes the outcome, part by part.
-- Assumes nothing.
use mathlib.Core.Path.{◌∙◌}
use lib.ListN.{length}
use Rattle.model.specs.Frame.{said_of, reply_of, laid_over}
use Rattle.tag.proofs.Frames.{decided-room, framed}
use Rattle.tag.proofs.frame.Goals as goal

pub speak-said-requires : goal.speak-said-requires
speak-said-requires c =
    let a = c.args in
    decided-room _ a.tag a.store.now a.f.now a.random.now (length a.reply.now) _ c.mf0aes20.ensures c.decide-d.ensures

pub returns : goal.returns
returns c =
    let a = c.args in
    let s = a.store.now in
    let map = c.mf0aes20.ensures in
    let d = c.decide-d.result in
    let whole = framed _ a.tag s a.f.now a.random.now (length a.reply.now) d map c.decide-d.ensures in
    let said = c.speak-said.ensures in record {
      number_value = (λ i. (whole i).number);
      reply_value = said.value ∙ (λ i. reply_of (said_of (map i) a.tag s d.block d.say)) ∙ (λ i. reply_of (whole i).said);
      reason_value = (λ i. (whole i).reason);
      tag_value = c.tag_after.ensures ∙ (λ i. (whole i).tag);
      store_after = c.store_after.ensures ∙ (λ i. (whole i).store);
      reply_after = said.reply_after ∙ (λ i. laid_over a.reply.now (said_of (map i) a.tag s d.block d.say)) ∙ (λ i. laid_over a.reply.now (whole i).said);
    }

-- `player::sent` meets its contract: the frame's answer makes the turn.
-- Assumes nothing.
use Rattle.std.proofs.Common.{refl, ◌∙◌, replicate}
use Rattle.answers.specs.Answer.{answer_text}
use Rattle.player.proofs.Turns.{sent-turn}
use Rattle.player.proofs.sent.Goals as goal

pub returns : goal.returns
returns c =
    let a = c.args in
    let h = c.frame-a.ensures in
    let text = c.answer_into.ensures ∙ (λ i. answer_text c.frame-a.result.number (c.barred_place.ensures.value i) (c.heard_data-data.ensures i)) in
    sent-turn a.tag a.store.now a.line.now a.n a.count _ c.random_of-random.result (replicate 242 0) _ _
    c.answer_into.new.text.items c.frame-a.result c.frame_of-end.ensures.frame_after c.random_of-random.ensures refl
    h.number_value h.reply_value h.reason_value h.tag_value h.store_after h.reply_after text

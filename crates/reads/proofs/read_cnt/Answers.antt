-- `reads::read_cnt` meets its contract: by its own check, what it comes to.
-- Assumes nothing.
use mathlib.Core.Path.{refl, sym, ap, ◌∙◌}
use Prim.Native.Nat.{ℕ}
use Rattle.model.specs.declared.Command.TheVariants.{ReadCnt}
use Rattle.model.specs.declared.Say.TheVariants.{Count}
use Rattle.model.specs.Numbers.{answered}
use Rattle.model.specs.Counters.{read_cnt_number}
use Rattle.model.specs.Frame.{command_reason, command_number, command_done}
use Rattle.model.proofs.Ruling.{read-cnt-other}
use Rattle.refusals.proofs.Outcome.{refused-exit, done-decided}
use Rattle.reads.proofs.read_cnt.Goals as goal

pub returns-in_err-check_read_cnt : goal.returns-in_err-check_read_cnt
unfolding command_reason command_number
returns-in_err-check_read_cnt c =
    let a = c.args.asked.now in
    let own = c.in_err-check_read_cnt.ensures ∙ ap (read_cnt_number a.pages.map a.tag.state a.pages.bytes.now) c.at-k.ensures in
    refused-exit ReadCnt a read-cnt-other _ _ c.from_residual.ensures.1 own refl

pub returns : goal.returns
unfolding command_number command_done
returns c =
    let a = c.args.asked.now in
    let own = sym (c.in_ok-check_read_cnt.ensures ∙ ap (read_cnt_number a.pages.map a.tag.state a.pages.bytes.now) c.at-k.ensures) in
    done-decided ReadCnt a _ own
    (c.answered.ensures ∙ ap (λ (k : ℕ). answered a.tag (Count k)) c.at-k.ensures)

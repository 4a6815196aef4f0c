-- `commands::incr_cnt` meets its contract: by its own check, what it comes to.
-- Assumes nothing.
use mathlib.Core.Path.{◌≡◌, refl, sym, ap, ap₂, ◌∙◌}
use Prim.Native.Nat.{◌+◌}
use native.Mathlib.Omega.{arith}
use lib.ListN.{get_or}
use Rattle.model.specs.declared.Command.TheVariants.{IncrCnt}
use Rattle.model.specs.declared.Effect.TheVariants.{Counter}
use Rattle.model.specs.Record.{counter}
use Rattle.model.specs.Numbers.{acknowledged}
use Rattle.model.specs.Counters.{increment, incr_cnt_number}
use Rattle.model.specs.Frame.{data4, command_reason, command_number, command_done}
use Rattle.model.proofs.Sound.{increment-low}
use Rattle.model.proofs.Ruling.{incr-cnt-other}
use Rattle.refusals.proofs.Outcome.{refused-exit, done-decided}
use Rattle.commands.proofs.incr_cnt.Goals as goal

pub returns-in_err-check_incr_cnt : goal.returns-in_err-check_incr_cnt
unfolding command_reason command_number
returns-in_err-check_incr_cnt c =
    let a = c.args.asked.now in
    let own = c.in_err-check_incr_cnt.ensures ∙ ap₂ (incr_cnt_number a.pages.map a.tag a.pages.bytes.now) c.at-k.ensures c.data_of-q.ensures in
    refused-exit IncrCnt a incr-cnt-other _ _ c.from_residual.ensures.1 own refl

pub overflow_add-v : goal.overflow_add-v
unfolding command_number
overflow_add-v c =
    let a = c.args.asked.now in
    let f = a.frame.now in
    let number = c.at-k.ensures in
    let value = c.data_of-q.ensures in
    let own = sym (c.in_ok-check_incr_cnt.ensures ∙ ap₂ (incr_cnt_number a.pages.map a.tag a.pages.bytes.now) number value) in
    let v : c.counter-v.result ≡ counter a.tag (get_or f 1 0) = c.counter-v.ensures ∙ ap (counter a.tag) number in
    let more : c.increment-more.result ≡ increment (data4 f) = c.increment-more.ensures ∙ ap increment value in
    let low = increment-low a.pages.map a.tag a.pages.bytes.now f own in
    record { fits = omega arith }

pub returns : goal.returns
unfolding command_number command_done
returns c =
    let a = c.args.asked.now in
    let number = c.at-k.ensures in
    let value = c.data_of-q.ensures in
    let own = sym (c.in_ok-check_incr_cnt.ensures ∙ ap₂ (incr_cnt_number a.pages.map a.tag a.pages.bytes.now) number value) in
    let v = c.counter-v.ensures ∙ ap (counter a.tag) number in
    let more = c.increment-more.ensures ∙ ap increment value in
    done-decided IncrCnt a _ own
    (c.acknowledged.ensures ∙ (λ i. acknowledged a.tag (Counter (number i) (v i + more i))))

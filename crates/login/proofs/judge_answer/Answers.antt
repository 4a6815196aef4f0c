-- `login::judge_answer` meets its contract: the second block deciphered is the challenge rotated, or it is not.
-- Assumes nothing.
use mathlib.Core.Path.{sym, ap, ◌∙◌}
use Rattle.std.specs.Prelude.{Ok, Err}
use Rattle.model.specs.declared.Barred.TheVariants.{Open}
use Rattle.model.specs.declared.Effect.{Effect}
use Rattle.model.specs.declared.Decision.{Decision}
use Rattle.numbers.specs.declared.Refusal.TheVariants.{FalseProof}
use Rattle.refusals.specs.Deciding.{decided}
use Rattle.login.proofs.PartTwo.{proof-refused, proof-granted}
use Rattle.login.proofs.judge_answer.Goals as goal

pub returns-then-same_bytes : goal.returns-then-same_bytes
returns-then-same_bytes c =
    let a = c.args.asked.now in
    ap (λ (d : Decision). decided a.tag (Ok d)) c.logged.ensures
    ∙ proof-granted a.pages.map a.tag a.pages.bytes.now a.frame.now a.random.now c.requires.limit_value _ _ c.asked_key-key.ensures
    c.deciphered-answer.ensures _ c.rotated.ensures (sym c.same_bytes.ensures ∙ c.if-same_bytes.true)

pub returns : goal.returns
returns c =
    let a = c.args.asked.now in
    ap (λ (e : Effect). decided a.tag (Err (record { why = FalseProof; reason = Open; effect = e }))) c.raised.ensures
    ∙ proof-refused a.pages.map a.tag a.pages.bytes.now a.frame.now a.random.now c.requires.limit_value _ _ c.asked_key-key.ensures
    c.deciphered-answer.ensures _ c.rotated.ensures (sym c.same_bytes.ensures ∙ c.if-same_bytes.false)

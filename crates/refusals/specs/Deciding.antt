-- The shape that most decisions share, and what a frame's outcome comes to.
--
--     plain n b e y st   number n, the rule b that stopped a write, the effect e, the saying y and the state st, with no block and no challenge
--     decided tag o      the decision of an outcome: what was carried out, or what a refusal leaves behind
--     commanded_of c a   what the command c comes to, of what it is given
--
-- Assumes nothing.
use Rattle.std.specs.Prelude.{ℕ, cond, eqb, ◌||◌, Result, Ok, Err}
use Rattle.model.specs.declared.State.{State}
use Rattle.model.specs.declared.Barred.{Barred}
use Rattle.model.specs.declared.Effect.{Effect}
use Rattle.model.specs.declared.Say.{Say}
use Rattle.model.specs.declared.Decision.{Decision}
use Rattle.model.specs.declared.Tag.{Tag}
use Rattle.model.specs.declared.Command.{Command}
use Rattle.model.specs.Record.{zeros}
use Rattle.model.specs.Numbers.{kept, refused}
use Rattle.model.specs.Frame.{commanded}
use Rattle.numbers.specs.Refusals.{number_of}
use Rattle.refusals.specs.declared.RefusedFrame.{RefusedFrame}
use Rattle.refusals.specs.declared.asked.Asked.{Asked}

unfoldable pub plain : ℕ → Barred → Effect → Say → State → Decision
plain n b e y st = record {
  number = n;
  reason = b;
  effect = e;
  say = y;
  block = zeros;
  state = st;
  challenge = zeros;
}

-- 1 and 10 change nothing, and every other refusal ends the session
unfoldable pub decided : Tag → Result Decision RefusedFrame → Decision
decided tag (Ok d) = d
decided tag (Err r) =
    let n = number_of r.why in
    cond (eqb n 1 || eqb n 10) (kept n tag) (refused n r.reason r.effect)

abbrev pub commanded_of : Command → Asked → Decision
commanded_of c a = commanded c a.pages.map a.tag a.pages.bytes.now a.frame.now a.random.now

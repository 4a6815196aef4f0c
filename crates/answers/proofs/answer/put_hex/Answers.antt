-- `answers::answer::put_hex` meets its contract: two digits more for each byte.
-- Assumes nothing.
use Rattle.std.proofs.Common.{rules}
use Rattle.answers.proofs.Texts.{byte_put}
use Rattle.answers.proofs.answer.put_hex.Goals as goal

pub loop-b-preserved : goal.loop-b-preserved
loop-b-preserved c = (byte_put _ c.loop-b.text.items _ c.args.bytes.now _ c.loop-b.b-index c.loop-b.invariant.0 c.letters.ensures (search rules), search rules)

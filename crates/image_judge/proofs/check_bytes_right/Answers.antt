-- `image_judge::check_bytes_right` meets its contract: the bytes by their places in the block.
-- Assumes nothing.
use Rattle.fields.proofs.Fields.{block-read}
use Rattle.image_judge.proofs.Checked.{bcc0_right, bcc0_wrong}
use Rattle.image_judge.proofs.check_bytes_right.Goals as goal

pub returns-then-bcc0-sn0 : goal.returns-then-bcc0-sn0
returns-then-bcc0-sn0 c = bcc0_right c.args.i.now c.block_of.result (block-read c.args.i.now 1 _ c.block_of.ensures) c.if-bcc0-sn0.true

pub returns-else-bcc0-sn0 : goal.returns-else-bcc0-sn0
returns-else-bcc0-sn0 c = bcc0_wrong c.args.i.now c.block_of.result (block-read c.args.i.now 1 _ c.block_of.ensures) c.if-bcc0-sn0.false

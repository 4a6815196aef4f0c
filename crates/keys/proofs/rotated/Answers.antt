-- `keys::rotated` meets its contract: the first byte behind the others.
-- Assumes nothing.
use mathlib.Core.Path.{◌∙◌}
use Rattle.keys.proofs.Bytes.{turned}
use Rattle.keys.proofs.rotated.Goals as goal

pub returns : goal.returns
returns c = c.rotate_left.ensures.after ∙ turned c.args.b c.well_formed.0.1.0.1

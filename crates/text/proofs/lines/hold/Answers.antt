-- `text::lines::hold` meets its contract: as much of the piece as there is room for is held.
-- Assumes nothing.
use Rattle.std.proofs.Common.{rules}
use Rattle.text.proofs.Pieces.{held_part}
use Rattle.text.proofs.lines.hold.Goals as goal

pub returns : goal.returns
returns c = search (rules, held_part)

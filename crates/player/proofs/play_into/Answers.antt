-- `player::play_into` meets its contract: a line asks for a frame that fits.
-- Assumes nothing.
use Rattle.std.proofs.Common.{rules}
use Rattle.player.proofs.Turns.{frame-short}
use Rattle.player.proofs.play_into.Goals as goal

pub sent-requires : goal.sent-requires
sent-requires c = search (rules, frame-short)

-- Laws of lines that ask for a frame.
--
--   frame-long    a line that asks for a frame has 4 to 126 bytes
--
-- Assumes nothing.
use Rattle.std.proofs.Common.{◌≡◌, ℕ, ◌≤◌, List, length, true, arith}
use Rattle.script.specs.Line.{frame_right}

pub frame-long : (l : List ℕ) → frame_right l ≡ true → (4 ≤ length l) × (length l ≤ 126)
unfolding frame_right
frame-long l h = grind arith

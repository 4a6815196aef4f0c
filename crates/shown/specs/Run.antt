-- Bytes of the memory in a row, as they are shown.
--
--     shown_run m st s f n    the n bytes of the memory s from byte f on, as READ and FAST_READ show them
--
-- Assumes nothing.
use Rattle.std.specs.Prelude.{List, ℕ, map}
use Rattle.std.specs.List.{range_with_len}
use Rattle.model.specs.declared.Map.{Map}
use Rattle.model.specs.declared.State.{State}
use Rattle.model.specs.Reading.{shown_byte}

unfoldable pub shown_run : Map → State → List ℕ → ℕ → ℕ → List ℕ
shown_run m st s f n = map (shown_byte m st s) (range_with_len f n)

-- What the functions that write the reply say of each other, and what they ask of the reply buffer.
--
--     data_of m tag s block y    the bytes of a reply without their CRC_A; none for silence and a nibble
--     said_size y                the bytes that a reply takes of the buffer, its CRC_A too
--
-- Assumes nothing.
use Rattle.std.specs.Prelude.{List, [], ◌∷◌, ℕ, ◌+◌, ◌-◌, ◌*◌}
use Rattle.model.specs.declared.Map.{Map}
use Rattle.model.specs.declared.Tag.{Tag}
use Rattle.model.specs.declared.Say.{Say}
use Rattle.model.specs.declared.Say.TheVariants.{Silence, Nibble, Window, Range, Count, Block}
use Rattle.model.specs.Map.{trailer}
use Rattle.model.specs.Record.{counter}
use Rattle.model.specs.Reading.{read_window, fast_range, shown_pages}
use Rattle.model.specs.Counters.{low_first}

unfoldable pub data_of : Map → Tag → List ℕ → List ℕ → Say → List ℕ
data_of m tag s block Silence = []
data_of m tag s block (Nibble n) = []
data_of m tag s block (Window p) = shown_pages m tag.state s (read_window m tag.state s p)
data_of m tag s block (Range p q) = shown_pages m tag.state s (fast_range p q)
data_of m tag s block (Count n) = low_first 3 (counter tag n)
data_of m tag s block (Block b) = b ∷ block

-- a page is four bytes, a counter three, and a block sixteen behind one byte
abbrev pub said_size : Say → ℕ
said_size Silence = 0
said_size (Nibble n) = 0
said_size (Window p) = 4 * 4 + trailer
said_size (Range p q) = 4 * (q + 1 - p) + trailer
said_size (Count n) = 3 + trailer
said_size (Block b) = 17 + trailer

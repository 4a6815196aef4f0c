-- What a line of a script asks: `P`, `S`, or `F` with a space and 1 to 62 bytes in lower hex.
--
--     line_of l              a power-on, a selection, a frame of so many bytes, or none of these: a bad line
--     frame_bytes l n        the first n bytes of the frame that the line asks for, without CRC_A
--
-- A line is given without its newline. Assumes nothing.
use Rattle.std.specs.Prelude.{List, Bool, ◌&&◌, cond, Option, Some, None, ℕ, ◌+◌, ◌-◌, ◌*◌, ◌/◌, ◌%◌, ltb, leb, eqb, length, get_or, drop, map}
use Rattle.std.specs.List.{list_all, range_with_len}
use Rattle.text.specs.Digits.{digit_of}
use Rattle.script.specs.declared.line.Line.{Line}
use Rattle.script.specs.declared.line.Line.TheVariants.{Power, Select, Frame}

abbrev pub is_digit : ℕ → Bool
is_digit b = ltb (digit_of b) 16

-- from byte 2 on
unfoldable pub digits_right : List ℕ → Bool
digits_right l = list_all is_digit (drop 2 l)

unfoldable pub only : List ℕ → ℕ → Bool
only l b = eqb (length l) 1 && eqb (get_or l 0 0) b

-- `F` is 70, a space 32
unfoldable pub frame_right : List ℕ → Bool
frame_right l =
    (leb 4 (length l) && leb (length l) 126 && eqb (length l % 2) 0) && (eqb (get_or l 0 0) 70 && eqb (get_or l 1 0) 32) && digits_right l

-- `P` is 80, `S` 83
unfoldable pub line_of : List ℕ → Option Line
line_of l = cond (only l 80) (Some Power) (cond (only l 83) (Some Select) (cond (frame_right l) (Some (Frame (length l / 2 - 1))) None))

-- byte i has its two digits behind the first two bytes of the line
unfoldable pub byte_at : List ℕ → ℕ → ℕ
byte_at l i = 16 * (digit_of (get_or l (2 * i + 2) 0) % 16) + digit_of (get_or l (2 * i + 2 + 1) 0) % 16

abbrev pub frame_bytes : List ℕ → ℕ → List ℕ
frame_bytes l n = map (byte_at l) (range_with_len 0 n)

-- Document 01, "Pages": the memory map, 009 Table 6, and the sizes that follow from it.
--
--     mf0aes20          the map of this tag
--     byte_of s p k      byte k of page p in the store s
--     store_size m       bytes of a store                 240
--     reply_size m       bytes a reply buffer must have   242
--     last_page m        the highest page                 3Bh
--     longest_frame      bytes a frame may have           64
--
-- Assumes nothing.
use Rattle.std.specs.Prelude.{List, ℕ, ◌+◌, ◌-◌, ◌*◌, get_or}
use Rattle.model.specs.declared.Map.{Map}

unfoldable pub mf0aes20 : Map
mf0aes20 = record {
  pages = 60;
  locks = 0x02;
  otp = 0x03;
  pairs = 0x10;
  pairlocks = 0x28;
  cfg0 = 0x29;
  cfg1 = 0x2a;
  keylocks = 0x2d;
  key0 = 0x30;
  key1 = 0x34;
}

-- a page is four bytes; a byte past the end counts 0
abbrev pub byte_of : List ℕ → ℕ → ℕ → ℕ
byte_of s p k = get_or s (4 * p + k) 0

abbrev pub store_size : Map → ℕ
store_size m = 4 * m.pages

-- the bytes of CRC_A behind a frame or a reply
abbrev pub trailer : ℕ
trailer = 2

-- every page and the CRC_A: the longest reply, to a FAST_READ of all pages
abbrev pub reply_size : Map → ℕ
reply_size m = 4 * m.pages + trailer

abbrev pub last_page : Map → ℕ
last_page m = m.pages - 1

abbrev pub longest_frame : ℕ
longest_frame = 64

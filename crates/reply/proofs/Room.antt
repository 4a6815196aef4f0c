-- What is said fits the reply buffer: for a caller of `speak`.
--
--   window-fits, range-fits, count_fits, block-fits
--                  a saying, FAST_READ's with the checks of its pages passed, in a buffer of the size that a frame needs
--   decided-fits   what any frame comes to, in the buffer that the frame was judged with
--   ours-fits      the same for this tag's map
--
-- A block behind a byte is 19 bytes with its CRC_A, so these laws ask for a map of five pages or more.
-- Assumes nothing.
use mathlib.Core.Path.{◌≡◌}
use mathlib.Core.Bool.{◌||◌}
use mathlib.Core.List.{List}
use Prim.Native.Nat.{ℕ, ◌≤◌}
use native.Mathlib.Omega.{arith}
use borrow.Author.Tests.{ltb-false}
use lib.Dec.{ltb}
use lib.ListN.{get_or}
use Rattle.model.specs.declared.Map.{Map}
use Rattle.model.specs.declared.Tag.{Tag}
use Rattle.model.specs.declared.Decision.{Decision}
use Rattle.model.specs.declared.Say.TheVariants.{Window, Range, Count, Block}
use Rattle.model.specs.declared.Command.{Command}
use Rattle.model.specs.declared.Command.TheVariants.{Read, FastRead, Write, ReadCnt, IncrCnt, Authenticate, Proof, Halt}
use Rattle.model.specs.Map.{mf0aes20, reply_size, last_page}
use Rattle.model.specs.Numbers.{number_if, kept, refused, answered, acknowledged}
use Rattle.model.specs.Reading.{read_barred, fast_read_number}
use Rattle.model.specs.Authentication.{challenged, proved}
use Rattle.model.specs.Frame.{command_number, command_done, halted, decide}
use Rattle.std.proofs.lemmas.Bool.{or_parts}
use Rattle.model.proofs.Misfit.{fits-room}
use Rattle.model.proofs.Carried.{first-zero, number_if-zero, decide-is}
use Rattle.reply.specs.Speaking.{said_size}

module _ (m : Map) (room : ℕ) (big : reply_size m ≤ room) where
  pub window-fits : (p : ℕ) → 5 ≤ m.pages → said_size (Window p) ≤ room
  window-fits p five = omega arith

  pub range-fits : (p q : ℕ) → 1 ≤ m.pages → q ≤ last_page m → said_size (Range p q) ≤ room
  range-fits p q some h = omega arith

  pub count_fits : (n : ℕ) → 1 ≤ m.pages → said_size (Count n) ≤ room
  count_fits n some = omega arith

  pub block-fits : (b : ℕ) → 5 ≤ m.pages → said_size (Block b) ≤ room
  block-fits b five = omega arith

module _ (m : Map) (tag : Tag) (s f random : List ℕ) (room : ℕ) (five : 5 ≤ m.pages) where
  -- a command that is carried out
  done-fits : (c : Command) → command_number c m tag s f ≡ 0 → reply_size m ≤ room → said_size (command_done c m tag s f random).say ≤ room
  unfolding command_number command_done fast_read_number answered acknowledged challenged proved halted
  done-fits Read own big = window-fits m room big (get_or f 1 0) five
  done-fits FastRead own big =
      let p = get_or f 1 0 in
      let q = get_or f 2 0 in
      let both = (first-zero (number_if (ltb q p || ltb (last_page m) q) 5) (number_if (read_barred m tag.state s q) 6) own).0 in
      let last = (or_parts (ltb q p) (ltb (last_page m) q) (number_if-zero (ltb q p || ltb (last_page m) q) 4 both)).1 in
      range-fits m room big p q (omega arith) (ltb-false (last_page m) q last)
  done-fits Write own big = omega arith
  done-fits ReadCnt own big = count_fits m room big (get_or f 1 0) (omega arith)
  done-fits IncrCnt own big = omega arith
  done-fits Authenticate own big = block-fits m room big 0xaf five
  done-fits Proof own big = block-fits m room big 0x00 five
  done-fits Halt own big = omega arith

  -- and any other frame says nothing or a nibble
  pub decided-fits : said_size (decide m tag s f random room).say ≤ room
  unfolding kept refused
  decided-fits =
      decide-is m tag s f random room (λ (d : Decision). said_size d.say ≤ room)
      (λ c. done-fits c.command c.own (fits-room m tag s random room c.fits))
      (λ n. omega arith)
      (λ n b e. omega arith)

five : 5 ≤ mf0aes20.pages
unfolding mf0aes20
five = omega arith

pub ours-fits : (tag : Tag) (s f random : List ℕ) (room : ℕ) → said_size (decide mf0aes20 tag s f random room).say ≤ room
ours-fits tag s f random room = decided-fits mf0aes20 tag s f random room five

-- What is said, as data and its CRC_A.
--
--   no-data      silence and a nibble lay nothing over the buffer
--   of-bytes     a saying that is a window, a range, a count or a block has bytes
--   data-said    every other saying is its data with CRC_A
--   data-size    and that is as long as `said_size` says
--   data-fits    so it fits a buffer of that size
--
-- Assumes nothing.
use mathlib.Core.Path.{◌≡◌, refl, ap}
use mathlib.Core.List.{List}
use Prim.Native.Nat.{ℕ, ◌+◌, ◌-◌, ◌≤◌}
use native.Mathlib.Omega.{arith}
use lib.ListN.{length}
use mathlib.Core.Bool.{Bool, true, false}
use mathlib.Core.Logic.{◌⊎◌, inl, inr}
use Rattle.crc.specs.CrcA.{with_crc}
use Rattle.framing.specs.Laid.{Laid}
use Rattle.model.specs.declared.Map.{Map}
use Rattle.model.specs.declared.Tag.{Tag}
use Rattle.model.specs.declared.Say.{Say}
use Rattle.model.specs.declared.Say.TheVariants.{Silence, Nibble, Window, Range, Count, Block}
use Rattle.model.specs.Reading.{fast_range}
use Rattle.model.specs.Frame.{bytes, said_of}
use Rattle.reply.specs.Speaking.{data_of, said_size}
use Rattle.shown.proofs.Shown.{shown-length, window-length}

-- silence and a nibble have no bytes
abbrev pub has_bytes : Say → Bool
has_bytes Silence = false
has_bytes (Nibble n) = false
has_bytes (Window p) = true
has_bytes (Range p q) = true
has_bytes (Count n) = true
has_bytes (Block b) = true

-- the arm of a `match` that takes all four others
abbrev pub OfBytes : Say → Type 0
OfBytes y =
    ((p : ℕ) × (y ≡ Window p))
    ⊎ (((p : ℕ) × (q : ℕ) × (y ≡ Range p q)) ⊎ (((n : ℕ) × (y ≡ Count n)) ⊎ ((b : ℕ) × (y ≡ Block b))))

pub of-bytes : (y : Say) → OfBytes y → has_bytes y ≡ true
of-bytes y (inl w) = rw w.1
of-bytes y (inr (inl w)) = rw w.2
of-bytes y (inr (inr (inl w))) = rw w.1
of-bytes y (inr (inr (inr w))) = rw w.1

module _ (m : Map) (tag : Tag) (s block : List ℕ) where
  pub no-data : (l : List ℕ) (y : Say) → has_bytes y ≡ false → Laid l l 0 (data_of m tag s block y)
  unfolding data_of
  no-data l Silence k = record { count = refl; bytes = refl }
  no-data l (Nibble n) k = record { count = refl; bytes = refl }
  no-data l (Window p) k = absurd (cc k)
  no-data l (Range p q) k = absurd (cc k)
  no-data l (Count n) k = absurd (cc k)
  no-data l (Block b) k = absurd (cc k)

  pub data-said : (y : Say) → has_bytes y ≡ true
      → said_of m tag s block y ≡ bytes (with_crc (data_of m tag s block y))
  unfolding said_of data_of
  data-said Silence k = absurd (cc k)
  data-said (Nibble n) k = absurd (cc k)
  data-said (Window p) k = refl
  data-said (Range p q) k = refl
  data-said (Count n) k = refl
  data-said (Block b) k = refl

  pub data-size : (y : Say) → length block ≡ 16 → has_bytes y ≡ true
      → length (data_of m tag s block y) + 2 ≡ said_size y
  unfolding data_of fast_range
  data-size Silence h k = absurd (cc k)
  data-size (Nibble n) h k = absurd (cc k)
  data-size (Window p) h k = ap (λ (n : ℕ). n + 2) (window-length m tag.state s p)
  data-size (Range p q) h k = ap (λ (n : ℕ). n + 2) (shown-length m tag.state s p (q + 1 - p))
  data-size (Count n) h k = refl
  data-size (Block b) h k = omega arith

  pub data-fits : (y : Say) (room : ℕ) → length block ≡ 16 → has_bytes y ≡ true → said_size y ≤ room
      → length (data_of m tag s block y) + 2 ≤ room
  data-fits y room h k fits = omega (arith, data-size y h k)

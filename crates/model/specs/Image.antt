-- Document 01, "Image file": its sections, loading and saving.
--
--     counters_at m, failed_at m, key_at m    where the count bytes of the sections behind the pages stand
--     image_size m                          bytes of an image                                     271
--     image_of m tag s                      the image of a tag
--     check_bytes_right s                    the check bytes of the serial number are right         009 8.5.1
--     image_right m i                       a file that is an image                               else 12
--     tag_of m i, store_of m i               the tag and the store that an image holds
--     load i s, save tag s i               the two calls
--
-- Assumes nothing.
use Rattle.std.specs.Prelude.{List, [], ◌∷◌, ◌++◌, Bool, not, ◌&&◌, ◌||◌, cond, ℕ, ◌+◌, ltb, leb, eqb, length, get_or, take, drop}
use Rattle.std.specs.Int.Bits.{bit_xor}
use Rattle.std.proofs.lemmas.List.Edits.{sets}
use Rattle.fips197.specs.Cbc.{block_of}
use Rattle.model.specs.declared.Map.{Map}
use Rattle.model.specs.declared.Tag.{Tag}
use Rattle.model.specs.declared.State.TheVariants.{Waiting}
use Rattle.model.specs.Map.{mf0aes20, store_size}
use Rattle.model.specs.Record.{zeros, counter, highest_failed, possible, zero_tag}
use Rattle.model.specs.Numbers.{number_if, first}
use Rattle.model.specs.Counters.{low_first, from_low}

-- each section is a count and its bytes: the pages; three counters of 3 bytes; one failed count of 2 bytes; one originality key of 16
abbrev pub counters_at : Map → ℕ
counters_at m = 1 + store_size m

abbrev pub failed_at : Map → ℕ
failed_at m = counters_at m + 10

abbrev pub key_at : Map → ℕ
key_at m = failed_at m + 3

abbrev pub image_size : Map → ℕ
image_size m = key_at m + 17

unfoldable pub image_of : Map → Tag → List ℕ → List ℕ
image_of m tag s =
    (m.pages ∷ s) ++ (3 ∷ low_first 3 (counter tag 0) ++ low_first 3 (counter tag 1) ++ low_first 3 (counter tag 2))
    ++ (1 ∷ low_first 2 tag.failed)
    ++ (1 ∷ tag.originality)

-- n bytes low first, from byte at on
abbrev pub number_at : List ℕ → ℕ → ℕ → ℕ
number_at i at n = from_low (take n (drop at i))

-- BCC0, store byte 3, is 88h xor SN0 xor SN1 xor SN2, and BCC1, store byte 8, is SN3 xor SN4 xor SN5 xor SN6
unfoldable pub check_bytes_right : List ℕ → Bool
check_bytes_right s =
    eqb (get_or s 3 0) (bit_xor (bit_xor (bit_xor 0x88 (get_or s 0 0)) (get_or s 1 0)) (get_or s 2 0))
    && eqb (get_or s 8 0) (bit_xor (bit_xor (bit_xor (get_or s 4 0) (get_or s 5 0)) (get_or s 6 0)) (get_or s 7 0))

-- the pages stand behind the first count
unfoldable pub image_right : Map → List ℕ → Bool
image_right m i =
    eqb (length i) (image_size m) && eqb (get_or i 0 0) m.pages && eqb (get_or i (counters_at m) 0) 3 && eqb (get_or i (failed_at m) 0) 1
    && eqb (get_or i (key_at m) 0) 1
    && leb (number_at i (failed_at m + 1) 2) highest_failed
    && check_bytes_right (drop 1 i)

-- a loaded tag begins in WAITING, with no challenge
unfoldable pub tag_of : Map → List ℕ → Tag
tag_of m i = record {
  counters = number_at i (counters_at m + 1) 3 ∷ number_at i (counters_at m + 4) 3 ∷ number_at i (counters_at m + 7) 3 ∷ [];
  failed = number_at i (failed_at m + 1) 2;
  originality = block_of i (key_at m + 1);
  state = Waiting;
  challenge = zeros;
}

unfoldable pub store_of : Map → List ℕ → List ℕ
store_of m i = take (store_size m) (drop 1 i)

-- 10 comes before 12
unfoldable pub load_number : List ℕ → List ℕ → ℕ
load_number i s =
    first (number_if (not (eqb (length s) (store_size mf0aes20))) 10) (number_if (not (image_right mf0aes20 i)) 12)

pub record Loaded : Type 0 where
  pub number : ℕ
  pub tag : Tag
  pub store : List ℕ

-- 10 and 12 hand back the zero record and leave the store
unfoldable pub load : List ℕ → List ℕ → Loaded
load i s = record {
  number = load_number i s;
  tag = cond (eqb (load_number i s) 0) (tag_of mf0aes20 i) zero_tag;
  store = cond (eqb (load_number i s) 0) (store_of mf0aes20 i) s;
}

-- 10 for a wrong store, a short image buffer, or a record that no tag can have
unfoldable pub save_number : Tag → List ℕ → ℕ → ℕ
save_number tag s room =
    number_if (not (eqb (length s) (store_size mf0aes20)) || ltb room (image_size mf0aes20) || not (possible tag)) 10

pub record Saved : Type 0 where
  pub number : ℕ
  pub image : List ℕ

-- at 0 the image lies at the start of the buffer, and the bytes behind it are as they were
unfoldable pub save : Tag → List ℕ → List ℕ → Saved
save tag s buffer = record {
  number = save_number tag s (length buffer);
  image = cond (eqb (save_number tag s (length buffer)) 0) (sets buffer 0 (image_of mf0aes20 tag s)) buffer;
}

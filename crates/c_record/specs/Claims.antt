-- What is claimed of the record's bytes; proofs/Laws.antt proves it.
--
--     Holds tag           a record as a program has it: three counters of 32 bits, a count of 16, two blocks
--     RecordLowFirst      each number of a record is read low byte first, and each block byte 0 first, at docs/C-FORM.md's places
--     DecodeAfterEncode   the bytes of a record whose state exists hold that record
--     UnusedZero b        the key number is 0 where it is not used
--     EncodeAfterDecode   48 bytes, the unused one 0, are the bytes of the record that they hold
--
-- Assumes nothing.
use Rattle.std.specs.Prelude.{◌≡◌, List, true, ℕ, ◌+◌, ◌*◌, ◌^◌, ◌<◌, length, get_or}
use Rattle.model.specs.declared.Tag.{Tag}
use Rattle.model.specs.Record.{exists, counter}
use Rattle.model.specs.Calls.{Bytes}
use Rattle.c_record.specs.Record.{record_size, record_of, bytes_of}

pub record Holds (tag : Tag) : Type 0 where
  pub three : length tag.counters ≡ 3
  pub counters : (n : ℕ) → counter tag n < 2 ^ 32
  pub failed : tag.failed < 2 ^ 16
  pub original : length tag.originality ≡ 16
  pub challenge : length tag.challenge ≡ 16

-- the places and the byte order once more, in figures of their own
abbrev pub RecordLowFirst : Type 0
RecordLowFirst =
    (b : List ℕ) → let at : ℕ → ℕ = λ k. get_or b k 0 in
    (counter (record_of b) 0 ≡ at 0 + 256 * at 1 + 65536 * at 2 + 16777216 * at 3)
    × (counter (record_of b) 1 ≡ at 4 + 256 * at 5 + 65536 * at 6 + 16777216 * at 7)
    × (counter (record_of b) 2 ≡ at 8 + 256 * at 9 + 65536 * at 10 + 16777216 * at 11)
    × ((record_of b).failed ≡ at 12 + 256 * at 13)
    × ((k : ℕ) → k < 16 → get_or (record_of b).originality k 0 ≡ at (16 + k))
    × ((k : ℕ) → k < 16 → get_or (record_of b).challenge k 0 ≡ at (32 + k))

abbrev pub DecodeAfterEncode : Type 0
DecodeAfterEncode = (tag : Tag) → Holds tag → exists tag.state ≡ true → record_of (bytes_of tag) ≡ tag

abbrev pub UnusedZero : List ℕ → Type 0
UnusedZero b = (get_or b 14 0 ≡ 4 → ⊥) → get_or b 15 0 ≡ 0

abbrev pub EncodeAfterDecode : Type 0
EncodeAfterDecode = (b : List ℕ) → length b ≡ record_size → Bytes b → UnusedZero b → bytes_of (record_of b) ≡ b

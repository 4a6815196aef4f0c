-- docs/C-FORM.md, "The record": the tag's record as 48 bytes, which the C form passes in and hands back.
--
--     record_size          48
--     state_of n k         the state of the state byte n and the key number k
--     state_byte st        the state byte of a state
--     record_of b          the record that the bytes b hold
--     head_of cs c st      the first 16 bytes of a record: counters, failed count, state and key number
--     bytes_of tag         the bytes of a record
--     keeps n             1 and 10 keep the record as it came
--     handed_back n tag b  the record buffer b after a call answered n that leaves the record tag
--
-- A state byte above 4 is a state that doesn't exist. The key number counts only while CHALLENGED: elsewhere it is read past, and written as 0.
-- Assumes nothing.
use Rattle.std.specs.Prelude.{List, [], ◌∷◌, ◌++◌, Bool, ◌||◌, cond, ℕ, eqb, get_or}
use Rattle.fips197.specs.Cbc.{block_of}
use Rattle.model.specs.declared.Tag.{Tag}
use Rattle.model.specs.declared.State.{State}
use Rattle.model.specs.declared.State.TheVariants.{Waiting, Active, Traceable, Authenticated, Challenged, Unknown}
use Rattle.model.specs.Record.{key_number}
use Rattle.model.specs.Counters.{low_first}
use Rattle.model.specs.Image.{number_at}

abbrev pub record_size : ℕ
record_size = 48

unfoldable pub state_of : ℕ → ℕ → State
state_of n k =
    cond (eqb n 0) Waiting
    (cond (eqb n 1) Active (cond (eqb n 2) Traceable (cond (eqb n 3) Authenticated (cond (eqb n 4) (Challenged k) (Unknown n)))))

abbrev pub state_byte : State → ℕ
state_byte Waiting = 0
state_byte Active = 1
state_byte Traceable = 2
state_byte Authenticated = 3
state_byte (Challenged k) = 4
state_byte (Unknown n) = n

-- counters 0, 1 and 2 in bytes 0, 4 and 8, the failed count in byte 12, the state in byte 14, the key number in byte 15, the originality key in byte 16
-- and the challenge in byte 32; a number stands low byte first
unfoldable pub record_of : List ℕ → Tag
record_of b = record {
  counters = number_at b 0 4 ∷ number_at b 4 4 ∷ number_at b 8 4 ∷ [];
  failed = number_at b 12 2;
  originality = block_of b 16;
  state = state_of (get_or b 14 0) (get_or b 15 0);
  challenge = block_of b 32;
}

-- the same fields, one behind the other: first those with a number
unfoldable pub head_of : List ℕ → ℕ → State → List ℕ
head_of cs failed st =
    low_first 4 (get_or cs 0 0) ++ low_first 4 (get_or cs 1 0) ++ low_first 4 (get_or cs 2 0) ++ low_first 2 failed ++ (state_byte st ∷ key_number st ∷ [])

unfoldable pub bytes_of : Tag → List ℕ
bytes_of tag = head_of tag.counters tag.failed tag.state ++ tag.originality ++ tag.challenge

-- document 01, "The numbers a call answers with": 1 and 10 keep the record as it came
unfoldable pub keeps : ℕ → Bool
keeps n = eqb n 1 || eqb n 10

unfoldable pub handed_back : ℕ → Tag → List ℕ → List ℕ
handed_back n tag b = cond (keeps n) b (bytes_of tag)

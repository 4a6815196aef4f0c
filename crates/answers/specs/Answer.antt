-- The text of an answer: its number, after a space the place of the rule that stopped a WRITE (E6), after a space any data bytes in lower hex, and a
-- newline.
--
--     number_text n          the digits of a number below 100
--     hex_text ds            two digits for each byte
--     place_text k           a space and the place k, which is below 10; nothing for 0
--     answer_text n k ds     the line that is printed for the number n, the place k and the data ds
--     WrittenAt ..           a text was laid over a buffer from a place on, and where it ends
--
-- Assumes nothing.
use Rattle.std.specs.Prelude.{◌≡◌, List, [], ◌∷◌, ◌++◌, cond, ℕ, zero, suc, ◌+◌, ◌*◌, ◌/◌, ◌%◌, ltb, eqb, length, get_or, map}
use Rattle.std.specs.List.{range_with_len}
use Rattle.std.proofs.lemmas.List.Edits.{sets}

-- ASCII: 0 is 48, a is 97
unfoldable pub letter_of : ℕ → ℕ
letter_of d = cond (ltb d 10) (48 + d) (87 + d)

unfoldable pub number_text : ℕ → List ℕ
number_text n = cond (ltb n 10) ((48 + n) ∷ []) ((48 + n / 10) ∷ (48 + n % 10) ∷ [])

-- half j of the bytes: the high one of a byte is before the low one
unfoldable pub half_at : List ℕ → ℕ → ℕ
half_at ds j = cond (eqb (j % 2) 0) (get_or ds (j / 2) 0 / 16) (get_or ds (j / 2) 0 % 16)

unfoldable pub letter_at : List ℕ → ℕ → ℕ
letter_at ds j = letter_of (half_at ds j)

abbrev pub hex_text : List ℕ → List ℕ
hex_text ds = map (letter_at ds) (range_with_len 0 (2 * length ds))

-- a space, 32, and the digits; nothing for no data
unfoldable pub data_text : List ℕ → List ℕ
data_text [] = []
data_text (d ∷ ds) = 32 ∷ hex_text (d ∷ ds)

unfoldable pub place_text : ℕ → List ℕ
place_text zero = []
place_text (suc k) = 32 ∷ (48 + suc k) ∷ []

-- a newline is 10
unfoldable pub answer_text : ℕ → ℕ → List ℕ → List ℕ
answer_text n k ds = number_text n ++ (place_text k ++ (data_text ds ++ (10 ∷ [])))

pub record WrittenAt (before after : List ℕ) (at end : ℕ) (text : List ℕ) : Type 0 where
  pub ends : end ≡ at + length text
  pub bytes : after ≡ sets before at text

-- What the functions on single columns compute, in the terms of FIPS 197: a column of the state is a word.
--
--     mix_word u             the column u in MixColumns                    5.1.3
--     inv_mix_word u          the column u in InvMixColumns                 5.3.3
--     multiples_by b         {09} • b, {0b} • b, {0d} • b and {0e} • b
--
-- Assumes nothing.
use Rattle.std.specs.Prelude.{List, [], ◌∷◌, ℕ}
use Rattle.fips197.specs.Field.{product}
use Rattle.fips197.specs.State.{column_byte, mixing, unmixing}
use Rattle.fips197.specs.KeyExpansion.{word}
use Rattle.mixing.specs.declared.Multiples.{Multiples}

-- a word is a state of one column
abbrev pub mix_word : List ℕ → List ℕ
mix_word u = word (λ r. column_byte mixing u r 0)

abbrev pub inv_mix_word : List ℕ → List ℕ
inv_mix_word u = word (λ r. column_byte unmixing u r 0)

abbrev pub multiples_of : Multiples → List ℕ
multiples_of m = m.by_9 ∷ m.by_11 ∷ m.by_13 ∷ m.by_14 ∷ []

abbrev pub multiples_by : ℕ → List ℕ
multiples_by b = product 0x09 b ∷ product 0x0b b ∷ product 0x0d b ∷ product 0x0e b ∷ []

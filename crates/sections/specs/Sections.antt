-- Parts of the definitions of model's Image.antt, for the functions that the code is split into.
--
--     counts_right m i       each section of i begins with its count
--     counters_of m i        the three counters that i holds
--     counters_section cs    the section of three counters
--
-- Assumes nothing.
use Rattle.std.specs.Prelude.{List, [], ◌∷◌, ◌++◌, Bool, ◌&&◌, ℕ, ◌+◌, eqb, get_or}
use Rattle.model.specs.declared.Map.{Map}
use Rattle.model.specs.Counters.{low_first}
use Rattle.model.specs.Image.{counters_at, failed_at, key_at, number_at}

unfoldable pub counts_right : Map → List ℕ → Bool
counts_right m i =
    eqb (get_or i 0 0) m.pages && eqb (get_or i (counters_at m) 0) 3 && eqb (get_or i (failed_at m) 0) 1 && eqb (get_or i (key_at m) 0) 1

unfoldable pub counters_of : Map → List ℕ → List ℕ
counters_of m i = number_at i (counters_at m + 1) 3 ∷ number_at i (counters_at m + 4) 3 ∷ number_at i (counters_at m + 7) 3 ∷ []

unfoldable pub counters_section : List ℕ → List ℕ
counters_section cs = 3 ∷ low_first 3 (get_or cs 0 0) ++ low_first 3 (get_or cs 1 0) ++ low_first 3 (get_or cs 2 0)

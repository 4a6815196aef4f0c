-- Lines in bytes that come in pieces.
--
--     before_mark m bs        how many bytes stand before the first m; all of them where there is none
--     line_length bs          the same for a newline
--     longest                the bytes that are held of a line: one more than a good line can have
--     held_of before piece    what is held of a line, of what was held and a piece of it
--
-- Assumes nothing.
use Rattle.std.specs.Prelude.{List, [], ◌∷◌, ◌++◌, cond, ℕ, suc, eqb, take}

unfoldable pub before_mark : ℕ → List ℕ → ℕ
before_mark m [] = 0
before_mark m (b ∷ bs) = cond (eqb b m) 0 (suc (before_mark m bs))

-- a newline is 10
abbrev pub line_length : List ℕ → ℕ
line_length bs = before_mark 10 bs

abbrev pub longest : ℕ
longest = 127

abbrev pub held_of : List ℕ → List ℕ → List ℕ
held_of before piece = take longest (before ++ piece)

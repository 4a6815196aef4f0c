-- Document 01, "Counters": READ_CNT and INCR_CNT, 009 8.5.9, 10.5 and 10.6.
--
--     low_first k n          n as k bytes, low byte first
--     from_low bs            the number of bytes sent low byte first
--     read_cnt_number, incr_cnt_number    5, 6 and 9 of the two commands
--
-- Assumes nothing.
use Rattle.std.specs.Prelude.{List, [], ◌∷◌, Bool, not, ◌&&◌, ℕ, zero, suc, ◌+◌, ◌*◌, ◌/◌, ◌%◌, ltb, eqb}
use Rattle.model.specs.declared.Map.{Map}
use Rattle.model.specs.declared.Tag.{Tag}
use Rattle.model.specs.declared.State.{State}
use Rattle.model.specs.declared.Quad.{Quad}
use Rattle.model.specs.Settings.{read_open, incr_open}
use Rattle.model.specs.Record.{is_authenticated, counter, highest_counter}
use Rattle.model.specs.Numbers.{number_if, first}

abbrev pub low_first : ℕ → ℕ → List ℕ
low_first zero n = []
low_first (suc k) n = n % 256 ∷ low_first k (n / 256)

abbrev pub from_low : List ℕ → ℕ
from_low [] = 0
from_low (b ∷ bs) = b + 256 * from_low bs

-- counter 2 needs AUTHENTICATED, unless its setting opens it
unfoldable pub counter_barred : State → Bool → ℕ → Bool
counter_barred st opened n = eqb n 2 && not opened && not (is_authenticated st)

unfoldable pub read_cnt_number : Map → State → List ℕ → ℕ → ℕ
read_cnt_number m st s n = first (number_if (ltb 2 n) 5) (number_if (counter_barred st (read_open m s) n) 6)

-- the first three value bytes, low first; the fourth is ignored
abbrev pub increment : Quad → ℕ
increment q = from_low (q.a ∷ q.b ∷ q.c ∷ [])

unfoldable pub incr_cnt_number : Map → Tag → List ℕ → ℕ → Quad → ℕ
incr_cnt_number m tag s n q =
    first (number_if (ltb 2 n) 5)
    (first (number_if (counter_barred tag.state (incr_open m s) n) 6) (number_if (ltb highest_counter (counter tag n + increment q)) 9))

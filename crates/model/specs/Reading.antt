-- Document 01, "Reading": READ and FAST_READ, 009 10.2 and 10.3.
--
--     read_number, fast_read_number     5 and 6 of the two commands
--     last_readable m st s            the last page that READ may read
--     read_window m st s p            the pages that READ gives: behind the last that may be read it continues at 00h
--     fast_range p q                  the pages that FAST_READ asks for
--     shown_byte m st s i             byte i of the memory as it is shown: key pages and Random ID's nine bytes are zeros
--     shown_pages m st s ps           the bytes of the pages ps as they are shown
--
-- Assumes nothing.
use Rattle.std.specs.Prelude.{List, [], ◌∷◌, ◌++◌, Bool, not, ◌&&◌, ◌||◌, cond, ℕ, zero, suc, ◌+◌, ◌-◌, ◌*◌, ltb, leb, get_or}
use Rattle.model.specs.declared.Map.{Map}
use Rattle.model.specs.declared.State.{State}
use Rattle.model.specs.Map.{last_page}
use Rattle.model.specs.Settings.{auth0, read_protected, random_id_on}
use Rattle.model.specs.Record.{is_active, is_authenticated}
use Rattle.model.specs.Numbers.{number_if, first}

-- page p is protected: PROT protects reading, the state isn't AUTHENTICATED, and AUTH0 is at most p
unfoldable pub read_barred : Map → State → List ℕ → ℕ → Bool
read_barred m st s p = read_protected m s && not (is_authenticated st) && leb (auth0 m s) p

-- only the first page is judged
unfoldable pub read_number : Map → State → List ℕ → ℕ → ℕ
read_number m st s p = first (number_if (ltb (last_page m) p) 5) (number_if (read_barred m st s p) 6)

unfoldable pub fast_read_number : Map → State → List ℕ → ℕ → ℕ → ℕ
fast_read_number m st s p q = first (number_if (ltb q p || ltb (last_page m) q) 5) (number_if (read_barred m st s q) 6)

-- n pages from p on
abbrev pub pages_from : ℕ → ℕ → List ℕ
pages_from p zero = []
pages_from p (suc n) = p ∷ pages_from (suc p) n

-- where AUTH0 protects a page from reading, the page before it is the last
unfoldable pub last_readable : Map → State → List ℕ → ℕ
last_readable m st s = cond (read_barred m st s (last_page m)) (auth0 m s - 1) (last_page m)

abbrev pub page_after : ℕ → ℕ → ℕ
page_after last p = cond (ltb p last) (p + 1) 0

-- n pages from p on, rolling over behind the last
abbrev pub rolled : ℕ → ℕ → ℕ → List ℕ
rolled last p zero = []
rolled last p (suc n) = p ∷ rolled last (page_after last p) n

unfoldable pub read_window : Map → State → List ℕ → ℕ → List ℕ
read_window m st s p = rolled (last_readable m st s) p 4

unfoldable pub fast_range : ℕ → ℕ → List ℕ
fast_range p q = pages_from p (q + 1 - p)

-- the eight key pages are in a row, DataProtKey's first
abbrev pub in_key_pages : Map → ℕ → Bool
in_key_pages m i = leb (4 * m.key0) i && ltb i (4 * m.key1 + 16)

-- seven bytes of the serial number and its two check bytes
abbrev pub id_bytes : ℕ
id_bytes = 9

unfoldable pub hidden : Map → State → List ℕ → ℕ → Bool
hidden m st s i = in_key_pages m i || random_id_on m s && is_active st && ltb i id_bytes

unfoldable pub shown_byte : Map → State → List ℕ → ℕ → ℕ
shown_byte m st s i = cond (hidden m st s i) 0 (get_or s i 0)

abbrev pub shown_page : Map → State → List ℕ → ℕ → List ℕ
shown_page m st s p =
    shown_byte m st s (4 * p) ∷ shown_byte m st s (4 * p + 1) ∷ shown_byte m st s (4 * p + 2) ∷ shown_byte m st s (4 * p + 3) ∷ []

unfoldable pub shown_pages : Map → State → List ℕ → List ℕ → List ℕ
shown_pages m st s [] = []
shown_pages m st s (p ∷ ps) = shown_page m st s p ++ shown_pages m st s ps

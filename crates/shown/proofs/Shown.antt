-- The bytes of pages in a row, as they are shown.
--
--   shown-length    n pages are 4 n bytes
--   window-length   READ's pages are 16 bytes
--   run-page        four bytes from a page's first on are the page
--   run-pages       4 n bytes from a page's first on are n pages
--   window-laid     READ's pages laid one behind the other
--
-- Assumes nothing.
use mathlib.Core.Path.{◌≡◌, refl, ap, ◌∙◌}
use mathlib.Core.List.{List, [], ◌∷◌, ◌++◌}
use Prim.Native.Nat.{ℕ, zero, suc, ◌+◌, ◌*◌}
use native.Mathlib.Omega.{arith}
use lib.ListN.{length}
use lib.Seq.{sets}
use Rattle.model.specs.declared.Map.{Map}
use Rattle.model.specs.declared.State.{State}
use Rattle.model.specs.Reading.{shown_byte, pages_from, last_readable, page_after, read_window, shown_page, shown_pages}
use Rattle.shown.specs.Run.{shown_run}

fours : (n : ℕ) → 4 * suc n ≡ suc (suc (suc (suc (4 * n))))
fours n = omega arith

module _ (m : Map) (st : State) (s : List ℕ) where
  pub shown-length : (p n : ℕ) → length (shown_pages m st s (pages_from p n)) ≡ 4 * n
  unfolding shown_pages
  shown-length p zero = refl
  shown-length p (suc n) = omega (arith, shown-length (suc p) n)

  pub window-length : (p : ℕ) → length (shown_pages m st s (read_window m st s p)) ≡ 16
  unfolding shown_pages read_window
  window-length p = refl

  -- the four bytes of a page by another sum
  page-bytes : (p f : ℕ) → f ≡ 4 * p
      → shown_byte m st s f ∷ shown_byte m st s (f + 1) ∷ shown_byte m st s (f + 1 + 1) ∷ shown_byte m st s (f + 1 + 1 + 1) ∷ []
      ≡ shown_page m st s p
  page-bytes p f e =
      let e1 : f + 1 ≡ 4 * p + 1 = omega arith in
      let e2 : f + 1 + 1 ≡ 4 * p + 2 = omega arith in
      let e3 : f + 1 + 1 + 1 ≡ 4 * p + 3 = omega arith in
      λ i. shown_byte m st s (e i) ∷ shown_byte m st s (e1 i) ∷ shown_byte m st s (e2 i) ∷ shown_byte m st s (e3 i) ∷ []

  pub run-page : (p : ℕ) → shown_run m st s (4 * p) 4 ≡ shown_page m st s p
  unfolding shown_run
  run-page p = page-bytes p (4 * p) refl

  -- a run of four bytes more
  run-four : (p f n : ℕ) → f ≡ 4 * p → shown_run m st s f (suc (suc (suc (suc n)))) ≡ shown_page m st s p ++ shown_run m st s (f + 1 + 1 + 1 + 1) n
  unfolding shown_run
  run-four p f n e = ap (λ (bs : List ℕ). bs ++ shown_run m st s (f + 1 + 1 + 1 + 1) n) (page-bytes p f e)

  -- the place of the next page, by the sum that a run counts by
  next_place : (p f : ℕ) → f ≡ 4 * p → f + 1 + 1 + 1 + 1 ≡ 4 * suc p
  next_place p f e = omega arith

  run-from : (p n f : ℕ) → f ≡ 4 * p → shown_run m st s f (4 * n) ≡ shown_pages m st s (pages_from p n)
  unfolding shown_pages shown_run
  run-from p zero f e = refl
  run-from p (suc n) f e =
      ap (shown_run m st s f) (fours n) ∙ run-four p f (4 * n) e
      ∙ ap (λ (bs : List ℕ). shown_page m st s p ++ bs) (run-from (suc p) n (f + 1 + 1 + 1 + 1) (next_place p f e))

  pub run-pages : (p n : ℕ) → shown_run m st s (4 * p) (4 * n) ≡ shown_pages m st s (pages_from p n)
  run-pages p n = run-from p n (4 * p) refl

  -- READ's pages laid one behind the other: l is the last page that may be read, p, q, u and v are the pages
  pub window-laid : (r : List ℕ) (p : ℕ) {r1 r2 r3 r4 : List ℕ} {q u v l : ℕ}
      → l ≡ last_readable m st s → q ≡ page_after l p → u ≡ page_after l q → v ≡ page_after l u
      → r1 ≡ sets r 0 (shown_page m st s p) → r2 ≡ sets r1 4 (shown_page m st s q)
      → r3 ≡ sets r2 8 (shown_page m st s u) → r4 ≡ sets r3 12 (shown_page m st s v)
      → r4 ≡ sets r 0 (shown_pages m st s (read_window m st s p))
  unfolding shown_pages read_window
  window-laid r p {r1} {r2} {r3} {r4} {q} {u} {v} {l} el eq eu ev e1 e2 e3 e4 =
      let page2 : q ≡ page_after (last_readable m st s) p = eq ∙ (λ i. page_after (el i) p) in
      let page3 : u ≡ page_after (last_readable m st s) (page_after (last_readable m st s) p) = eu ∙ (λ i. page_after (el i) (page2 i)) in
      let page4 : v ≡ page_after (last_readable m st s) (page_after (last_readable m st s) (page_after (last_readable m st s) p)) =
      ev ∙ (λ i. page_after (el i) (page3 i)) in
      let laid2 = e2 ∙ (λ i. sets (e1 i) 4 (shown_page m st s (page2 i))) in
      let laid3 = e3 ∙ (λ i. sets (laid2 i) 8 (shown_page m st s (page3 i))) in
      e4 ∙ (λ i. sets (laid3 i) 12 (shown_page m st s (page4 i)))

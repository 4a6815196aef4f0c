-- Laws of lines in pieces.
--
--   mark_found, mark_none    where the first mark stands from a place on, by what `position` finds there
--   held_part                what is held, of what was held and as much of a piece as there is room for
--
-- Assumes nothing.
use Rattle.std.proofs.Common.{◌≡◌, ℕ, ◌+◌, ◌-◌, ◌≤◌, List, ◌++◌, cond, eqb, min, length, take, drop, Some, None, refl, sym, ◌∙◌, ap, arith, length-drop}
use Rattle.std.specs.List.{position, position_or_len}
use Rattle.std.proofs.lemmas.Grind.{common_steps}
use Rattle.std.proofs.lemmas.List.{take_min}
use Rattle.std.proofs.lemmas.List.Recursion.{is_position_or_len}
use Rattle.std.proofs.lemmas.List.Sums.{prefix_len-le-length}
use lib.Seq.{take_all, take-append-add}
use Rattle.text.specs.Lines.{before_mark, held_of}

mark_place : (m : ℕ) (bs : List ℕ) → before_mark m bs ≡ position_or_len (λ b. eqb b m) bs
unfolding before_mark
mark_place m bs = is_position_or_len (before_mark m) (λ b. eqb b m) refl (λ x xs. ap (cond (eqb x m) 0) (omega arith)) bs

place_found : (m : ℕ) (bs : List ℕ) (n : ℕ) → position (λ b. eqb b m) bs ≡ Some n → before_mark m bs ≡ n
place_found m bs n h = let p = mark_place m bs in grind (arith, common_steps)

place_none : (m : ℕ) (bs : List ℕ) → position (λ b. eqb b m) bs ≡ None → before_mark m bs ≡ length bs
place_none m bs h = let p = mark_place m bs in grind (arith, common_steps, prefix_len-le-length)

module _ (bs : List ℕ) (i : ℕ) (within : i ≤ length bs) where
  rest : take (length bs - i) (drop i bs) ≡ drop i bs
  rest = take_all (length bs - i) (drop i bs) (omega (arith, length-drop i bs))

  pub mark_found : (m n : ℕ) → position (λ b. eqb b m) (take (length bs - i) (drop i bs)) ≡ Some n → i + n ≡ i + before_mark m (drop i bs)
  mark_found m n h = let at = place_found m (drop i bs) n (ap (position (λ b. eqb b m)) (sym rest) ∙ h) in omega arith

  pub mark_none : (m : ℕ) → position (λ b. eqb b m) (take (length bs - i) (drop i bs)) ≡ None → length bs ≡ i + before_mark m (drop i bs)
  mark_none m h = let at = place_none m (drop i bs) (ap (position (λ b. eqb b m)) (sym rest) ∙ h) in omega (arith, length-drop i bs)

pub held_part : (before piece : List ℕ) (room n : ℕ) → room + length before ≡ 127 → n ≡ min (length piece) room → before ++ take n piece ≡ held_of before piece
held_part before piece room n h e =
    let size : length before + room ≡ 127 = omega arith in
    let most : n ≡ min room (length piece) = omega arith in
    ap (λ k. before ++ take k piece) most
    ∙ ap (λ l. before ++ l) (take_min room piece)
    ∙ sym (take-append-add before piece room)
    ∙ ap (λ k. take k (before ++ piece)) size

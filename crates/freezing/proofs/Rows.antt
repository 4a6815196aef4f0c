-- What some rows freeze, and what the others freeze.
--
--   joined                  two masks of each lock byte together
--   joined-on, joined-off   the next row, whose bit is set, and whose bit is not
--   joined-all              behind the last row nothing is left
--
-- Assumes nothing.
use Rattle.std.proofs.Common.{◌≡◌, ℕ, suc, ◌+◌, ◌/◌, ◌<◌, ◌≤◌, List, true, false, length, get_or, drop, sym, arith}
use native.Mathlib.Numerals.{add-one}
use lib.ListN.{drop_of_length-le}
use lib.Seq.{drop-cons}
use Rattle.std.specs.Int.Bits.{bit_or, or_zero_l, or_zero_r}
use Rattle.std.proofs.lemmas.Nat.Bits.{bit_at_or, same_from_bits}
use Rattle.model.specs.declared.Masks.{Masks}
use Rattle.model.specs.Settings.{bit_set}
use Rattle.model.specs.Writing.{frozen}

abbrev pub joined : Masks → Masks → Masks
joined m r = record { first = bit_or m.first r.first; second = bit_or m.second r.second }

or_assoc : (a b c : ℕ) → bit_or (bit_or a b) c ≡ bit_or a (bit_or b c)
or_assoc a b c = same_from_bits _ _ (λ k. simp bit_at_or (omega arith))

module _ (m other : Masks) (rows : List Masks) (i b : ℕ) where
  pub joined-on : i < length rows → bit_set 0 b ≡ true
      → joined (joined m (get_or rows i other)) (frozen (drop (i + 1) rows) (b / 2)) ≡ joined m (frozen (drop i rows) b)
  unfolding frozen
  joined-on h set =
      let row = get_or rows i other in
      let rest = frozen (drop (suc i) rows) (b / 2) in
      rw (add-one, drop-cons rows i other h, set)
      (λ k. record { first = or_assoc m.first row.first rest.first k; second = or_assoc m.second row.second rest.second k })

  pub joined-off : i < length rows → bit_set 0 b ≡ false → joined m (frozen (drop (i + 1) rows) (b / 2)) ≡ joined m (frozen (drop i rows) b)
  unfolding frozen
  joined-off h set =
      let rest = frozen (drop (suc i) rows) (b / 2) in
      rw (add-one, drop-cons rows i other h, set)
      (λ k. record { first = bit_or m.first (sym (or_zero_l rest.first) k); second = bit_or m.second (sym (or_zero_l rest.second) k) })

  pub joined-all : length rows ≤ i → joined m (frozen (drop i rows) b) ≡ m
  unfolding frozen
  joined-all h = rw (drop_of_length-le rows h) (λ k. record { first = or_zero_r m.first k; second = or_zero_r m.second k })

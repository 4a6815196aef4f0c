-- `schedule::expand` meets its contract. The loop's invariant: the first i words are the key and the words behind it.
-- Assumes nothing.
use mathlib.Core.Path.{◌≡◌, sym, ap, ap₂, ◌∙◌}
use mathlib.Core.List.{List, ◌++◌}
use Prim.Native.Nat.{ℕ, suc, ◌+◌, ◌-◌, ◌*◌, ◌≤◌}
use native.Mathlib.Omega.{arith}
use lib.ListN.{take, length-append}
use lib.Seq.{take_all}
use borrow.Rule.Slice.PartMut.{same_len_mid}
use Rattle.std.proofs.lemmas.Slice.{take-put_mid}
use Rattle.std.proofs.lemmas.List.{take_at}
use Rattle.fips197.specs.KeyExpansion as key
use Rattle.fips197.proofs.KeyExpansion.{next_word-take}
use Rattle.schedule.proofs.expand.Goals as goal

-- the schedule w grown by word i, x, is the next one
grown : (k w x done : List ℕ) (i : ℕ) → 4 ≤ i → take (4 * i) w ≡ key.expand k (i - 4) → x ≡ key.next_word w i → done ≡ take (4 * i) w ++ x
    → done ≡ key.expand k (i + 1 - 4)
unfolding key.expand
grown k w x done i four front next put =
    let step : i + 1 - 4 ≡ suc (i - 4) = omega arith in
    let place : 4 + (i - 4) ≡ i = omega arith in
    rw (step, place)
    (put ∙ ap₂ (λ (u v : List ℕ). u ++ v) front (next ∙ sym (next_word-take w i (omega arith)) ∙ ap (λ (u : List ℕ). key.next_word u i) front))

pub loop-i-init : goal.loop-i-init
unfolding key.expand
loop-i-init c =
    let first = c.copy_from_slice in
    (length-append first.new.self _ ∙ ap (λ (n : ℕ). n + 160) first.ensures.len, take_at first.new.self _ 16 first.ensures.len ∙ first.ensures.after)

pub loop-i-preserved : goal.loop-i-preserved
loop-i-preserved c =
    let l = c.loop-i in
    let next = c.copy_from_slice-in-loop-i in (
      same_len_mid (4 * l.i) (4 * l.i + 4 - 4 * l.i) l.w next.new.self next.ensures.len ∙ l.invariant.0,
      grown c.args.key l.w next.new.self _ l.i l.auto.i l.invariant.1 (next.ensures.after ∙ c.next_word-next.ensures)
          (take-put_mid (4 * l.i) (4 * l.i + 4 - 4 * l.i) l.w next.new.self (4 * (l.i + 1)) (omega arith) (omega arith)),
    )

pub returns : goal.returns
unfolding key.key_expansion
returns c =
    let l = c.loop-i in
    let all : l.i ≡ 44 = omega arith in
    sym (take_all (4 * l.i) l.w (omega arith)) ∙ l.invariant.1 ∙ ap (λ (i : ℕ). key.expand c.args.key (i - 4)) all

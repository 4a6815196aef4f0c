-- `octets::lay` meets its contract. One byte more is one store more.
-- Assumes nothing.
use mathlib.Core.Path.{sym, ap, ◌∙◌}
use mathlib.Core.List.{List}
use Prim.Native.Nat.{ℕ, ◌+◌}
use native.Mathlib.Numerals.{add-one}
use native.Mathlib.Omega.{arith}
use lib.ListN.{get_or, take, set}
use lib.Seq.{sets}
use Rattle.octets.proofs.Laid.{sets-suc}
use Rattle.octets.proofs.lay.Goals as goal

pub loop-i-preserved : goal.loop-i-preserved
loop-i-preserved c =
    let put = c in
    let l = put.loop-i in
    let a = put.args in
    put.put.ensures
    ∙ ap (λ (w : List ℕ). set w (a.first + l.i) (get_or a.bs.now l.i 0)) l.invariant
    ∙ sym (sets-suc a.s.now a.first a.bs.now l.i (omega arith))
    ∙ ap (λ (k : ℕ). sets a.s.now a.first (take k a.bs.now)) (sym (add-one l.i))

-- `reports::digits::lay` meets its contract: the next byte is laid behind the first i, and what is behind all of them stays.
-- Assumes nothing.
use Rattle.std.proofs.Common.{◌≡◌, ◌≤◌, ℕ, List, ◌+◌, sym, ap, ◌∙◌, ◌++◌, zero-add, arith, length, take, drop}
use Rattle.std.proofs.lemmas.List.{length-take-le}
use Rattle.std.proofs.lemmas.List.FromFn.{length-map-range_with_len}
use lib.ListN.{set}
use lib.Seq.{sets, sets-eq}
use Rattle.octets.proofs.Laid.{run-put, sets-all}
use Rattle.reports.specs.Digits.{octet_or_zero, octets_from}
use Rattle.reports.proofs.digits.lay.Goals as goal

pub loop-i-preserved : goal.loop-i-preserved
loop-i-preserved c =
    let l = c.loop-i in
    let a = c.args in
    let g = λ (k : ℕ). octet_or_zero a.text.now (a.start + k) in
    run-put (take c.min-n.result a.out.now) l.byte-items _ 0 0 l.i _ g l.invariant (c.octet_or_zero.ensures ∙ ap g (sym (zero-add l.i)))
    (ap (λ (k : ℕ). set l.byte-items k c.octet_or_zero.result) (sym (zero-add l.i)))

pub returns-clause-out_after : goal.returns-clause-out_after
returns-clause-out_after c =
    let a = c.args in
    let n = c.min-n.result in
    let part = take n a.out.now in
    let bytes = octets_from a.text.now a.start n in
    let fits : n ≤ length a.out.now = omega (arith, c.min-n.ensures) in
    let long : length part ≡ n = length-take-le n a.out.now fits in
    let size : length bytes ≡ n = length-map-range_with_len (λ (k : ℕ). octet_or_zero a.text.now (a.start + k)) 0 n in
    let end : c.loop-i.i ≡ n = omega (arith, long, c.loop-i-test.false, c.loop-i.auto.i-end) in
    let laid : c.loop-i.byte-items ≡ bytes =
    c.loop-i.invariant ∙ ap (λ (k : ℕ). sets part 0 (octets_from a.text.now a.start k)) end ∙ sets-all part bytes (size ∙ sym long) in
    ap (λ (xs : List ℕ). xs ++ drop n a.out.now) laid ∙ ap (λ (k : ℕ). bytes ++ drop k a.out.now) (sym (zero-add (length bytes) ∙ size))
    ∙ sym (sets-eq bytes a.out.now 0 (omega (arith, size)))

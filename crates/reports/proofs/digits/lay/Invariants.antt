-- `reports::digits::lay` meets its contract. The loop's invariant: the first i bytes are laid.
use Rattle.std.proofs.Common.{◌≡◌}
use Rattle.std.proofs.lemmas.List.Edits.{sets}
use Rattle.reports.specs.Digits.{octets_from}
use Rattle.reports.proofs.digits.lay.Given as goal

abbrev pub invariant-loop-i : goal.invariant-loop-i
invariant-loop-i l = l.byte-items ≡ sets l.initial.byte-items 0 (octets_from l.text l.start l.i)

-- `crc::crc_a` meets its contract. The loop's invariant: the register is the fold of the byte step over the bytes before this one.
-- Assumes nothing.
use mathlib.Core.Path.{sym, ap, ◌∙◌}
use native.Mathlib.Omega.{arith}
use lib.Seq.{take_all}
use Rattle.std.specs.List.{fold}
use Rattle.crc.specs.CrcA.{crc_byte, crc_a}
use Rattle.crc.proofs.Laws.{crc_from_folds}
use Rattle.crc.proofs.crc_a.Goals as goal

pub returns : goal.returns
unfolding crc_a
returns c =
    let l = c.loop-byte in
    let frame = c.args.frame.now in
    l.invariant ∙ ap (fold crc_byte 0x6363) (take_all l.byte-index frame (omega arith)) ∙ sym (crc_from_folds 0x6363 frame)

-- `crc::crc_a` meets its contract. The loop's invariant: the register is the fold of the byte step over the bytes before this one.
use mathlib.Core.Path.{◌≡◌}
use lib.ListN.{take}
use Rattle.std.specs.List.{fold}
use Rattle.crc.specs.CrcA.{crc_byte}
use Rattle.crc.proofs.crc_a.Given as goal

abbrev pub invariant-loop-byte : goal.invariant-loop-byte
invariant-loop-byte l = l.register ≡ fold crc_byte l.initial.register (take l.byte-index l.frame)

-- No command but part 2 of AUTHENTICATE is part 2.
--
--   read-other, ..  for each command
--
-- Assumes nothing.
use mathlib.Core.Path.{◌≡◌, ap}
use native.Mathlib.Omega.{arith}
use Rattle.model.specs.declared.Command.{Command}
use Rattle.model.specs.declared.Command.TheVariants.{Read, FastRead, Write, ReadCnt, IncrCnt, Authenticate, Proof, Halt}
use Rattle.model.specs.Telling.{code_of}

-- the code byte of a command tells it from part 2
other-code : (c : Command) → (code_of c ≡ code_of Proof → ⊥) → c ≡ Proof → ⊥
other-code c h e = h (ap code_of e)

pub read-other : Read ≡ Proof → ⊥
read-other = other-code Read (omega arith)

pub fast-read-other : FastRead ≡ Proof → ⊥
fast-read-other = other-code FastRead (omega arith)

pub write-other : Write ≡ Proof → ⊥
write-other = other-code Write (omega arith)

pub read-cnt-other : ReadCnt ≡ Proof → ⊥
read-cnt-other = other-code ReadCnt (omega arith)

pub incr-cnt-other : IncrCnt ≡ Proof → ⊥
incr-cnt-other = other-code IncrCnt (omega arith)

pub authenticate-other : Authenticate ≡ Proof → ⊥
authenticate-other = other-code Authenticate (omega arith)

pub halt-other : Halt ≡ Proof → ⊥
halt-other = other-code Halt (omega arith)

-- Reception of a frame and the telling of its command: length and CRC_A, then the code byte, then the length. Codes and lengths are 009 Table 20's.
--
--     told b             the command of a code byte, with the length of its payload, the frame without CRC_A
--     allowed st c       AFh is for CHALLENGED alone, and CHALLENGED for AFh alone
--     damaged f          under 3 or over 64 bytes, or the CRC_A is wrong                              number 2
--     told_number t st n  3 for a code that is unknown or not allowed now, 4 for a wrong length n
--
-- Assumes nothing.
use Rattle.std.specs.Prelude.{List, Bool, not, ◌||◌, cond, ℕ, ◌+◌, ◌-◌, ◌*◌, ltb, eqb, length, get_or, take}
use Rattle.crc.specs.CrcA.{crc_a}
use Rattle.model.specs.declared.State.{State}
use Rattle.model.specs.declared.Command.{Command}
use Rattle.model.specs.declared.Command.TheVariants.{Read, FastRead, Write, ReadCnt, IncrCnt, Authenticate, Proof, Halt}
use Rattle.std.specs.Prelude.{Option, Some, None}
use Rattle.model.specs.Map.{trailer, longest_frame}
use Rattle.model.specs.Record.{is_challenged}
use Rattle.model.specs.Numbers.{number_if, first}

-- the CRC_A of all bytes but the last two stands in these, low byte first
abbrev pub crc_right : List ℕ → Bool
crc_right f = eqb (crc_a (take (length f - trailer) f)) (get_or f (length f - 2) 0 + 256 * get_or f (length f - 1) 0)

unfoldable pub damaged : List ℕ → Bool
damaged f = ltb (length f) 3 || ltb longest_frame (length f) || not (crc_right f)

-- the code byte of a command
abbrev pub code_of : Command → ℕ
code_of Read = 0x30
code_of FastRead = 0x3a
code_of Write = 0xa2
code_of ReadCnt = 0x39
code_of IncrCnt = 0xa5
code_of Authenticate = 0x1a
code_of Proof = 0xaf
code_of Halt = 0x50

unfoldable pub told : ℕ → Option (Command × ℕ)
told b =
    cond (eqb b (code_of Read)) (Some (Read, 2))
    (cond (eqb b (code_of FastRead)) (Some (FastRead, 3))
    (cond (eqb b (code_of Write)) (Some (Write, 6))
    (cond (eqb b (code_of ReadCnt)) (Some (ReadCnt, 2))
    (cond (eqb b (code_of IncrCnt)) (Some (IncrCnt, 6))
    (cond (eqb b (code_of Authenticate)) (Some (Authenticate, 2))
    (cond (eqb b (code_of Proof)) (Some (Proof, 33))
    (cond (eqb b (code_of Halt)) (Some (Halt, 2)) None)))))))

unfoldable pub allowed : State → Command → Bool
allowed st c = cond (is_challenged st) (eqb (code_of c) (code_of Proof)) (not (eqb (code_of c) (code_of Proof)))

unfoldable pub told_number : Option (Command × ℕ) → State → ℕ → ℕ
told_number (Some (c, k)) st n = first (number_if (not (allowed st c)) 3) (number_if (not (eqb n (k + trailer))) 4)
told_number None st n = 3

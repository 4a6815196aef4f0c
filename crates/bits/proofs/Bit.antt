-- Bits of numbers: each operation acts on every bit by itself, and a number is known by its bits. They are std's laws of `bit_at`, of `bit_of`.
--
--   Digit x                      x is 0 or 1
--   bit-lt                       a bit is below 2
--   bit-or, bit-and              a bit of the result, from the same bit of the two operands
--   bits-ext                     two numbers whose bits are all equal are equal
--   xor-byte                     two bytes xored give a byte
--
-- Assumes nothing.
use mathlib.Core.Path.{◌≡◌}
use Prim.Native.Nat.{ℕ, zero, suc, ◌<◌, min, max}
use native.Mathlib.Omega.{arith}
use Rattle.std.proofs.lemmas.Nat.Bits.{bit_at-lt, bit_at_or, bit_at_and, same_from_bits}
use lib.Bits.{bit_and, bit_or, bit_xor, xor_lt}
use Rattle.bits.specs.Bits.{bit_of}

-- 0 or 1, as a type of two cases: a law of single digits is proved case by case
pub data Digit : ℕ → Type 0 where
  off : Digit 0
  on : Digit 1

pub digit-of : (n : ℕ) → n < 2 → Digit n
digit-of zero h = off
digit-of (suc zero) h = on
digit-of (suc (suc n)) h = absurd (omega arith)

pub bit-lt : (k n : ℕ) → bit_of k n < 2
unfolding bit_of
bit-lt k n = bit_at-lt n k

pub bit-or : (k a b : ℕ) → bit_of k (bit_or a b) ≡ max (bit_of k a) (bit_of k b)
unfolding bit_of
bit-or k a b = bit_at_or a b k

pub bit-and : (k a b : ℕ) → bit_of k (bit_and a b) ≡ min (bit_of k a) (bit_of k b)
unfolding bit_of
bit-and k a b = bit_at_and a b k

pub bits-ext : (a b : ℕ) → ((k : ℕ) → bit_of k a ≡ bit_of k b) → a ≡ b
unfolding bit_of
bits-ext a b same = same_from_bits a b same

-- bytes are numbers of 8 bits
pub xor-byte : {a b : ℕ} → a < 256 → b < 256 → bit_xor a b < 256
xor-byte {a} {b} = xor_lt 8 a b

-- The lists of specs/Struck.antt, by computing.
--
--   struck-right, random-kept, sample-meets-all     the three statements
--   bytes-by-test                                   a list whose elements pass the test is a list of bytes
--
-- Assumes nothing.
use mathlib.Core.Path.{◌≡◌, refl}
use mathlib.Core.Bool.{Bool, true}
use mathlib.Core.List.{List, [], ◌∷◌}
use Prim.Native.Nat.{ℕ, zero, suc}
use lib.Dec.{T, ltb, ltb→lt, lit<, lit≤}
use lib.ListN.{length, replicate}
use Rattle.bits.proofs.Test.{both, both_left, both_right}
use Rattle.forget.specs.Machine.{log}
use Rattle.forget.specs.Striking.{fates, judge, wakes_ahead, having}
use Rattle.crc.specs.CrcA.{with_crc}
use Rattle.model.specs.Map.{mf0aes20}
use Rattle.model.specs.Calls.{frame, boundary, refuses, Bytes, Fit}
use Rattle.model.specs.CaseImages.{base}
use Rattle.model.proofs.Computing.{computing}
use Rattle.cases.specs.Struck.{sending, StruckRight, RandomKept, SampleMeetsAll}

computed : StruckRight × RandomKept
unfolding computing boundary refuses log fates judge wakes_ahead having
computed = (((refl, refl), ((refl, refl), ((refl, refl), ((refl, refl), tt)))), refl)

pub struck-right : StruckRight
struck-right = computed.0

pub random-kept : RandomKept
random-kept = computed.1

-- every element is below 256
abbrev pub byte_test : List ℕ → Bool
byte_test [] = true
byte_test (x ∷ xs) = both (ltb x 256) (byte_test xs)

pub bytes-by-test : (l : List ℕ) → T (byte_test l) → Bytes l
bytes-by-test [] t i = lit< tt
bytes-by-test (x ∷ xs) t zero = ltb→lt x 256 (both_left (ltb x 256) (byte_test xs) t)
bytes-by-test (x ∷ xs) t (suc i) = bytes-by-test xs (both_right (ltb x 256) (byte_test xs) t) i

-- a frame of bytes with sixteen random bytes and the least reply buffer
frame-fits : (f random : List ℕ) → length random ≡ 16 → T (byte_test f) → T (byte_test random) → Fit (frame f random 242)
unfolding mf0aes20
frame-fits f random e t u = ((e, lit≤ tt), (bytes-by-test f t, bytes-by-test random u))

sent-fits : (r : ℕ) (f : List ℕ) → T (byte_test (with_crc f)) → T (byte_test (replicate 16 r)) → Fit (sending r f)
sent-fits r f t u = frame-fits (with_crc f) (replicate 16 r) refl t u

pub sample-meets-all : SampleMeetsAll
unfolding computing
sample-meets-all = (
  refl,
  bytes-by-test base tt,
  (
    (tt, tt),
    (
      sent-fits 7 (0x1a ∷ 0x00 ∷ []) tt tt,
      (
        frame-fits (0x30 ∷ 0x04 ∷ 0x00 ∷ 0x00 ∷ []) (replicate 16 4) refl tt tt,
        (
          (tt, tt),
          (
            sent-fits 8 (0x1a ∷ 0x00 ∷ []) tt tt,
            (
              sent-fits 1 (0x30 ∷ 0x04 ∷ []) tt tt,
              (sent-fits 3 (0x50 ∷ 0x00 ∷ []) tt tt, (sent-fits 2 (0x30 ∷ 0x3c ∷ []) tt tt, tt)),
            ),
          ),
        ),
      ),
    ),
  ),
)

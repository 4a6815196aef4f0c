-- CRC_A behind what stands at the start of the reply buffer.
--
--   behind        the first n bytes and more behind them, laid over their own buffer, are those behind them laid
--   laid-length   laying bytes leaves the buffer's length
--   sealed-count, sealed
--                 bytes that were laid and then sealed are counted and laid with their CRC_A
--
-- Assumes nothing.
use mathlib.Core.Path.{◌≡◌, ap, ◌∙◌}
use mathlib.Core.List.{List, ◌++◌}
use Prim.Native.Nat.{ℕ, ◌+◌, ◌≤◌}
use native.Mathlib.Nat.{zero-add}
use native.Mathlib.Omega.{arith}
use lib.ListN.{length, take}
use lib.Seq.{sets, length-sets, length-take-le}
use Rattle.octets.proofs.Laid.{sets-append, sets-own, take-sets, sets_over}
use Rattle.crc.specs.CrcA.{crc_a, on_air, with_crc}
use Rattle.crc.proofs.Laws.{with_crc-length}
use Rattle.framing.specs.Laid.{Laid}

pub behind : (s bs : List ℕ) (n : ℕ) → n ≤ length s → sets s 0 (take n s ++ bs) ≡ sets s n bs
behind s bs n h =
    let place : 0 + length (take n s) ≡ n = zero-add (length (take n s)) ∙ length-take-le n s h in
    sets-append s 0 (take n s) bs
    ∙ ap (λ (t : List ℕ). sets t (0 + length (take n s)) bs) (sets-own s n h)
    ∙ ap (λ (k : ℕ). sets s k bs) place

pub laid-length : {l mid d : List ℕ} {n : ℕ} → Laid l mid n d → length mid ≡ length l
laid-length {l} {mid} {d} laid = ap length laid.bytes ∙ length-sets l 0 d

pub sealed-count : {l mid d : List ℕ} {n r : ℕ} → Laid l mid n d → r ≡ n + 2 → r ≡ length (with_crc d)
sealed-count {l} {mid} {d} laid e = omega (arith, with_crc-length d)

-- after the bytes d were laid, n is how many they are
pub sealed : {l mid after d : List ℕ} {n : ℕ} → Laid l mid n d → length d + 2 ≤ length l → after ≡ sets mid 0 (with_crc (take n mid))
    → after ≡ sets l 0 (with_crc d)
unfolding with_crc
sealed {l} {mid} {after} {d} {n} laid room e =
    let start : take n mid ≡ d = rw (laid.count, laid.bytes) (take-sets l d (omega arith)) in
    e
    ∙ ap (λ (t : List ℕ). sets mid 0 (with_crc t)) start
    ∙ ap (λ (t : List ℕ). sets t 0 (with_crc d)) laid.bytes
    ∙ sets_over l d (on_air (crc_a d)) (omega arith)

-- The record's three parts, laid one behind the other.
--
--   laid     three blocks of 16 bytes laid over 48; b1 to b3 are the buffer after each
--
-- Assumes nothing.
use mathlib.Core.Path.{◌≡◌, sym, ap, ◌∙◌}
use mathlib.Core.List.{List, ◌++◌}
use Prim.Native.Nat.{ℕ, ◌+◌}
use native.Mathlib.Omega.{arith}
use lib.ListN.{length, length-append}
use lib.Seq.{sets}
use Rattle.octets.proofs.Laid.{sets-append, sets-all}
use Rattle.c_record.specs.Record.{record_size}
use Rattle.c_record.proofs.Laws.{blocks-long}

pub laid : (x y z b b1 b2 b3 : List ℕ) → length x ≡ 16 → length y ≡ 16 → length z ≡ 16 → length b ≡ record_size
    → b1 ≡ sets b 0 x → b2 ≡ sets b1 16 y → b3 ≡ sets b2 32 z → b3 ≡ x ++ y ++ z
laid x y z b b1 b2 b3 hx hy hz size e1 e2 e3 =
    let n2 : 0 + length x ≡ 16 = omega arith in
    let n3 : 0 + length (x ++ y) ≡ 32 = omega (arith, length-append x y) in
    let two : b2 ≡ sets b 0 (x ++ y) =
    e2 ∙ ap (λ (l : List ℕ). sets l 16 y) e1 ∙ ap (λ (n : ℕ). sets (sets b 0 x) n y) (sym n2) ∙ sym (sets-append b 0 x y) in
    let three : b3 ≡ sets b 0 (x ++ y ++ z) =
    e3 ∙ ap (λ (l : List ℕ). sets l 32 z) two ∙ ap (λ (n : ℕ). sets (sets b 0 (x ++ y)) n z) (sym n3) ∙ sym (sets-append b 0 (x ++ y) z) in
    three ∙ sets-all b (x ++ y ++ z) (blocks-long x y z hx hy hz ∙ sym size)

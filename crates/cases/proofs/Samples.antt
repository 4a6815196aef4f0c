-- The samples of specs/Samples.antt, by computing.
--
--   block-by-test     sixteen elements that pass the test are a block
--   set-bit-met, read-cnt-met, write-stopped-met, random-id-met, proof-met     the five statements
--
-- Assumes nothing.
use mathlib.Core.Path.{◌≡◌, refl, sym}
use mathlib.Core.List.{List}
use Prim.Native.Nat.{ℕ, ◌≤◌}
use native.Mathlib.Omega.{arith}
use lib.Dec.{T}
use lib.ListN.{length, get_or, set, replicate, length-set}
use lib.Seq.{get_or-set_other}
use Rattle.fips197.specs.State.{IsBlock}
use Rattle.model.specs.Image.{load}
use Rattle.model.specs.FieldClaims.{one_way_bits}
use Rattle.cases.specs.Samples.{rid_image, challenged_tag, rnd_a, proof_frame, SetBitMet, ReadCntMet, WriteStoppedMet, RandomIdMet, ProofMet}
use Rattle.model.specs.CallClaims.{AgreeWhere}
use Rattle.model.specs.CaseForm.{blank}
use Rattle.model.proofs.Sound.{zeros-block}
use Rattle.model.proofs.Computing.{computing}
use Rattle.cases.proofs.Struck.{byte_test, bytes-by-test}

pub block-by-test : (l : List ℕ) → length l ≡ 16 → T (byte_test l) → IsBlock l
block-by-test l e t = record { sixteen = e; bytes = bytes-by-test l t }

computed : SetBitMet × ReadCntMet × WriteStoppedMet
unfolding computing one_way_bits
computed = ((refl, refl, refl), refl, (refl, refl))

pub set-bit-met : SetBitMet
set-bit-met = computed.0

pub read-cnt-met : ReadCntMet
read-cnt-met = computed.1

pub write-stopped-met : WriteStoppedMet
write-stopped-met = computed.2

-- a store that differs in byte 0 agrees from byte 9 on
from-nine : (s : List ℕ) (v i : ℕ) → 9 ≤ i → get_or s i 0 ≡ get_or (set s 0 v) i 0
from-nine s v i h = sym (get_or-set_other s 0 i v 0 (omega arith))

differs : (s : List ℕ) (v : ℕ) → AgreeWhere (λ i. 9 ≤ i) s (set s 0 v)
differs s v = record { long = sym (length-set s 0 v); same = from-nine s v }

pub random-id-met : RandomIdMet
unfolding computing one_way_bits
random-id-met = (refl, refl, differs (load rid_image blank).store 0xff, λ e. omega arith)

pub proof-met : ProofMet
unfolding computing one_way_bits
proof-met = (
  record {
    challenged = refl;
    code = refl;
    long = refl;
    whole = refl;
    fits = refl;
    store = bytes-by-test (replicate 240 0) tt;
    original = zeros-block;
    challenge = block-by-test challenged_tag.challenge refl tt;
    frame' = bytes-by-test proof_frame tt;
  },
  refl,
  record { block = block-by-test rnd_a refl tt; first = refl; second = refl },
)

-- The hypotheses of the claims can be met: a sample for each, beside the base image of Struck.antt.
--
--     SetBitMet        a loaded image with a one-way bit set                       SetBitsStay
--     ReadCntMet       a READ_CNT that is answered 0                               ReadCntLowFirst
--     RandomIdMet      an ACTIVE tag with Random ID on, and two stores that differ in byte 0 alone    RandomIdHides
--     WriteStoppedMet  a WRITE that is answered 6                                  FirstRuleTold
--     ProofMet         009 Table 17: a challenged tag and a right proof            ProofExact
--
-- proofs/Samples.antt proves each by computing. Assumes nothing.
use Rattle.std.specs.Prelude.{◌≡◌, List, [], ◌∷◌, ◌++◌, true, false, ℕ, ◌≤◌, get_or, set, replicate}
use Rattle.bits.specs.Bits.{bit_of}
use Rattle.crc.specs.CrcA.{with_crc}
use Rattle.model.specs.declared.Tag.{Tag}
use Rattle.model.specs.declared.State.TheVariants.{Challenged}
use Rattle.model.specs.declared.Command.TheVariants.{Write}
use Rattle.model.specs.Map.{mf0aes20}
use Rattle.model.specs.Settings.{random_id_on}
use Rattle.model.specs.Record.{zeros, is_active, select}
use Rattle.model.specs.Telling.{code_of}
use Rattle.model.specs.Authentication.{limit_reached}
use Rattle.model.specs.Frame.{frame}
use Rattle.model.specs.Image.{load}
use Rattle.model.specs.FieldClaims.{one_way_bits}
use Rattle.model.specs.CallClaims.{Asked, RightProof, AgreeWhere}
use Rattle.model.specs.CaseImages.{hex, page, patched, base}
use Rattle.model.specs.CaseForm.{blank}

-- the base image with OTP 01,00,00,00, and with Random ID on
abbrev pub otp_image : List ℕ
otp_image = patched base (page 0x03 (0x01 ∷ []) ∷ [])

abbrev pub rid_image : List ℕ
rid_image = patched base (page 0x29 (0x01 ∷ []) ∷ [])

abbrev pub SetBitMet : Type 0
SetBitMet = ((load otp_image blank).number ≡ 0) × (bit_of 0 (one_way_bits 12) ≡ 1) × (bit_of 0 (get_or (load otp_image blank).store 12 0) ≡ 1)

abbrev pub ReadCntMet : Type 0
ReadCntMet =
    (frame (select (load base blank).tag) (load base blank).store (with_crc (0x39 ∷ 0x00 ∷ [])) zeros 242).number ≡ 0

-- WRITE 04h to the base image with AUTH0 04h
abbrev pub stopped_write : List ℕ
stopped_write = with_crc (0xa2 ∷ 0x04 ∷ 0x11 ∷ 0x22 ∷ 0x33 ∷ 0x44 ∷ [])

abbrev pub auth0_image : List ℕ
auth0_image = patched base (page 0x29 (0x00 ∷ 0x00 ∷ 0x00 ∷ 0x04 ∷ []) ∷ [])

abbrev pub WriteStoppedMet : Type 0
WriteStoppedMet =
    (get_or stopped_write 0 0 ≡ code_of Write)
    × ((frame (select (load auth0_image blank).tag) (load auth0_image blank).store stopped_write zeros 242).number ≡ 6)

abbrev pub RandomIdMet : Type 0
RandomIdMet =
    let s = (load rid_image blank).store in
    (is_active (select (load rid_image blank).tag).state ≡ true) × (random_id_on mf0aes20 s ≡ true) × AgreeWhere (λ i. 9 ≤ i) s (set s 0 0xff)
    × (get_or s 0 0 ≡ get_or (set s 0 0xff) 0 0 → ⊥)

-- a tag of zero keys, challenged with Table 17's RndB
abbrev pub challenged_tag : Tag
challenged_tag = record {
  counters = 0 ∷ 0 ∷ 0 ∷ [];
  failed = 0;
  originality = zeros;
  state = Challenged 0;
  challenge = hex 16 0x1ae4174ca173ebbc59165cebe2f20821;
}

abbrev pub rnd_a : List ℕ
rnd_a = hex 16 0xf29b0123f5c00df612487bbf42468c7e

abbrev pub proof_frame : List ℕ
proof_frame =
    with_crc (0xaf ∷ hex 16 0xcdf22c5f7a92f0af0155612b9b236ac7 ++ hex 16 0xa424bc5238d41ad041b8165b7d99e524)

abbrev pub ProofMet : Type 0
ProofMet =
    Asked challenged_tag 0 (replicate 240 0) proof_frame zeros 242 × (limit_reached mf0aes20 challenged_tag (replicate 240 0) ≡ false)
    × RightProof challenged_tag 0 (replicate 240 0) proof_frame rnd_a

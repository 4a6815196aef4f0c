-- What is proved of the definitions: InverseInverts in proofs/Field.antt, SBoxIsSubByte and InvSBoxInverts in proofs/SBox.antt, StepsInvert in
-- proofs/Steps.antt, CipherInverts in proofs/Cipher.antt. Assumes nothing.
use Rattle.std.specs.Prelude.{◌≡◌, List, ℕ, ◌<◌}
use Rattle.fips197.specs.Field.{product, inverse}
use Rattle.fips197.specs.SBox.{sub_byte, s_box, inv_sbox}
use Rattle.fips197.specs.State.{IsBlock, sub_bytes, inv_sub_bytes, shift_rows, inv_shift_rows, mix_columns, inv_mix_columns, add_round_key}
use Rattle.fips197.specs.Cipher.{encipher, decipher}

-- 4.2: every byte but 0 times its inverse is 1, and the inverse of 0 is 0
abbrev pub InverseInverts : Type 0
InverseInverts = (inverse 0 ≡ 0) × ((b : ℕ) → 0 < b → b < 256 → product b (inverse b) ≡ 1)

-- 5.1.1: Figure 7 is the inverse and the affine map, at all 256 bytes
abbrev pub SBoxIsSubByte : Type 0
SBoxIsSubByte = (b : ℕ) → b < 256 → s_box b ≡ sub_byte b

-- 5.3.2: Figure 14 is the inverse of Figure 7, both ways
abbrev pub InvSBoxInverts : Type 0
InvSBoxInverts = (b : ℕ) → b < 256 → (inv_sbox (s_box b) ≡ b) × (s_box (inv_sbox b) ≡ b)

-- g undoes f on every block
abbrev pub Undoes : (List ℕ → List ℕ) → (List ℕ → List ℕ) → Type 0
Undoes g f = (s : List ℕ) → IsBlock s → g (f s) ≡ s

-- each undoes the other on every block
abbrev pub Inverses : (List ℕ → List ℕ) → (List ℕ → List ℕ) → Type 0
Inverses f g = Undoes g f × Undoes f g

-- 5.3.1 to 5.3.4: the inverse of each step undoes the step, both ways
abbrev pub StepsInvert : Type 0
StepsInvert =
    Inverses sub_bytes inv_sub_bytes × Inverses shift_rows inv_shift_rows × Inverses mix_columns inv_mix_columns
    × ((w : List ℕ) (n : ℕ) → Inverses (add_round_key w n) (add_round_key w n))

-- 5.3: deciphering undoes enciphering, and enciphering deciphering, for every key and block of bytes
abbrev pub CipherInverts : Type 0
CipherInverts = (key : List ℕ) → IsBlock key → Inverses (encipher key) (decipher key)

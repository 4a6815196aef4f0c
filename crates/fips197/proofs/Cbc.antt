-- Blocks of a list of bytes, and CBC: deciphering undoes enciphering, and the other way round.
--
--   block-byte, block-long    a block by its bytes, of which there are 16
--   block_of_bytes      16 bytes that are read one by one are the block
--   xor_block-block     two blocks xored are a block
--   xor_block-undoes    the same block xored twice is gone
--   cbc-inverts        the claim CbcInverts
--
-- Assumes nothing.
use mathlib.Core.Path.{◌≡◌, refl, sym, ap, ◌∙◌}
use mathlib.Core.List.{List}
use Prim.Native.Nat.{ℕ, ◌+◌, ◌*◌, ◌/◌, ◌%◌, ◌<◌}
use native.Mathlib.Omega.{arith}
use lib.ListN.{length, get_or}
use Rattle.std.proofs.lemmas.List.{ext_get_or}
use Rattle.bits.proofs.Bit.{xor-byte}
use Rattle.bits.proofs.Xor.{xor-cancel}
use Rattle.fips197.specs.Field.{◌xor◌}
use Rattle.fips197.specs.State.{at, IsBlock}
use Rattle.fips197.specs.Cipher.{encipher, decipher}
use Rattle.fips197.proofs.State.{at-state, state-cong, state-at, state-block, get_or-state}
use Rattle.fips197.proofs.Cipher.{cipher-inverts, decipher-block}
use Rattle.fips197.specs.Cbc.{xor_block, block_of, cbc_encipher, cbc_decipher, CbcInverts}

pub block-byte : (l : List ℕ) (n k : ℕ) → k < 16 → get_or (block_of l n) k 0 ≡ get_or l (n + k) 0
unfolding block_of
block-byte l n k h =
    let place : k % 4 + 4 * (k / 4) ≡ k = omega arith in
    get_or-state (λ r c. get_or l (n + (r + 4 * c)) 0) k h ∙ ap (λ (j : ℕ). get_or l (n + j) 0) place

pub block-long : (l : List ℕ) (n : ℕ) → length (block_of l n) ≡ 16
unfolding block_of
block-long l n = refl

pub block_of_bytes : (l : List ℕ) (n : ℕ) (b : List ℕ) → length b ≡ 16 → ((k : ℕ) → k < 16 → get_or b k 0 ≡ get_or l (n + k) 0) → b ≡ block_of l n
block_of_bytes l n b long h =
    ext_get_or 0 b (block_of l n) (long ∙ sym (block-long l n))
    (λ k lt. let lt' : k < 16 = omega arith in h k lt' ∙ sym (block-byte l n k lt'))

pub xor_block-block : (a b : List ℕ) → IsBlock a → IsBlock b → IsBlock (xor_block a b)
unfolding xor_block
xor_block-block a b ha hb =
    state-block (λ r c. at a r c xor at b r c) (λ r c hr hc. xor-byte (ha.bytes (r + 4 * c)) (hb.bytes (r + 4 * c)))

pub xor_block-undoes : (a b : List ℕ) → IsBlock a → xor_block (xor_block a b) b ≡ a
unfolding xor_block
xor_block-undoes a b ha =
    state-cong (λ r c. at (xor_block a b) r c xor at b r c) (at a)
    (λ r c hr hc. (λ i. at-state (λ r c. at a r c xor at b r c) r c hr hc i xor at b r c) ∙ xor-cancel (at a r c) (at b r c))
    ∙ state-at a ha.sixteen

pub cbc-inverts : CbcInverts
unfolding cbc_encipher cbc_decipher
cbc-inverts key chain hk hc = (
  λ b hb.
      ap (λ (x : List ℕ). xor_block x chain) ((cipher-inverts key hk).0 (xor_block b chain) (xor_block-block b chain hb hc))
      ∙ xor_block-undoes b chain hb,
  λ b hb. ap (encipher key) (xor_block-undoes (decipher key b) chain (decipher-block key hk b hb)) ∙ (cipher-inverts key hk).1 b hb,
)

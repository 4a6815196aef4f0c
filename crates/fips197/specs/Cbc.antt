-- NIST SP 800-38A section 6.2, the CBC mode, over FIPS 197's cipher.
--
--     xor_block a b                  the exclusive or of two blocks
--     block_of s n                   the 16 bytes of s from byte n on, and 0 for each past its end
--     cbc_encipher key chain b       C = CIPH(P xor chain)
--     cbc_decipher key chain b       P = CIPH^-1(C) xor chain
--     CbcInverts                    the claim that the two undo each other
--
-- chain is the ciphertext block before, or the initialization vector. Assumes nothing.
use Rattle.std.specs.Prelude.{List, ℕ, ◌+◌, ◌*◌, get_or}
use Rattle.fips197.specs.Field.{◌xor◌}
use Rattle.fips197.specs.State.{at, state, IsBlock}
use Rattle.fips197.specs.Cipher.{encipher, decipher}
use Rattle.fips197.specs.Claims.{Inverses}

unfoldable pub xor_block : List ℕ → List ℕ → List ℕ
xor_block a b = state (λ r c. at a r c xor at b r c)

unfoldable pub block_of : List ℕ → ℕ → List ℕ
block_of s n = state (λ r c. get_or s (n + (r + 4 * c)) 0)

unfoldable pub cbc_encipher : List ℕ → List ℕ → List ℕ → List ℕ
cbc_encipher key chain b = encipher key (xor_block b chain)

unfoldable pub cbc_decipher : List ℕ → List ℕ → List ℕ → List ℕ
cbc_decipher key chain b = xor_block (decipher key b) chain

-- deciphering undoes enciphering with the same key and chaining value, and the other way round, for blocks of bytes
abbrev pub CbcInverts : Type 0
CbcInverts =
    (key chain : List ℕ) → IsBlock key → IsBlock chain → Inverses (cbc_encipher key chain) (cbc_decipher key chain)

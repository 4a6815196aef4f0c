-- CBC deciphering of two blocks (NIST SP 800-38A section 6.2), as `cbc::cbc_decipher_two` hands them back. Assumes nothing.
use Rattle.std.specs.Prelude.{List, ℕ}
use Rattle.fips197.specs.Cbc.{block_of, cbc_decipher}
use Rattle.aes.specs.declared.TwoBlocks.{TwoBlocks}

-- the plaintexts of the first two blocks of the ciphertext s: the second is chained on the first
unfoldable pub cbc_decipher_two : List ℕ → List ℕ → List ℕ → TwoBlocks
cbc_decipher_two key chain s = record {
  first = cbc_decipher key chain (block_of s 0);
  second = cbc_decipher key (block_of s 0) (block_of s 16);
}

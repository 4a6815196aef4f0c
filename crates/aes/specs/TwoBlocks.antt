-- Two blocks deciphered with one key, as `aes::decipher_two` hands them back. Assumes nothing.
use Rattle.std.specs.Prelude.{List, ℕ}
use Rattle.fips197.specs.Cipher.{decipher}
use Rattle.aes.specs.declared.TwoBlocks.{TwoBlocks}

-- each block by itself, FIPS 197 section 5.3
unfoldable pub decipher_two : List ℕ → List ℕ → List ℕ → TwoBlocks
decipher_two key a b = record { first = decipher key a; second = decipher key b }

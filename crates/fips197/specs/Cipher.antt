-- FIPS 197 sections 5.1 and 5.3: the cipher and the inverse cipher, with 10 rounds.
--
--     round w n s          round n of the cipher, for n from 1 to 9                 5.1
--     rounds w s n         s after rounds 1 to n
--     encipher key b       the block b enciphered with the key                      5.1, Figure 5
--     inv_round w n s       round n of the inverse cipher, for n from 9 to 1         5.3
--     inv_rounds w n s      s after the inverse rounds n to 1
--     decipher key b       the block b deciphered with the key                      5.3, Figure 12
--
-- w is the key schedule. Assumes nothing.
use Rattle.std.specs.Prelude.{List, ℕ, zero, suc}
use Rattle.fips197.specs.State.{sub_bytes, inv_sub_bytes, shift_rows, inv_shift_rows, mix_columns, inv_mix_columns, add_round_key}
use Rattle.fips197.specs.KeyExpansion.{key_expansion}

unfoldable pub round : List ℕ → ℕ → List ℕ → List ℕ
round w n s = add_round_key w n (mix_columns (shift_rows (sub_bytes s)))

unfoldable pub rounds : List ℕ → List ℕ → ℕ → List ℕ
rounds w s zero = s
rounds w s (suc n) = round w (suc n) (rounds w s n)

-- the last round has no MixColumns
unfoldable pub last_round : List ℕ → List ℕ → List ℕ
last_round w s = add_round_key w 10 (shift_rows (sub_bytes s))

unfoldable pub cipher : List ℕ → List ℕ → List ℕ
cipher w b = last_round w (rounds w (add_round_key w 0 b) 9)

unfoldable pub encipher : List ℕ → List ℕ → List ℕ
encipher key b = cipher (key_expansion key) b

unfoldable pub inv_round : List ℕ → ℕ → List ℕ → List ℕ
inv_round w n s = inv_mix_columns (add_round_key w n (inv_sub_bytes (inv_shift_rows s)))

unfoldable pub inv_rounds : List ℕ → ℕ → List ℕ → List ℕ
inv_rounds w zero s = s
inv_rounds w (suc n) s = inv_rounds w n (inv_round w (suc n) s)

unfoldable pub inv_last_round : List ℕ → List ℕ → List ℕ
inv_last_round w s = add_round_key w 0 (inv_sub_bytes (inv_shift_rows s))

unfoldable pub inv_cipher : List ℕ → List ℕ → List ℕ
inv_cipher w b = inv_last_round w (inv_rounds w 9 (add_round_key w 10 b))

unfoldable pub decipher : List ℕ → List ℕ → List ℕ
decipher key b = inv_cipher (key_expansion key) b

-- FIPS 197 sections 3.4, 5.1.1 to 5.1.4 and 5.3.1 to 5.3.4: the state and the steps that transform it.
--
--     at s r c             the byte in row r and column c of the state s            3.4
--     state f              the state with f r c in row r and column c               3.4
--     sub_bytes s           5.1.1        inv_sub_bytes s        5.3.2
--     shift_rows s          5.1.2        inv_shift_rows s       5.3.1
--     mix_columns s         5.1.3        inv_mix_columns s      5.3.3        each column times the polynomial mixing, unmixing
--     add_round_key w n s    5.1.4, and its own inverse, 5.3.4
--     IsBlock s            s is 16 bytes
--
-- Assumes nothing.
use Rattle.std.specs.Prelude.{◌≡◌, List, [], ◌∷◌, ℕ, ◌+◌, ◌-◌, ◌*◌, ◌%◌, ◌<◌, length, get_or}
use Rattle.fips197.specs.Field.{◌xor◌, product}
use Rattle.fips197.specs.SBox.{s_box, inv_sbox}

-- a block, or the state, is a list of 16 bytes: byte r + 4c stands in row r and column c, 3.4
abbrev pub at : List ℕ → ℕ → ℕ → ℕ
at s r c = get_or s (r + 4 * c) 0

abbrev pub state : (ℕ → ℕ → ℕ) → List ℕ
state f =
    f 0 0 ∷ f 1 0 ∷ f 2 0 ∷ f 3 0 ∷ f 0 1 ∷ f 1 1 ∷ f 2 1 ∷ f 3 1 ∷ f 0 2 ∷ f 1 2 ∷ f 2 2 ∷ f 3 2 ∷ f 0 3 ∷ f 1 3 ∷ f 2 3 ∷ f 3 3 ∷ []

pub record IsBlock (s : List ℕ) : Type 0 where
  pub sixteen : length s ≡ 16
  pub bytes : (i : ℕ) → get_or s i 0 < 256

-- each byte by the S-box, 5.1.1
unfoldable pub sub_bytes : List ℕ → List ℕ
sub_bytes s = state (λ r c. s_box (at s r c))

unfoldable pub inv_sub_bytes : List ℕ → List ℕ
inv_sub_bytes s = state (λ r c. inv_sbox (at s r c))

-- row r moves r places to the left, 5.1.2 equation (5.3)
unfoldable pub shift_rows : List ℕ → List ℕ
shift_rows s = state (λ r c. at s r ((c + r) % 4))

-- row r moves r places to the right, 5.3.1 equation (5.8)
unfoldable pub inv_shift_rows : List ℕ → List ℕ
inv_shift_rows s = state (λ r c. at s r ((c + 4 - r) % 4))

-- byte r of a ⊗ (column c of s), 4.3 equation (4.12): the coefficient of s's byte j is that of x to the r - j in a, modulo 4
abbrev pub column_byte : List ℕ → List ℕ → ℕ → ℕ → ℕ
column_byte a s r c =
    product (get_or a (r % 4) 0) (at s 0 c) xor product (get_or a ((r + 3) % 4) 0) (at s 1 c) xor product (get_or a ((r + 2) % 4) 0) (at s 2 c)
    xor product (get_or a ((r + 1) % 4) 0) (at s 3 c)

-- {03}x³ + {01}x² + {01}x + {02}, lowest coefficient first, 5.1.3
abbrev pub mixing : List ℕ
mixing = 0x02 ∷ 0x01 ∷ 0x01 ∷ 0x03 ∷ []

unfoldable pub mix_columns : List ℕ → List ℕ
mix_columns s = state (column_byte mixing s)

-- {0b}x³ + {0d}x² + {09}x + {0e}, 5.3.3
abbrev pub unmixing : List ℕ
unmixing = 0x0e ∷ 0x09 ∷ 0x0d ∷ 0x0b ∷ []

unfoldable pub inv_mix_columns : List ℕ → List ℕ
inv_mix_columns s = state (column_byte unmixing s)

-- byte r of word i of the key schedule w, which is a list of bytes, four a word
abbrev pub key_byte : List ℕ → ℕ → ℕ → ℕ
key_byte w i r = get_or w (4 * i + r) 0

-- column c of the state is added to word 4n + c of the key schedule, 5.1.4 equation (5.7)
unfoldable pub add_round_key : List ℕ → ℕ → List ℕ → List ℕ
add_round_key w n s = state (λ r c. at s r c xor key_byte w (4 * n + c) r)

-- FIPS 197 section 5.2: the key expansion, word by word. A key of 4 words becomes a key schedule of 44.
--
--     rot_word, sub_word     the two functions of a word
--     rcon j               the round constant: x to the j - 1 and three zero bytes
--     next_word w i         word i of the schedule, from the words w before it
--     expand key n         the key and the n words after it
--     key_expansion key     all 44 words, as 176 bytes
--
-- Assumes nothing.
use Rattle.std.specs.Prelude.{List, [], ◌∷◌, ◌++◌, ℕ, zero, suc, ◌+◌, ◌-◌, ◌/◌, ◌%◌, get_or}
use Rattle.fips197.specs.Field.{◌xor◌, xtime}
use Rattle.fips197.specs.SBox.{s_box}
use Rattle.fips197.specs.State.{key_byte}

-- a word is a list of four bytes
abbrev pub word : (ℕ → ℕ) → List ℕ
word f = f 0 ∷ f 1 ∷ f 2 ∷ f 3 ∷ []

-- word i of the schedule w
abbrev pub word_of : List ℕ → ℕ → List ℕ
word_of w i = word (key_byte w i)

abbrev pub xor_word : List ℕ → List ℕ → List ℕ
xor_word u v = word (λ j. get_or u j 0 xor get_or v j 0)

-- [a0, a1, a2, a3] becomes [a1, a2, a3, a0]
abbrev pub rot_word : List ℕ → List ℕ
rot_word u = word (λ j. get_or u ((j + 1) % 4) 0)

-- each byte by the S-box
abbrev pub sub_word : List ℕ → List ℕ
sub_word u = word (λ j. s_box (get_or u j 0))

-- x to the n
unfoldable pub power_of_x : ℕ → ℕ
power_of_x zero = 1
power_of_x (suc n) = xtime (power_of_x n)

abbrev pub rcon : ℕ → List ℕ
rcon j = power_of_x (j - 1) ∷ 0 ∷ 0 ∷ 0 ∷ []

-- the word before, temp, as it is added to the word four before; rest is i mod 4, and j is i / 4
abbrev pub added : ℕ → ℕ → List ℕ → List ℕ
added zero j temp = xor_word (sub_word (rot_word temp)) (rcon j)
added (suc rest) j temp = temp

unfoldable pub next_word : List ℕ → ℕ → List ℕ
next_word w i = xor_word (word_of w (i - 4)) (added (i % 4) (i / 4) (word_of w (i - 1)))

abbrev pub with_word : List ℕ → ℕ → List ℕ
with_word w i = w ++ next_word w i

unfoldable pub expand : List ℕ → ℕ → List ℕ
expand key zero = key
expand key (suc n) = with_word (expand key n) (4 + n)

unfoldable pub key_expansion : List ℕ → List ℕ
key_expansion key = expand key 40

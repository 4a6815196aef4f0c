-- The key schedule: its length, its bytes, and how it grows.
--
--   append-bytes             two lists of bytes, one after the other, are bytes
--   next_word-length          a word is four numbers
--   added-within             inside a round key the word before is added as it is
--   next_word-take            the next word depends only on the words before it
--   expand-length            the key and n words are 16 + 4n bytes long
--   expand-bytes             a key of bytes gives a schedule of bytes
--
-- Assumes nothing.
use mathlib.Core.Path.{◌≡◌, refl, ap₂, ◌∙◌}
use mathlib.Core.List.{List, [], ◌∷◌, ◌++◌}
use Prim.Native.Nat.{ℕ, zero, suc, ◌+◌, ◌-◌, ◌*◌, ◌/◌, ◌%◌, ◌≤◌, ◌<◌}
use native.Mathlib.Omega.{arith}
use lib.Dec.{lit<}
use lib.ListN.{length, get_or, take, length-append}
use lib.Seq.{get_or-take}
use Rattle.bits.proofs.Bit.{xor-byte}
use Rattle.fips197.specs.Field.{◌xor◌}
use Rattle.fips197.specs.SBox.{s_box}
use Rattle.fips197.specs.State.{key_byte}
use Rattle.fips197.specs.KeyExpansion.{word, word_of, xor_word, rot_word, sub_word, power_of_x, rcon, added, next_word, expand, key_expansion}
use Rattle.fips197.proofs.Field.{xtime-byte}
use Rattle.fips197.proofs.SBox.{s_box-byte}

-- every element is a byte; past the end the 0 is one too
abbrev pub Bytes : List ℕ → Type 0
Bytes w = (i : ℕ) → get_or w i 0 < 256

pub append-bytes : (u v : List ℕ) → Bytes u → Bytes v → Bytes (u ++ v)
append-bytes [] v hu hv i = hv i
append-bytes (x ∷ u) v hu hv zero = hu 0
append-bytes (x ∷ u) v hu hv (suc i) = append-bytes u v (λ j. hu (suc j)) hv i

word_bytes : (f : ℕ → ℕ) → ((j : ℕ) → f j < 256) → Bytes (word f)
word_bytes f h zero = h 0
word_bytes f h (suc zero) = h 1
word_bytes f h (suc (suc zero)) = h 2
word_bytes f h (suc (suc (suc zero))) = h 3
word_bytes f h (suc (suc (suc (suc i)))) = lit< tt

xor_word-bytes : (u v : List ℕ) → Bytes u → Bytes v → Bytes (xor_word u v)
xor_word-bytes u v hu hv = word_bytes (λ j. get_or u j 0 xor get_or v j 0) (λ j. xor-byte (hu j) (hv j))

power_of_x-byte : (n : ℕ) → power_of_x n < 256
unfolding power_of_x
power_of_x-byte zero = lit< tt
power_of_x-byte (suc n) = xtime-byte (power_of_x n)

rcon-bytes : (j : ℕ) → Bytes (rcon j)
rcon-bytes j = word_bytes (λ k. get_or (rcon j) k 0) byte
  where
    byte : (k : ℕ) → get_or (rcon j) k 0 < 256
    byte zero = power_of_x-byte (j - 1)
    byte (suc zero) = lit< tt
    byte (suc (suc zero)) = lit< tt
    byte (suc (suc (suc zero))) = lit< tt
    byte (suc (suc (suc (suc k)))) = lit< tt

added-bytes : (rest j : ℕ) (temp : List ℕ) → Bytes temp → Bytes (added rest j temp)
added-bytes zero j temp h =
    xor_word-bytes (sub_word (rot_word temp)) (rcon j)
    (word_bytes (λ k. s_box (get_or (rot_word temp) k 0))
    (λ k. s_box-byte (get_or (rot_word temp) k 0) (word_bytes (λ k. get_or temp ((k + 1) % 4) 0) (λ k. h ((k + 1) % 4)) k)))
    (rcon-bytes j)
added-bytes (suc rest) j temp h = h

word_of-bytes : (w : List ℕ) → Bytes w → (i : ℕ) → Bytes (word_of w i)
word_of-bytes w h i = word_bytes (key_byte w i) (λ j. h (4 * i + j))

next_word-bytes : (w : List ℕ) → Bytes w → (i : ℕ) → Bytes (next_word w i)
unfolding next_word
next_word-bytes w h i =
    xor_word-bytes (word_of w (i - 4)) (added (i % 4) (i / 4) (word_of w (i - 1))) (word_of-bytes w h (i - 4))
    (added-bytes (i % 4) (i / 4) (word_of w (i - 1)) (word_of-bytes w h (i - 1)))

pub expand-bytes : (key : List ℕ) → Bytes key → (n : ℕ) → Bytes (expand key n)
unfolding expand
expand-bytes key h zero = h
expand-bytes key h (suc n) =
    append-bytes (expand key n) (next_word (expand key n) (4 + n)) (expand-bytes key h n)
    (next_word-bytes (expand key n) (expand-bytes key h n) (4 + n))

pub key_expansion-bytes : (key : List ℕ) → Bytes key → Bytes (key_expansion key)
unfolding key_expansion
key_expansion-bytes key h = expand-bytes key h 40

pub next_word-length : (w : List ℕ) (i : ℕ) → length (next_word w i) ≡ 4
unfolding next_word
next_word-length w i = refl

pub expand-length : (key : List ℕ) → length key ≡ 16 → (n : ℕ) → length (expand key n) ≡ 16 + 4 * n
unfolding expand
expand-length key h zero = h
expand-length key h (suc n) =
    length-append (expand key n) (next_word (expand key n) (4 + n))
    ∙ omega (arith, expand-length key h n, next_word-length (expand key n) (4 + n))

pub added-within : (rest j : ℕ) (temp : List ℕ) → (rest ≡ 0 → ⊥) → added rest j temp ≡ temp
added-within zero j temp h = absurd (h refl)
added-within (suc rest) j temp h = refl

word_of-take : (w : List ℕ) (i n : ℕ) → 4 * i + 3 < n → word_of (take n w) i ≡ word_of w i
word_of-take w i n h k =
    get_or-take n w (4 * i + 0) 0 (omega arith) k ∷ get_or-take n w (4 * i + 1) 0 (omega arith) k ∷ get_or-take n w (4 * i + 2) 0 (omega arith) k
    ∷ get_or-take n w (4 * i + 3) 0 (omega arith) k ∷ []

pub next_word-take : (w : List ℕ) (i : ℕ) → 4 ≤ i → next_word (take (4 * i) w) i ≡ next_word w i
unfolding next_word
next_word-take w i h =
    ap₂ (λ (u v : List ℕ). xor_word u (added (i % 4) (i / 4) v)) (word_of-take w (i - 4) (4 * i) (omega arith))
    (word_of-take w (i - 1) (4 * i) (omega arith))

-- Deciphering undoes enciphering, and the other way round, for every key and block of bytes.
--
--   round-block, ..                  every round takes blocks to blocks
--   undo-round, redo-round           an inverse round undoes a round up to the substitution of the state, and the other way
--   undo-rounds, redo-rounds         the same for n rounds
--   inv_rounds-step                   the inverse rounds n to 1 begin with round n
--   cipher-inverts                   the claim CipherInverts
--   encipher-block, decipher-block   the result on a block is a block
--
-- Assumes nothing.
use mathlib.Core.Path.{◌≡◌, refl, ap, ◌∙◌}
use mathlib.Core.List.{List}
use Prim.Native.Nat.{ℕ, zero, suc, ◌-◌, ◌<◌}
use native.Mathlib.Omega.{arith}
use Rattle.fips197.specs.State.{IsBlock, sub_bytes, inv_sub_bytes, shift_rows, inv_shift_rows, mix_columns, inv_mix_columns, add_round_key}
use Rattle.fips197.specs.KeyExpansion.{key_expansion}
use Rattle.fips197.specs.Cipher.{round, rounds, last_round, cipher, encipher, inv_round, inv_rounds, inv_last_round, inv_cipher, decipher}
use Rattle.fips197.specs.Claims.{Undoes, CipherInverts}
use Rattle.fips197.proofs.Steps.{sub_bytes-inverts, shift_rows-inverts, mix_columns-inverts, add_round_key-inverts, sub_bytes-block, inv_sub_bytes-block, shift_rows-block, inv_shift_rows-block, mix_columns-block, inv_mix_columns-block, add_round_key-block}
use Rattle.fips197.proofs.KeyExpansion.{Bytes, key_expansion-bytes}

-- SubBytes and ShiftRows together, and their inverses, as every round has them
abbrev moved : List ℕ → List ℕ
moved s = shift_rows (sub_bytes s)

abbrev moved_back : List ℕ → List ℕ
moved_back s = inv_sub_bytes (inv_shift_rows s)

moved-block : (s : List ℕ) → IsBlock s → IsBlock (moved s)
moved-block s h = shift_rows-block (sub_bytes s) (sub_bytes-block s h)

moved_back-block : (s : List ℕ) → IsBlock s → IsBlock (moved_back s)
moved_back-block s h = inv_sub_bytes-block (inv_shift_rows s) (inv_shift_rows-block s h)

undo-moved : Undoes moved_back moved
undo-moved s h = ap inv_sub_bytes (shift_rows-inverts.0 (sub_bytes s) (sub_bytes-block s h)) ∙ sub_bytes-inverts.0 s h

redo-moved : Undoes moved moved_back
redo-moved s h =
    ap shift_rows (sub_bytes-inverts.1 (inv_shift_rows s) (inv_shift_rows-block s h)) ∙ shift_rows-inverts.1 s h

-- the inverse rounds n to 1 begin with round n
pub inv_rounds-step : (w s : List ℕ) (n : ℕ) → 0 < n → inv_rounds w n s ≡ inv_rounds w (n - 1) (inv_round w n s)
unfolding inv_rounds
inv_rounds-step w s zero h = absurd (omega arith)
inv_rounds-step w s (suc n) h = ap (λ (k : ℕ). inv_rounds w k (inv_round w (suc n) s)) (last n)
  where
    last : (n : ℕ) → n ≡ suc n - 1
    last n = omega arith

module _ (w : List ℕ) (hw : Bytes w) where
  round-block : (n : ℕ) (s : List ℕ) → IsBlock s → IsBlock (round w n s)
  unfolding round
  round-block n s h = add_round_key-block w hw n (mix_columns (moved s)) (mix_columns-block (moved s) (moved-block s h))

  rounds-block : (n : ℕ) (s : List ℕ) → IsBlock s → IsBlock (rounds w s n)
  unfolding rounds
  rounds-block zero s h = h
  rounds-block (suc n) s h = round-block (suc n) (rounds w s n) (rounds-block n s h)

  inv_round-block : (n : ℕ) (s : List ℕ) → IsBlock s → IsBlock (inv_round w n s)
  unfolding inv_round
  inv_round-block n s h =
      inv_mix_columns-block (add_round_key w n (moved_back s)) (add_round_key-block w hw n (moved_back s) (moved_back-block s h))

  undo-round : (n : ℕ) (s : List ℕ) → IsBlock s → inv_round w n (moved (round w n s)) ≡ moved s
  unfolding round inv_round
  undo-round n s h =
      let mixed : List ℕ = mix_columns (moved s) in
      ap (λ (x : List ℕ). inv_mix_columns (add_round_key w n x)) (undo-moved (add_round_key w n mixed) (round-block n s h))
      ∙ ap inv_mix_columns ((add_round_key-inverts w n).0 mixed (mix_columns-block (moved s) (moved-block s h)))
      ∙ mix_columns-inverts.0 (moved s) (moved-block s h)

  redo-round : (n : ℕ) (s : List ℕ) → IsBlock s → round w n (moved_back (inv_round w n s)) ≡ moved_back s
  unfolding round inv_round
  redo-round n s h =
      let added : List ℕ = add_round_key w n (moved_back s) in
      let added-block : IsBlock added = add_round_key-block w hw n (moved_back s) (moved_back-block s h) in
      ap (λ (x : List ℕ). add_round_key w n (mix_columns x)) (redo-moved (inv_mix_columns added) (inv_round-block n s h))
      ∙ ap (add_round_key w n) (mix_columns-inverts.1 added added-block)
      ∙ (add_round_key-inverts w n).0 (moved_back s) (moved_back-block s h)

  undo-rounds : (n : ℕ) (s : List ℕ) → IsBlock s → inv_rounds w n (moved (rounds w s n)) ≡ moved s
  unfolding rounds inv_rounds
  undo-rounds zero s h = refl
  undo-rounds (suc n) s h =
      ap (inv_rounds w n) (undo-round (suc n) (rounds w s n) (rounds-block n s h)) ∙ undo-rounds n s h

  -- the rounds 1 to n from where the inverse rounds n to 1 of s ended
  redo-rounds : (n : ℕ) (s : List ℕ) → IsBlock s → rounds w (moved_back (inv_rounds w n s)) n ≡ moved_back s
  unfolding rounds inv_rounds
  redo-rounds zero s h = refl
  redo-rounds (suc n) s h =
      ap (round w (suc n)) (redo-rounds n (inv_round w (suc n) s) (inv_round-block (suc n) s h)) ∙ redo-round (suc n) s h

  inv_rounds-block : (n : ℕ) (s : List ℕ) → IsBlock s → IsBlock (inv_rounds w n s)
  unfolding inv_rounds
  inv_rounds-block zero s h = h
  inv_rounds-block (suc n) s h = inv_rounds-block n (inv_round w (suc n) s) (inv_round-block (suc n) s h)

  undo-cipher : Undoes (inv_cipher w) (cipher w)
  unfolding cipher inv_cipher last_round inv_last_round
  undo-cipher b h =
      let first : List ℕ = add_round_key w 0 b in
      let first_block : IsBlock first = add_round_key-block w hw 0 b h in
      let ninth : List ℕ = rounds w first 9 in
      ap (λ (x : List ℕ). add_round_key w 0 (moved_back (inv_rounds w 9 x)))
      ((add_round_key-inverts w 10).0 (moved ninth) (moved-block ninth (rounds-block 9 first first_block)))
      ∙ ap (λ (x : List ℕ). add_round_key w 0 (moved_back x)) (undo-rounds 9 first first_block)
      ∙ ap (add_round_key w 0) (undo-moved first first_block)
      ∙ (add_round_key-inverts w 0).0 b h

  redo-cipher : Undoes (cipher w) (inv_cipher w)
  unfolding cipher inv_cipher last_round inv_last_round
  redo-cipher b h =
      let first : List ℕ = add_round_key w 10 b in
      let first_block : IsBlock first = add_round_key-block w hw 10 b h in
      let ninth : List ℕ = inv_rounds w 9 first in
      ap (λ (x : List ℕ). add_round_key w 10 (moved (rounds w x 9)))
      ((add_round_key-inverts w 0).0 (moved_back ninth) (moved_back-block ninth (inv_rounds-block 9 first first_block)))
      ∙ ap (λ (x : List ℕ). add_round_key w 10 (moved x)) (redo-rounds 9 first first_block)
      ∙ ap (add_round_key w 10) (redo-moved first first_block)
      ∙ (add_round_key-inverts w 10).0 b h

  cipher-block : (b : List ℕ) → IsBlock b → IsBlock (cipher w b)
  unfolding cipher last_round
  cipher-block b h =
      let ninth : List ℕ = rounds w (add_round_key w 0 b) 9 in
      add_round_key-block w hw 10 (moved ninth)
      (moved-block ninth (rounds-block 9 (add_round_key w 0 b) (add_round_key-block w hw 0 b h)))

  inv_cipher-block : (b : List ℕ) → IsBlock b → IsBlock (inv_cipher w b)
  unfolding inv_cipher inv_last_round
  inv_cipher-block b h =
      let ninth : List ℕ = inv_rounds w 9 (add_round_key w 10 b) in
      add_round_key-block w hw 0 (moved_back ninth)
      (moved_back-block ninth (inv_rounds-block 9 (add_round_key w 10 b) (add_round_key-block w hw 10 b h)))

pub cipher-inverts : CipherInverts
unfolding encipher decipher
cipher-inverts key h =
    let hw : Bytes (key_expansion key) = key_expansion-bytes key h.bytes in
    (undo-cipher (key_expansion key) hw, redo-cipher (key_expansion key) hw)

pub encipher-block : (key : List ℕ) → IsBlock key → (b : List ℕ) → IsBlock b → IsBlock (encipher key b)
unfolding encipher
encipher-block key h = cipher-block (key_expansion key) (key_expansion-bytes key h.bytes)

pub decipher-block : (key : List ℕ) → IsBlock key → (b : List ℕ) → IsBlock b → IsBlock (decipher key b)
unfolding decipher
decipher-block key h = inv_cipher-block (key_expansion key) (key_expansion-bytes key h.bytes)

-- Part 2 of the authentication is answered 0 exactly for the right ciphertext: the claim ProofExact of specs/CallClaims.antt.
--
--   same_bytes-equal, equal-same_bytes    same_bytes tells whether two lists are equal
--   key-block, sent-block, rotated-block, deciphered-block    what part 2 works on is blocks
--   enciphered, deciphered              a block that deciphers to p is p enciphered, and the other way round
--   proof-number                        the number of a part 2 that passes every check but perhaps its own last one
--   proof-exact                         the claim
--
-- Assumes nothing.
use mathlib.Core.Path.{◌≡◌, refl, sym, ap, ◌∙◌}
use mathlib.Core.List.{List, [], ◌∷◌}
use mathlib.Core.Bool.{Bool, true, false, not, true≢false}
use Prim.Native.Nat.{ℕ, zero, suc, ◌+◌, ◌-◌, ◌*◌, ◌%◌}
use Rattle.std.proofs.lemmas.Bool.{and_parts}
use borrow.Author.Tests.{eqb-true, eq-eqb, not-false}
use lib.Dec.{eqb}
use lib.ListN.{get_or, drop}
use lib.Seq.{get_or-drop}
use Rattle.crc.specs.CrcA.{with_crc}
use Rattle.fips197.specs.State.{IsBlock}
use Rattle.fips197.specs.Cipher.{decipher}
use Rattle.fips197.specs.Cbc.{block_of, cbc_encipher, cbc_decipher}
use Rattle.fips197.proofs.State.{state-block}
use Rattle.fips197.proofs.Cipher.{decipher-block}
use Rattle.fips197.proofs.Cbc.{xor_block-block, cbc-inverts}
use Rattle.model.specs.declared.Tag.{Tag}
use Rattle.model.specs.declared.Command.TheVariants.{Proof}
use Rattle.model.specs.Map.{mf0aes20}
use Rattle.model.specs.Record.{zeros, is_waiting, key_number}
use Rattle.model.specs.Numbers.{number_if, first}
use Rattle.model.specs.Telling.{told, allowed, told_number}
use Rattle.model.specs.Authentication.{limit_reached, logged_in, page_key, key_of, rotated, same_bytes, proof_first, proof_second, proof_number, proved}
use Rattle.model.specs.Frame.{bytes, command_number, command_done, earlier_number, said_of, frame, tag_after}
use Rattle.model.specs.Calls.{Bytes}
use Rattle.model.specs.CallClaims.{Asked, RightProof, ProofExact}
use Rattle.model.proofs.Parts.{frame_number}
use Rattle.model.proofs.Numbers.{decide-number, decide-done}
use Rattle.model.proofs.Carried.{number_if-zero}
use Rattle.model.proofs.Sound.{zeros-block}

same_bytes-equal : (x y : List ℕ) → same_bytes x y ≡ true → x ≡ y
unfolding same_bytes
same_bytes-equal [] [] h = refl
same_bytes-equal [] (y ∷ ys) h = absurd (true≢false (sym h))
same_bytes-equal (x ∷ xs) [] h = absurd (true≢false (sym h))
same_bytes-equal (x ∷ xs) (y ∷ ys) h =
    let e = and_parts (eqb x y) (same_bytes xs ys) h in
    cc (eqb-true x y e.0, same_bytes-equal xs ys e.1)

equal-same_bytes : (x : List ℕ) → same_bytes x x ≡ true
unfolding same_bytes
equal-same_bytes [] = refl
equal-same_bytes (x ∷ xs) = rw (eq-eqb x x refl) (equal-same_bytes xs)

-- ---- blocks

key-block : (tag : Tag) (s : List ℕ) (k : ℕ) → Bytes s → IsBlock tag.originality → IsBlock (key_of mf0aes20 tag s k)
unfolding key_of page_key
key-block tag s zero hs ho = state-block (λ r c. get_or s (4 * mf0aes20.key0 + (15 - (r + 4 * c))) 0) (λ r c _ _. hs _)
key-block tag s (suc zero) hs ho = state-block (λ r c. get_or s (4 * mf0aes20.key1 + (15 - (r + 4 * c))) 0) (λ r c _ _. hs _)
key-block tag s (suc (suc k)) hs ho = ho

sent-block : (f : List ℕ) (n : ℕ) → Bytes f → IsBlock (block_of (drop 1 f) n)
unfolding block_of
sent-block f n h =
    state-block (λ r c. get_or (drop 1 f) (n + (r + 4 * c)) 0) (λ r c _ _. rw (get_or-drop 1 f (n + (r + 4 * c)) 0) (h _))

rotated-block : (b : List ℕ) → IsBlock b → IsBlock (rotated b)
unfolding rotated
rotated-block b h = state-block (λ r c. get_or b ((r + 4 * c + 1) % 16) 0) (λ r c _ _. h.bytes _)

module _ (key chain : List ℕ) (hk : IsBlock key) (hc : IsBlock chain) where
  deciphered-block : (b : List ℕ) → IsBlock b → IsBlock (cbc_decipher key chain b)
  unfolding cbc_decipher
  deciphered-block b hb = xor_block-block (decipher key b) chain (decipher-block key hk b hb) hc

  enciphered : (b p : List ℕ) → IsBlock b → cbc_decipher key chain b ≡ p → b ≡ cbc_encipher key chain p
  enciphered b p hb e = sym ((cbc-inverts key chain hk hc).1 b hb) ∙ ap (cbc_encipher key chain) e

  deciphered : (b p : List ℕ) → IsBlock p → b ≡ cbc_encipher key chain p → cbc_decipher key chain b ≡ p
  deciphered b p hp e = ap (cbc_decipher key chain) e ∙ (cbc-inverts key chain hk hc).0 p hp

-- ---- part 2

-- the two blocks behind the AFh byte
abbrev sent₁ : List ℕ → List ℕ
sent₁ f = block_of (drop 1 f) 0

abbrev sent₂ : List ℕ → List ℕ
sent₂ f = block_of (drop 1 f) 16

module _ (tag : Tag) (k : ℕ) (s f random : List ℕ) (room : ℕ) (h : Asked tag k s f random room) where
  abbrev key : List ℕ
  key = key_of mf0aes20 tag s k

  key-is : IsBlock key
  key-is = key-block tag s k h.store h.original

  sent₁-is : IsBlock (sent₁ f)
  sent₁-is = sent-block f 0 h.frame'

  awake : is_waiting tag.state ≡ false
  awake = rw h.challenged

  permitted : allowed tag.state Proof ≡ true
  unfolding allowed
  permitted = rw h.challenged

  -- part 2's own last check: the second block deciphered is the challenge rotated
  abbrev right : Bool
  right = same_bytes (proof_second mf0aes20 tag s f) (rotated tag.challenge)

  limit-number : limit_reached mf0aes20 tag s ≡ true → frame_number mf0aes20 tag s f random room ≡ 11
  unfolding earlier_number frame_number first number_if told told_number command_number proof_number
  limit-number reached = rw (h.fits, awake, h.whole, h.code, permitted, h.long, reached)

  proof_first-is : proof_first mf0aes20 tag s f ≡ cbc_decipher key zeros (sent₁ f)
  unfolding proof_first
  proof_first-is = rw h.challenged

  proof_second-is : proof_second mf0aes20 tag s f ≡ cbc_decipher key (sent₁ f) (sent₂ f)
  unfolding proof_second
  proof_second-is = rw h.challenged

  module _ (below : limit_reached mf0aes20 tag s ≡ false) where
    proof-number : frame_number mf0aes20 tag s f random room ≡ number_if (not right) 8
    unfolding earlier_number frame_number first number_if told told_number command_number proof_number
    proof-number = rw (h.fits, awake, h.whole, h.code, permitted, h.long, below)

    zero_right : frame_number mf0aes20 tag s f random room ≡ 0 → RightProof tag k s f (cbc_decipher key zeros (sent₁ f))
    zero_right z =
        let same = same_bytes-equal _ _ (not-false right (number_if-zero (not right) 7 (sym proof-number ∙ z))) in
        record {
          block = deciphered-block key zeros key-is zeros-block (sent₁ f) sent₁-is;
          first = enciphered key zeros key-is zeros-block (sent₁ f) _ sent₁-is refl;
          second = enciphered key (sent₁ f) key-is sent₁-is (sent₂ f) _ (sent-block f 16 h.frame') (sym proof_second-is ∙ same);
        }

    module _ (A : List ℕ) (r : RightProof tag k s f A) where
      right_zero : frame_number mf0aes20 tag s f random room ≡ 0
      unfolding number_if
      right_zero =
          let C = tag.challenge in
          let same = deciphered key (sent₁ f) key-is sent₁-is (sent₂ f) (rotated C) (rotated-block C h.challenge) r.second in
          proof-number ∙ rw (proof_second-is, same, equal-same_bytes (rotated C))

      right-said : (frame tag s f random room).said ≡ bytes (with_crc (0x00 ∷ cbc_encipher key zeros (rotated A)))
      unfolding frame told command_done proved said_of
      right-said =
          let same = deciphered key zeros key-is zeros-block (sent₁ f) A r.block r.first in
          rw (decide-done mf0aes20 tag s f random room right_zero, h.code, proof_first-is, same, ap key_number h.challenged)

      right-state : (frame tag s f random room).tag.state ≡ logged_in k
      unfolding frame tag_after told command_done proved
      right-state = rw (decide-done mf0aes20 tag s f random room right_zero, h.code, ap key_number h.challenged)

pub proof-exact : ProofExact
unfolding frame
proof-exact tag k s f random room h =
    let e = decide-number mf0aes20 tag s f random room in (
      λ below. (
        (λ z. (_, zero_right tag k s f random room h below (sym e ∙ z))),
        (λ A r. record {
          number = e ∙ right_zero tag k s f random room h below A r;
          said = right-said tag k s f random room h below A r;
          state = right-state tag k s f random room h below A r;
        }),
      ),
      λ reached. e ∙ limit-number tag k s f random room h reached,
    )

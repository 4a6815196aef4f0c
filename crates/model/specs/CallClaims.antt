-- Claims about single frames, beside demand 1, and about the keys.
--
--     ReadCntLowFirst     READ_CNT's three bytes are the counter, low byte first
--     ProofExact          part 2 is answered 0 exactly for the right ciphertext, and what it then replies
--     RandomIdHides       with Random ID on in ACTIVE, no reply to READ or FAST_READ tells the first nine bytes
--     KeysHidden          no reply to READ or FAST_READ tells a byte of the key pages, in any state
--     ChallengeDropped    challenge bytes are zero outside CHALLENGED after any number but 1 and 10
--     KeyOrder            the keys that 009 8.6.3's WRITEs leave
--
-- proofs/CallClaims.antt proves each. Assumes nothing.
use Rattle.std.specs.Prelude.{◌≡◌, List, [], ◌∷◌, ◌++◌, true, false, ◌⊎◌, ℕ, ◌+◌, ◌*◌, ◌≤◌, ◌<◌, length, get_or, drop, replicate}
use Rattle.crc.specs.CrcA.{with_crc}
use Rattle.fips197.specs.State.{IsBlock}
use Rattle.fips197.specs.Cbc.{block_of, cbc_encipher}
use Rattle.model.specs.declared.Tag.{Tag}
use Rattle.model.specs.declared.State.TheVariants.{Challenged}
use Rattle.model.specs.declared.Command.TheVariants.{Read, FastRead, ReadCnt, Proof}
use Rattle.model.specs.Map.{mf0aes20}
use Rattle.model.specs.Settings.{random_id_on}
use Rattle.model.specs.Record.{zeros, is_active, is_challenged, counter}
use Rattle.model.specs.Telling.{damaged, code_of}
use Rattle.model.specs.Authentication.{key_of, rotated, limit_reached, logged_in}
use Rattle.model.specs.Frame.{bytes, misfit, Outcome, frame}
use Rattle.model.specs.Calls.{Bytes}
use Rattle.model.specs.CaseImages.{hex}

-- READ_CNT answered 0
abbrev pub ReadCntLowFirst : Type 0
ReadCntLowFirst =
    (tag : Tag) (s f random : List ℕ) (room : ℕ) → let o = frame tag s f random room in
    get_or f 0 0 ≡ code_of ReadCnt → o.number ≡ 0
    → record {
      b0 : ℕ;
      b1 : ℕ;
      b2 : ℕ;
      said : o.said ≡ bytes (with_crc (b0 ∷ b1 ∷ b2 ∷ []));
      value : b0 + 256 * b1 + 65536 * b2 ≡ counter tag (get_or f 1 0);
      small : (b0 < 256) × (b1 < 256) × (b2 < 256);
    }

-- a tag in CHALLENGED with key number k, that is given an undamaged part 2 with well-sized buffers
pub record Asked (tag : Tag) (k : ℕ) (s f random : List ℕ) (room : ℕ) : Type 0 where
  pub challenged : tag.state ≡ Challenged k
  pub code : get_or f 0 0 ≡ code_of Proof
  pub long : length f ≡ 35
  pub whole : damaged f ≡ false
  pub fits : misfit mf0aes20 tag s random room ≡ false
  pub store : Bytes s
  pub original : IsBlock tag.originality
  pub challenge : IsBlock tag.challenge
  pub frame' : Bytes f

-- bytes 1 to 32 of f are A and then the challenge rotated left by one byte, enciphered in CBC mode with the stored key from a zero IV
pub record RightProof (tag : Tag) (k : ℕ) (s f A : List ℕ) : Type 0 where
  pub block : IsBlock A
  pub first : block_of (drop 1 f) 0 ≡ cbc_encipher (key_of mf0aes20 tag s k) zeros A
  pub second : block_of (drop 1 f) 16 ≡ cbc_encipher (key_of mf0aes20 tag s k) (block_of (drop 1 f) 0) (rotated tag.challenge)

-- what a right proof for A is answered with
pub record Proved (tag : Tag) (k : ℕ) (s A : List ℕ) (o : Outcome) : Type 0 where
  pub number : o.number ≡ 0
  -- 00h and A rotated, enciphered
  pub said : o.said ≡ bytes (with_crc (0x00 ∷ cbc_encipher (key_of mf0aes20 tag s k) zeros (rotated A)))
  pub state : o.tag.state ≡ logged_in k

abbrev pub ProofExact : Type 0
ProofExact =
    (tag : Tag) (k : ℕ) (s f random : List ℕ) (room : ℕ) → Asked tag k s f random room → let o = frame tag s f random room in
    -- the limit not reached: answered 0, the frame is a right proof for some A, and a right proof for A is answered so
    (limit_reached mf0aes20 tag s ≡ false
    → (o.number ≡ 0 → (A : List ℕ) × RightProof tag k s f A) × ((A : List ℕ) → RightProof tag k s f A → Proved tag k s A o))
    -- the limit reached: 11, for a right proof too
    × (limit_reached mf0aes20 tag s ≡ true → o.number ≡ 11)

-- a READ or FAST_READ frame
abbrev pub Reads : List ℕ → Type 0
Reads f = (get_or f 0 0 ≡ code_of Read) ⊎ (get_or f 0 0 ≡ code_of FastRead)

-- two stores of one length that agree at every place with the property Q
pub record AgreeWhere (Q : ℕ → Type 0) (s t : List ℕ) : Type 0 where
  pub long : length s ≡ length t
  pub same : (i : ℕ) → Q i → get_or s i 0 ≡ get_or t i 0

-- the same number and the same reply from both stores
abbrev pub ReadAlike : Tag → List ℕ → List ℕ → Type 0
ReadAlike tag s t =
    (f random : List ℕ) (room : ℕ) → Reads f
    → ((frame tag s f random room).number ≡ (frame tag t f random room).number) × ((frame tag s f random room).said ≡ (frame tag t f random room).said)

abbrev pub RandomIdHides : Type 0
RandomIdHides =
    (tag : Tag) (s t : List ℕ) → is_active tag.state ≡ true → random_id_on mf0aes20 s ≡ true → AgreeWhere (λ i. 9 ≤ i) s t
    → ReadAlike tag s t

abbrev pub KeysHidden : Type 0
KeysHidden = (tag : Tag) (s t : List ℕ) → AgreeWhere (λ i. (i < 192) ⊎ (224 ≤ i)) s t → ReadAlike tag s t

abbrev pub ChallengeDropped : Type 0
ChallengeDropped =
    (tag : Tag) (s f random : List ℕ) (room : ℕ) → let o = frame tag s f random room in
    (o.number ≡ 1 → ⊥) → (o.number ≡ 10 → ⊥) → is_challenged o.tag.state ≡ false → o.tag.challenge ≡ zeros

-- 0Fh, 0Eh .. 00h in pages 30h to 33h are DataProtKey 00h, 01h .. 0Fh, and in pages 34h to 37h they are that UIDRetrKey
abbrev pub KeyOrder : Type 0
KeyOrder =
    (tag : Tag) → let k = hex 16 0x0f0e0d0c_0b0a0908_07060504_03020100 in let s = replicate 192 0 ++ k ++ k in
    (key_of mf0aes20 tag s 0 ≡ hex 16 0x00010203_04050607_08090a0b_0c0d0e0f) × (key_of mf0aes20 tag s 1 ≡ hex 16 0x00010203_04050607_08090a0b_0c0d0e0f)

-- The claims of specs/Claims.antt, each under its name in lower case, and these laws.
--
--   head-long, bytes-long    the first part has 16 bytes, and the whole 48
--   blocks-long              three blocks one behind the other
--   event-bytes, ended-bytes the bytes of a record behind an event, and behind a refusal: the stored ones but the count are kept
--   bytes-hold               any bytes hold a record as a program has it
--   handed-kept, handed-written
--                            the record buffer after a number that keeps it, and after another
--   state-of-byte            a state that exists is that of its state byte and its key number
--
-- Assumes nothing.
use mathlib.Core.Path.{◌≡◌, refl, sym, ap, ◌∙◌}
use mathlib.Core.List.{List, [], ◌∷◌, ◌++◌}
use mathlib.Core.Bool.{true, false, true≢false}
use Prim.Native.Nat.{ℕ, zero, suc, ◌+◌, ◌*◌, ◌^◌, ◌≤◌, ◌<◌}
use native.Mathlib.Omega.{arith}
use borrow.Author.Tests.{ne_eqb}
use lib.Dec.{eqb}
use lib.ListN.{length, get_or, take, drop, length-append, length-drop}
use lib.Seq.{take_all, take_at, drop-cons, drop-append-add}
use Rattle.fields.proofs.Fields.{number-two, number-four}
use Rattle.fips197.proofs.Cbc.{block-byte}
use Rattle.model.specs.declared.Tag.{Tag}
use Rattle.model.specs.declared.State.{State}
use Rattle.model.specs.declared.State.TheVariants.{Waiting, Active, Traceable, Authenticated, Challenged, Unknown}
use Rattle.model.specs.Record.{zeros, key_number, exists, counter, fleeting}
use Rattle.fips197.specs.Cbc.{block_of}
use Rattle.model.specs.Counters.{low_first, from_low}
use Rattle.model.specs.Image.{number_at}
use Rattle.model.specs.Calls.{Bytes}
use Rattle.model.proofs.Image.{drop-bytes, from_low-lt, from_low-low_first, low_first-from_low, block-part, join, three-elements}
use Rattle.c_record.specs.Record.{record_size, state_of, state_byte, record_of, head_of, bytes_of, keeps, handed_back}
use Rattle.c_record.specs.Claims.{Holds, RecordLowFirst, DecodeAfterEncode, UnusedZero, EncodeAfterDecode}

pub head-long : (cs : List ℕ) (failed : ℕ) (st : State) → length (head_of cs failed st) ≡ 16
unfolding head_of
head-long cs failed st = refl

-- three blocks one behind the other
pub blocks-long : (x y z : List ℕ) → length x ≡ 16 → length y ≡ 16 → length z ≡ 16 → length (x ++ y ++ z) ≡ record_size
blocks-long x y z hx hy hz = omega (arith, length-append (x ++ y) z, length-append x y)

pub bytes-long : (tag : Tag) → length tag.originality ≡ 16 → length tag.challenge ≡ 16 → length (bytes_of tag) ≡ record_size
unfolding bytes_of
bytes-long tag = blocks-long (head_of tag.counters tag.failed tag.state) tag.originality tag.challenge (head-long tag.counters tag.failed tag.state)

-- ---- decode after encode

pub state-of-byte : (st : State) → exists st ≡ true → state_of (state_byte st) (key_number st) ≡ st
unfolding state_of exists
state-of-byte Waiting h = refl
state-of-byte Active h = refl
state-of-byte Traceable h = refl
state-of-byte Authenticated h = refl
state-of-byte (Challenged k) h = refl
state-of-byte (Unknown n) h = absurd (true≢false (sym h))

module _ (tag : Tag) (h : Holds tag) where
  original-held : block_of (bytes_of tag) 16 ≡ tag.originality
  unfolding bytes_of head_of
  original-held =
      block-part (bytes_of tag) 16 (omega (arith, bytes-long tag h.original h.challenge))
      ∙ take_at tag.originality tag.challenge 16 h.original

  challenge-held : block_of (bytes_of tag) 32 ≡ tag.challenge
  unfolding bytes_of head_of
  challenge-held =
      let o = tag.originality in
      let c = tag.challenge in
      let end : 16 ≡ length o + 0 = omega (arith, h.original) in
      block-part (bytes_of tag) 32 (omega (arith, bytes-long tag h.original h.challenge))
      ∙ ap (λ (n : ℕ). take 16 (drop n (o ++ c))) end
      ∙ ap (take 16) (drop-append-add o c 0)
      ∙ take_all 16 c (omega (arith, h.challenge))

  counters-held : (record_of (bytes_of tag)).counters ≡ tag.counters
  unfolding record_of bytes_of head_of
  counters-held =
      let held : (n : ℕ) → from_low (low_first 4 (counter tag n)) ≡ counter tag n = λ n. from_low-low_first 4 (counter tag n) (omega (arith, h.counters n)) in
      (λ i. held 0 i ∷ held 1 i ∷ held 2 i ∷ []) ∙ three-elements tag.counters h.three

  failed-held : (record_of (bytes_of tag)).failed ≡ tag.failed
  unfolding record_of bytes_of head_of
  failed-held = from_low-low_first 2 tag.failed (omega (arith, h.failed))

  state-held : exists tag.state ≡ true → (record_of (bytes_of tag)).state ≡ tag.state
  unfolding record_of bytes_of head_of
  state-held e = state-of-byte tag.state e

pub decode-after-encode : DecodeAfterEncode
unfolding record_of
decode-after-encode tag h e = λ i. record {
  counters = counters-held tag h i;
  failed = failed-held tag h i;
  originality = original-held tag h i;
  state = state-held tag h e i;
  challenge = challenge-held tag h i;
}

-- ---- encode after decode

above : (n k : ℕ) → 5 ≤ n → state_of n k ≡ Unknown n
unfolding state_of
above n k h =
    let other : (m : ℕ) → m < 5 → eqb n m ≡ false = λ m l. ne_eqb n m (λ e. omega arith) in
    simp (other 0 (omega arith), other 1 (omega arith), other 2 (omega arith), other 3 (omega arith), other 4 (omega arith))

byte-of-state : (n k : ℕ) → state_byte (state_of n k) ≡ n
unfolding state_of
byte-of-state zero k = refl
byte-of-state (suc zero) k = refl
byte-of-state (suc (suc zero)) k = refl
byte-of-state (suc (suc (suc zero))) k = refl
byte-of-state (suc (suc (suc (suc zero)))) k = refl
byte-of-state (suc (suc (suc (suc (suc n))))) k = ap state_byte (above _ k (omega arith))

key-of-state : (n k : ℕ) → ((n ≡ 4 → ⊥) → k ≡ 0) → key_number (state_of n k) ≡ k
unfolding state_of
key-of-state zero k h = sym (h (λ e. omega arith))
key-of-state (suc zero) k h = sym (h (λ e. omega arith))
key-of-state (suc (suc zero)) k h = sym (h (λ e. omega arith))
key-of-state (suc (suc (suc zero))) k h = sym (h (λ e. omega arith))
key-of-state (suc (suc (suc (suc zero)))) k h = refl
key-of-state (suc (suc (suc (suc (suc n))))) k h = ap key_number (above (suc (suc (suc (suc (suc n))))) k (omega arith)) ∙ sym (h (λ e. omega arith))

module _ (b : List ℕ) (size : length b ≡ record_size) (h : Bytes b) where
  number-part : (k j : ℕ) → k + j ≤ record_size → low_first j (number_at b k j) ≡ take j (drop k b)
  number-part k j fits = low_first-from_low j (drop k b) (drop-bytes b k h) (rw length-drop (omega arith))

  counters-part : low_first 4 (number_at b 0 4) ++ low_first 4 (number_at b 4 4) ++ low_first 4 (number_at b 8 4) ≡ take 12 b
  counters-part = join b _ _ 8 4 (join b _ _ 4 4 (number-part 0 4 (omega arith)) (number-part 4 4 (omega arith))) (number-part 8 4 (omega arith))

  numbers-part : low_first 4 (number_at b 0 4) ++ low_first 4 (number_at b 4 4) ++ low_first 4 (number_at b 8 4) ++ low_first 2 (number_at b 12 2) ≡ take 14 b
  numbers-part = join b _ _ 12 2 counters-part (number-part 12 2 (omega arith))

  -- an event keeps the stored bytes as they are, and writes the others anew
  pub event-bytes : (st : State)
      → bytes_of (fleeting st zeros (record_of b)) ≡ take 14 b ++ (state_byte st ∷ key_number st ∷ []) ++ take 16 (drop 16 b) ++ zeros
  unfolding bytes_of head_of record_of
  event-bytes st = λ i. numbers-part i ++ (state_byte st ∷ key_number st ∷ []) ++ block-part b 16 (omega arith) i ++ zeros

  -- and so with another count
  pub ended-bytes : (failed : ℕ) (tag : Tag) → tag.counters ≡ (record_of b).counters → tag.failed ≡ failed → tag.originality ≡ (record_of b).originality
      → tag.state ≡ Waiting → tag.challenge ≡ zeros
      → bytes_of tag ≡ take 12 b ++ low_first 2 failed ++ (0 ∷ 0 ∷ []) ++ take 16 (drop 16 b) ++ zeros
  unfolding bytes_of head_of record_of
  ended-bytes failed tag c f o s ch =
      (λ i. head_of (c i) (f i) (s i) ++ o i ++ ch i)
      ∙ (λ i. counters-part i ++ low_first 2 failed ++ (0 ∷ 0 ∷ []) ++ block-part b 16 (omega arith) i ++ zeros)

module _ (b : List ℕ) (size : length b ≡ record_size) (h : Bytes b) (unused : UnusedZero b) where
  state-part : state_byte (state_of (get_or b 14 0) (get_or b 15 0)) ∷ key_number (state_of (get_or b 14 0) (get_or b 15 0)) ∷ [] ≡ take 2 (drop 14 b)
  state-part =
      rw (byte-of-state (get_or b 14 0) (get_or b 15 0), key-of-state (get_or b 14 0) (get_or b 15 0) unused)
      (sym (rw (drop-cons b 14 0 (omega arith), drop-cons b 15 0 (omega arith))))

  head-part : head_of (record_of b).counters (record_of b).failed (record_of b).state ≡ take 16 b
  unfolding head_of record_of
  head-part = join b _ _ 14 2 (numbers-part b size h) state-part

  pub printed-again : bytes_of (record_of b) ≡ b
  unfolding bytes_of record_of
  printed-again =
      join b _ _ 32 16 (join b _ _ 16 16 head-part (block-part b 16 (omega arith))) (block-part b 32 (omega arith))
      ∙ take_all record_size b (omega arith)

pub encode-after-decode : EncodeAfterDecode
encode-after-decode b size h unused = printed-again b size h unused

-- ---- what bytes hold

-- the places of a number's bytes
pub four_bytes : (b : List ℕ) (n : ℕ)
    → number_at b n 4 ≡ get_or b n 0 + 256 * get_or b (n + 1) 0 + 65536 * get_or b (n + 2) 0 + 16777216 * get_or b (n + 3) 0
four_bytes b n =
    let e : n + 2 + 1 ≡ n + 3 = omega arith in
    omega (arith, number-four b n, number-two b n, rw e at (number-two b (n + 2)))

pub record-low-first : RecordLowFirst
unfolding record_of
record-low-first b = (four_bytes b 0, four_bytes b 4, four_bytes b 8, number-two b 12, block-byte b 16, block-byte b 32)

three-low : (a b c n : ℕ) → a < 2 ^ 32 → b < 2 ^ 32 → c < 2 ^ 32 → get_or (a ∷ b ∷ c ∷ []) n 0 < 2 ^ 32
three-low a b c zero ha hb hc = ha
three-low a b c (suc zero) ha hb hc = hb
three-low a b c (suc (suc zero)) ha hb hc = hc
three-low a b c (suc (suc (suc n))) ha hb hc = omega arith

pub bytes-hold : (b : List ℕ) → Bytes b → Holds (record_of b)
unfolding record_of block_of
bytes-hold b h = record {
  three = refl;
  counters =
      let low : (k : ℕ) → number_at b k 4 < 2 ^ 32 = λ k. from_low-lt 4 (drop k b) (drop-bytes b k h) in
      λ n. three-low _ _ _ n (low 0) (low 4) (low 8);
  failed = from_low-lt 2 (drop 12 b) (drop-bytes b 12 h);
  original = refl;
  challenge = refl;
}

-- ---- the record after a call

pub handed-kept : (n : ℕ) (tag : Tag) (b : List ℕ) → keeps n ≡ true → handed_back n tag b ≡ b
unfolding handed_back
handed-kept n tag b h = rw h

pub handed-written : (n : ℕ) (tag : Tag) (b : List ℕ) → keeps n ≡ false → handed_back n tag b ≡ bytes_of tag
unfolding handed_back
handed-written n tag b h = rw h

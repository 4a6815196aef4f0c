-- The image file: the claims of specs/ImageClaims.antt but its last, each under its name in lower case, and these laws.
--
--   drop-bytes, take-bytes, block-bytes    a part of a list of bytes is bytes
--   from_low-lt                             n bytes give a number below 256 to the n
--   low_first-from_low, from_low-low_first     the two undo each other, for bytes and for a number that fits
--   number-part, block-part                a number's bytes, and a block, are parts of the list they are read from
--   join                                   two parts of which the second begins where the first ends
--   three-elements                         a list of three, by its elements
--   right, right-back                      image_right tests what Right lists
--   check-alike, check-take, check-append  the check bytes are among the first nine
--   bounded                                the counts of a possible record are within their bounds
--   counter-le                             three bytes give at most FFFFFFh
--   load-right, load-zero                  a load is answered 0 just where the store's length and the image are right
--   load-done                              what it then hands back
--   save-zero, save-done                   where a save is answered 0, and what it then leaves in the buffer
--
-- Assumes nothing.
use mathlib.Core.Path.{◌≡◌, refl, sym, ap, ◌∙◌}
use mathlib.Core.List.{List, [], ◌∷◌, ◌++◌, append_assoc}
use mathlib.Core.Bool.{Bool, true, false, not, and-eq-true_iff}
use Prim.Native.Nat.{ℕ, zero, suc, ◌+◌, ◌*◌, ◌/◌, ◌%◌, ◌^◌, ◌≤◌, ◌<◌}
use native.Mathlib.Nat.{pow-suc, not-suc-le-zero}
use native.Mathlib.Omega.{arith}
use borrow.Author.Tests.{eqb-true, leb-true, eq-eqb, le-leb, le-ltb}
use lib.Dec.{lit<}
use lib.ListN.{length, get_or, take, drop, length-append, length-drop}
use lib.Seq.{sets, sets-eq, take-add, take_all, take_at, drop-drop, drop-cons, drop-append-add, get_or-drop, get_or-take, get_or-append-add, length-take-le}
use Rattle.fips197.specs.State.{at, IsBlock}
use Rattle.fips197.specs.Cbc.{block_of}
use Rattle.fips197.proofs.State.{state-at, state-cong, state-block}
use Rattle.model.specs.declared.Map.{Map}
use Rattle.model.specs.declared.Tag.{Tag}
use Rattle.model.specs.declared.State.TheVariants.{Waiting}
use Rattle.model.specs.Map.{mf0aes20, store_size}
use Rattle.model.specs.Record.{zeros, counter, highest_counter, highest_failed, exists, possible, fleeting}
use Rattle.model.specs.Numbers.{number_if, first}
use Rattle.model.specs.Counters.{low_first, from_low}
use Rattle.model.specs.Image.{counters_at, failed_at, key_at, image_size, image_of, number_at, check_bytes_right, image_right, tag_of, store_of, load_number, load, save_number, save}
use Rattle.model.specs.Calls.{Bytes}
use Rattle.model.specs.ImageClaims.{WellFormed, Sizes, LoadedWellFormed, ImageOfLoaded, ImageHolds, LoadThenSave, SaveThenLoad}

pub sizes : Sizes
unfolding mf0aes20
sizes = (refl, refl, refl, refl, refl, refl, refl, refl)

-- ---- bytes

pub drop-bytes : (l : List ℕ) (n : ℕ) → Bytes l → Bytes (drop n l)
drop-bytes l n h k = rw get_or-drop (h (n + k))

pub take-bytes : (n : ℕ) (l : List ℕ) → Bytes l → Bytes (take n l)
take-bytes zero l h k = lit< tt
take-bytes (suc n) [] h k = lit< tt
take-bytes (suc n) (x ∷ xs) h zero = h 0
take-bytes (suc n) (x ∷ xs) h (suc k) = take-bytes n xs (λ j. h (suc j)) k

pub block-bytes : (l : List ℕ) (n : ℕ) → Bytes l → IsBlock (block_of l n)
unfolding block_of
block-bytes l n h = state-block (λ r c. get_or l (n + (r + 4 * c)) 0) (λ r c hr hc. h (n + (r + 4 * c)))

pub from_low-lt : (n : ℕ) (l : List ℕ) → Bytes l → from_low (take n l) < 256 ^ n
from_low-lt zero l h = lit< tt
from_low-lt (suc n) [] h = let r = from_low-lt n [] h in rw pow-suc (omega arith)
from_low-lt (suc n) (x ∷ xs) h = let r = from_low-lt n xs (λ k. h (suc k)) in rw pow-suc (omega (arith, h 0))

pub low_first-from_low : (n : ℕ) (l : List ℕ) → Bytes l → n ≤ length l → low_first n (from_low (take n l)) ≡ take n l
low_first-from_low zero l h long = refl
low_first-from_low (suc n) [] h long = absurd (not-suc-le-zero long)
low_first-from_low (suc n) (x ∷ xs) h long =
    let r = from_low (take n xs) in
    let low : (x + 256 * r) % 256 ≡ x = omega (arith, h 0) in
    let high : (x + 256 * r) / 256 ≡ r = omega (arith, h 0) in
    cc (low, high, low_first-from_low n xs (λ k. h (suc k)) (omega arith))

pub from_low-low_first : (n k : ℕ) → k < 256 ^ n → from_low (low_first n k) ≡ k
from_low-low_first zero k h = omega arith
from_low-low_first (suc n) k h =
    let h' : k < 256 ^ n * 256 = rw pow-suc at h in
    rw (from_low-low_first n (k / 256) (omega arith)) (omega arith)

-- ---- parts of a list

pub block-part : (l : List ℕ) (n : ℕ) → n + 16 ≤ length l → block_of l n ≡ take 16 (drop n l)
unfolding block_of
block-part l n long =
    let part = take 16 (drop n l) in
    state-cong (λ r c. get_or l (n + (r + 4 * c)) 0) (at part)
    (λ r c hr hc. sym (get_or-take 16 (drop n l) (r + 4 * c) 0 (omega arith) ∙ get_or-drop n l (r + 4 * c) 0))
    ∙ state-at part (length-take-le 16 (drop n l) (rw length-drop (omega arith)))

pub number-part : (l : List ℕ) (n k j : ℕ) → Bytes l → n + k + j ≤ length l
    → low_first j (number_at l (n + k) j) ≡ take j (drop k (drop n l))
number-part l n k j h long =
    rw drop-drop (low_first-from_low j (drop (n + k) l) (drop-bytes l (n + k) h) (rw length-drop (omega arith)))

-- a part of one byte
one : (l : List ℕ) (n b : ℕ) → n < length l → get_or l n 0 ≡ b → b ∷ [] ≡ take 1 (drop n l)
one l n b h e = rw (drop-cons l n 0 h, e)

-- two parts of which the second begins where the first ends
pub join : (l x y : List ℕ) (n k : ℕ) → x ≡ take n l → y ≡ take k (drop n l) → x ++ y ≡ take (n + k) l
join l x y n k p q = rw (p, q) (sym (take-add n k l))

pub three-elements : (l : List ℕ) → length l ≡ 3 → get_or l 0 0 ∷ get_or l 1 0 ∷ get_or l 2 0 ∷ [] ≡ l
three-elements l e =
    join l _ _ 2 1 (join l _ _ 1 1 (one l 0 _ (omega arith) refl) (one l 1 _ (omega arith) refl)) (one l 2 _ (omega arith) refl)
    ∙ take_all 3 l (omega arith)

-- the first bytes of a buffer, after a list was laid over them
first-bytes : (buffer i : List ℕ) (n : ℕ) → length i ≡ n → n ≤ length buffer → take n (sets buffer 0 i) ≡ i
first-bytes buffer i n e room = rw (sets-eq i buffer 0 (omega arith)) (take_at i (drop (0 + length i) buffer) n e)

-- ---- the tests

pub record Right (m : Map) (i : List ℕ) : Type 0 where
  pub size : length i ≡ image_size m
  pub pages : get_or i 0 0 ≡ m.pages
  pub counters : get_or i (counters_at m) 0 ≡ 3
  pub failed : get_or i (failed_at m) 0 ≡ 1
  pub key : get_or i (key_at m) 0 ≡ 1
  pub count : number_at i (failed_at m + 1) 2 ≤ highest_failed
  pub check : check_bytes_right (drop 1 i) ≡ true

pub right : (m : Map) (i : List ℕ) → image_right m i ≡ true → Right m i
unfolding image_right
right m i h =
    let h' = simp and-eq-true_iff at h in
    record {
      size = omega (arith, eqb-true);
      pages = omega (arith, eqb-true);
      counters = omega (arith, eqb-true);
      failed = omega (arith, eqb-true);
      key = omega (arith, eqb-true);
      count = omega (arith, leb-true);
      check = h'.1;
    }

pub right-back : (m : Map) (i : List ℕ) → Right m i → image_right m i ≡ true
unfolding image_right
right-back m i r = simp and-eq-true_iff (omega (arith, eq-eqb, le-leb), r.check)

-- the check bytes are among the first nine
pub check-alike : (s l : List ℕ) → ((k : ℕ) → k < 9 → get_or s k 0 ≡ get_or l k 0) → check_bytes_right s ≡ check_bytes_right l
unfolding check_bytes_right
check-alike s l at =
    rw (at 0 (omega arith), at 1 (omega arith), at 2 (omega arith), at 3 (omega arith), at 4 (omega arith))
    (rw (at 5 (omega arith), at 6 (omega arith), at 7 (omega arith), at 8 (omega arith)))

pub check-take : (n : ℕ) (l : List ℕ) → 9 ≤ n → check_bytes_right (take n l) ≡ check_bytes_right l
check-take n l h = check-alike (take n l) l (λ k hk. get_or-take n l k 0 (omega arith))

pub check-append : (s r : List ℕ) → 9 ≤ length s → check_bytes_right (s ++ r) ≡ check_bytes_right s
check-append s r h = sym (check-take (length s) (s ++ r) h) ∙ ap check_bytes_right (take_at s r (length s) refl)

pub record Bounded (tag : Tag) : Type 0 where
  pub first : counter tag 0 ≤ highest_counter
  pub second : counter tag 1 ≤ highest_counter
  pub third : counter tag 2 ≤ highest_counter
  pub failed : tag.failed ≤ highest_failed

pub bounded : (tag : Tag) → possible tag ≡ true → Bounded tag
unfolding possible
bounded tag h = let h' = simp and-eq-true_iff at h in omega (arith, leb-true)

-- ---- what a right image holds

-- each section of the image that is printed again is its part of the image
module _ (m : Map) (i : List ℕ) (h : Bytes i) (r : Right m i) where
  pages-part : m.pages ∷ store_of m i ≡ take (counters_at m) i
  unfolding store_of
  pages-part = join i (m.pages ∷ []) _ 1 (store_size m) (one i 0 m.pages (omega arith) r.pages) refl

  counters-part : 3 ∷ low_first 3 (counter (tag_of m i) 0) ++ low_first 3 (counter (tag_of m i) 1) ++ low_first 3 (counter (tag_of m i) 2)
      ≡ take 10 (drop (counters_at m) i)
  unfolding tag_of
  counters-part =
      let c = counters_at m in
      let l = drop c i in
      let count = join l (3 ∷ []) _ 1 3 (one i c 3 (omega arith) r.counters) (number-part i c 1 3 h (omega arith)) in
      join l _ _ 7 3 (join l _ _ 4 3 count (number-part i c 4 3 h (omega arith))) (number-part i c 7 3 h (omega arith))

  failed-part : 1 ∷ low_first 2 (tag_of m i).failed ≡ take 3 (drop (failed_at m) i)
  unfolding tag_of
  failed-part =
      let f = failed_at m in
      join (drop f i) (1 ∷ []) _ 1 2 (one i f 1 (omega arith) r.failed) (number-part i f 1 2 h (omega arith))

  key-part : 1 ∷ (tag_of m i).originality ≡ take 17 (drop (key_at m) i)
  unfolding tag_of
  key-part =
      let k = key_at m in
      join (drop k i) (1 ∷ []) _ 1 16 (one i k 1 (omega arith) r.key) (rw drop-drop (block-part i (k + 1) (omega arith)))

  printed-again : image_of m (tag_of m i) (store_of m i) ≡ i
  unfolding image_of
  printed-again =
      join i _ _ (key_at m) 17 (join i _ _ (failed_at m) 3 (join i _ _ (counters_at m) 10 pages-part counters-part) failed-part) key-part
      ∙ take_all (image_size m) i (omega arith)

pub image-of-loaded : ImageOfLoaded
image-of-loaded m i h e = printed-again m i h (right m i e)

module _ (i : List ℕ) (h : Bytes i) where
  pub counter-le : (n : ℕ) → number_at i n 3 ≤ highest_counter
  counter-le n = omega (arith, from_low-lt 3 (drop n i) (drop-bytes i n h))

  tag-possible : (m : Map) → Right m i → possible (tag_of m i) ≡ true
  unfolding possible exists tag_of
  tag-possible m r =
      let c = counters_at m in
      rw (le-leb _ _ (counter-le (c + 1)), le-leb _ _ (counter-le (c + 4)), le-leb _ _ (counter-le (c + 7)), le-leb _ _ r.count)

  held-well-formed : Right mf0aes20 i → WellFormed (tag_of mf0aes20 i) (store_of mf0aes20 i)
  unfolding tag_of store_of
  held-well-formed r = record {
    size = length-take-le (store_size mf0aes20) (drop 1 i) (rw length-drop (omega arith));
    bytes = take-bytes (store_size mf0aes20) (drop 1 i) (drop-bytes i 1 h);
    three = refl;
    bounded = tag-possible mf0aes20 r;
    key = block-bytes i (key_at mf0aes20 + 1) h;
    check = check-take (store_size mf0aes20) (drop 1 i) (omega (arith, sizes.0)) ∙ r.check;
  }

-- ---- what the image of a tag holds

-- the sections behind the pages
behind : Tag → List ℕ
behind tag =
    (3 ∷ low_first 3 (counter tag 0) ++ low_first 3 (counter tag 1) ++ low_first 3 (counter tag 2))
    ++ (1 ∷ low_first 2 tag.failed)
    ++ (1 ∷ tag.originality)

regroup : (a b c d : List ℕ) → a ++ b ++ c ++ d ≡ a ++ (b ++ c ++ d)
regroup a b c d = simp append_assoc

module _ (m : Map) (tag : Tag) (s : List ℕ) (size : length s ≡ store_size m) where
  image-behind : image_of m tag s ≡ (m.pages ∷ s) ++ behind tag
  unfolding image_of behind
  image-behind = regroup (m.pages ∷ s) _ (1 ∷ low_first 2 tag.failed) (1 ∷ tag.originality)

  drop-behind : (n k : ℕ) → n ≡ counters_at m + k → drop n (image_of m tag s) ≡ drop k (behind tag)
  drop-behind n k e =
      let e' : n ≡ length (m.pages ∷ s) + k = omega arith in
      rw (e', image-behind) (drop-append-add (m.pages ∷ s) (behind tag) k)

  byte-behind : (n k : ℕ) → n ≡ counters_at m + k → get_or (image_of m tag s) n 0 ≡ get_or (behind tag) k 0
  byte-behind n k e =
      let e' : n ≡ length (m.pages ∷ s) + k = omega arith in
      rw (e', image-behind) (get_or-append-add (m.pages ∷ s) (behind tag) k 0)

  number_behind : (n k j : ℕ) → n ≡ counters_at m + k → number_at (image_of m tag s) n j ≡ from_low (take j (drop k (behind tag)))
  number_behind n k j e = ap (λ (l : List ℕ). from_low (take j l)) (drop-behind n k e)

  store-held : store_of m (image_of m tag s) ≡ s
  unfolding store_of
  store-held = rw image-behind (take_at s (behind tag) (store_size m) size)

  module _ (three : length tag.counters ≡ 3) (b : Bounded tag) (sixteen : length tag.originality ≡ 16) (nine : 9 ≤ length s)
      (check : check_bytes_right s ≡ true) where
    image-size : length (image_of m tag s) ≡ image_size m
    unfolding behind
    image-size = rw (image-behind, length-append) (omega arith)

    counters-held : (tag_of m (image_of m tag s)).counters ≡ tag.counters
    unfolding tag_of behind
    counters-held =
        let i = image_of m tag s in
        let c = counters_at m in
        let c0 : number_at i (c + 1) 3 ≡ counter tag 0 = number_behind (c + 1) 1 3 refl ∙ from_low-low_first 3 (counter tag 0) (omega arith) in
        let c1 : number_at i (c + 4) 3 ≡ counter tag 1 = number_behind (c + 4) 4 3 refl ∙ from_low-low_first 3 (counter tag 1) (omega arith) in
        let c2 : number_at i (c + 7) 3 ≡ counter tag 2 = number_behind (c + 7) 7 3 refl ∙ from_low-low_first 3 (counter tag 2) (omega arith) in
        rw (c0, c1, c2) (three-elements tag.counters three)

    failed-held : (tag_of m (image_of m tag s)).failed ≡ tag.failed
    unfolding tag_of behind
    failed-held = number_behind (failed_at m + 1) 11 2 (omega arith) ∙ from_low-low_first 2 tag.failed (omega arith)

    key-held : (tag_of m (image_of m tag s)).originality ≡ tag.originality
    unfolding tag_of behind
    key-held =
        let n = key_at m + 1 in
        block-part (image_of m tag s) n (omega (arith, image-size))
        ∙ ap (take 16) (drop-behind n 14 (omega arith))
        ∙ take_all 16 tag.originality (omega arith)

    tag-held : tag_of m (image_of m tag s) ≡ fleeting Waiting zeros tag
    unfolding tag_of
    tag-held = λ j. record {
      counters = counters-held j;
      failed = failed-held j;
      originality = key-held j;
      state = Waiting;
      challenge = zeros;
    }

    image-right : image_right m (image_of m tag s) ≡ true
    unfolding tag_of behind
    image-right = right-back m (image_of m tag s) (record {
      size = image-size;
      pages = ap (λ (l : List ℕ). get_or l 0 0) image-behind;
      counters = byte-behind (counters_at m) 0 (omega arith);
      failed = byte-behind (failed_at m) 10 (omega arith);
      key = byte-behind (key_at m) 13 (omega arith);
      count = rw failed-held b.failed;
      check = ap (λ (l : List ℕ). check_bytes_right (drop 1 l)) image-behind ∙ check-append s (behind tag) nine ∙ check;
    })

pub image_holds : ImageHolds
image_holds m tag s size three p sixteen nine check =
    let b = bounded tag p in (
      image-right m tag s size three b sixteen nine check,
      tag-held m tag s size three b sixteen nine check,
      store-held m tag s size,
    )

-- ---- the calls

both_right : (a b : Bool) → first (number_if (not a) 10) (number_if (not b) 12) ≡ 0 → (a ≡ true) × (b ≡ true)
unfolding first number_if
both_right true true h = (refl, refl)
both_right true false h = absurd (omega arith)
both_right false b h = absurd (omega arith)

pub load-right : (i s : List ℕ) → (load i s).number ≡ 0 → (length s ≡ store_size mf0aes20) × (image_right mf0aes20 i ≡ true)
unfolding load load_number
load-right i s h =
    let b = both_right _ (image_right mf0aes20 i) h in
    (eqb-true (length s) (store_size mf0aes20) b.0, b.1)

pub load-zero : (i s : List ℕ) → length s ≡ store_size mf0aes20 → image_right mf0aes20 i ≡ true → (load i s).number ≡ 0
unfolding load load_number first number_if
load-zero i s size r = rw (eq-eqb _ _ size, r)

pub load-done : (i s : List ℕ) → (load i s).number ≡ 0
    → load i s ≡ record { number = 0; tag = tag_of mf0aes20 i; store = store_of mf0aes20 i }
unfolding load
load-done i s h = rw h

pub save-zero : (tag : Tag) (s buffer : List ℕ) → length s ≡ store_size mf0aes20 → image_size mf0aes20 ≤ length buffer → possible tag ≡ true
    → (save tag s buffer).number ≡ 0
unfolding save save_number number_if
save-zero tag s buffer size room p = rw (eq-eqb _ _ size, le-ltb _ _ room, p)

pub save-done : (tag : Tag) (s buffer : List ℕ) → (save tag s buffer).number ≡ 0
    → (save tag s buffer).image ≡ sets buffer 0 (image_of mf0aes20 tag s)
unfolding save
save-done tag s buffer h = rw h

pub loaded-well-formed : LoadedWellFormed
loaded-well-formed i s h e = rw (load-done i s e) (held-well-formed i h (right mf0aes20 i (load-right i s e).1))

pub load-then-save : LoadThenSave
load-then-save i s buffer h e room =
    let l = load i s in
    let w = loaded-well-formed i s h e in
    let n = save-zero l.tag l.store buffer w.size room w.bounded in
    let same : image_of mf0aes20 l.tag l.store ≡ i = rw (load-done i s e) (image-of-loaded mf0aes20 i h (load-right i s e).1) in
    (n, save-done l.tag l.store buffer n ∙ ap (sets buffer 0) same)

saved-first : (tag : Tag) (s buffer : List ℕ) → length (image_of mf0aes20 tag s) ≡ image_size mf0aes20 → image_size mf0aes20 ≤ length buffer
    → (save tag s buffer).number ≡ 0 → take (image_size mf0aes20) (save tag s buffer).image ≡ image_of mf0aes20 tag s
saved-first tag s buffer size room n =
    rw (save-done tag s buffer n) (first-bytes buffer (image_of mf0aes20 tag s) (image_size mf0aes20) size room)

pub save-then-load : SaveThenLoad
save-then-load tag s buffer other w room size =
    let i = image_of mf0aes20 tag s in
    let holds = image_holds mf0aes20 tag s w.size w.three w.bounded w.key.sixteen (omega (arith, sizes.0, w.size)) w.check in
    let n = save-zero tag s buffer w.size room w.bounded in
    let z = load-zero i other size holds.0 in
    let l = load-done i other z in
    rw (saved-first tag s buffer (right mf0aes20 i holds.0).size room n)
    (n, z, ap (λ l. l.tag) l ∙ holds.1, ap (λ l. l.store) l ∙ holds.2)

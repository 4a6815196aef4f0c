-- What every call keeps: the store's size and bytes, the counters and the count within their bounds, a state that exists.
--
--   Valid b           a box that a tag can be in
--   Sound d           a decision that keeps that
--   valid-after       a sound decision leads from a valid box to a valid box
--
-- That a frame that fits comes to a sound decision is in Sound.antt.
--
-- Assumes nothing.
use mathlib.Core.Path.{◌≡◌, refl, ap, ◌∙◌}
use mathlib.Core.List.{List, [], ◌∷◌}
use mathlib.Core.Bool.{true}
use Prim.Native.Nat.{ℕ, zero, suc, ◌*◌, ◌≤◌, ◌<◌}
use lib.ListN.{length, get_or, set, length-set}
use lib.Seq.{sets, length-sets}
use Rattle.fips197.specs.State.{IsBlock}
use Rattle.model.specs.declared.Tag.{Tag}
use Rattle.model.specs.declared.Effect.{Effect}
use Rattle.model.specs.declared.Effect.TheVariants.{Keep, Page, Counter, Failed}
use Rattle.model.specs.declared.Decision.{Decision}
use Rattle.model.specs.Map.{mf0aes20, store_size}
use Rattle.model.specs.Record.{exists, counter, highest_counter, highest_failed}
use Rattle.model.specs.Frame.{store_after, counters_after, failed_after, tag_after}
use Rattle.model.specs.Calls.{Box, Bytes}

pub record Valid (b : Box) : Type 0 where
  pub size : length b.store ≡ store_size mf0aes20
  pub bytes : Bytes b.store
  pub three : length b.tag.counters ≡ 3
  pub low : (n : ℕ) → counter b.tag n ≤ highest_counter
  pub count : b.tag.failed ≤ highest_failed
  pub known : exists b.tag.state ≡ true
  pub original : IsBlock b.tag.originality
  pub challenge : IsBlock b.tag.challenge

-- ---- stores

-- what holds of every element, and of what is stored, holds of every element afterwards
pub set_all : (P : ℕ → Type 0) (l : List ℕ) (k v : ℕ) → ((i : ℕ) → P (get_or l i 0)) → P v → (i : ℕ) → P (get_or (set l k v) i 0)
set_all P [] k v h pv i = h i
set_all P (x ∷ l) zero v h pv zero = pv
set_all P (x ∷ l) zero v h pv (suc i) = h (suc i)
set_all P (x ∷ l) (suc k) v h pv zero = h 0
set_all P (x ∷ l) (suc k) v h pv (suc i) = set_all P l k v (λ j. h (suc j)) pv i

pub sets-all : (P : ℕ → Type 0) (l : List ℕ) (k : ℕ) (vs : List ℕ) → ((i : ℕ) → P (get_or l i 0)) → ((i : ℕ) → P (get_or vs i 0))
    → (i : ℕ) → P (get_or (sets l k vs) i 0)
sets-all P l k [] h hv i = h i
sets-all P l k (v ∷ vs) h hv i = sets-all P (set l k v) (suc k) vs (set_all P l k v h (hv 0)) (λ j. hv (suc j)) i

-- what holds of the old element at i, and of what is stored at i, holds of the element at i afterwards
pub set_at : (P : ℕ → Type 0) (l : List ℕ) (k v i : ℕ) → (i ≡ k → P v) → P (get_or l i 0) → P (get_or (set l k v) i 0)
set_at P [] k v i pv old = old
set_at P (x ∷ l) zero v zero pv old = pv refl
set_at P (x ∷ l) zero v (suc i) pv old = old
set_at P (x ∷ l) (suc k) v zero pv old = old
set_at P (x ∷ l) (suc k) v (suc i) pv old = set_at P l k v i (λ e. pv (ap suc e)) old

pub sets-four-at : (P : ℕ → Type 0) (l : List ℕ) (k x y z w i : ℕ) → (i ≡ k → P x) → (i ≡ suc k → P y) → (i ≡ suc (suc k) → P z)
    → (i ≡ suc (suc (suc k)) → P w) → P (get_or l i 0) → P (get_or (sets l k (x ∷ y ∷ z ∷ w ∷ [])) i 0)
sets-four-at P l k x y z w i px py pz pw old =
    set_at P (set (set (set l k x) (suc k) y) (suc (suc k)) z) (suc (suc (suc k))) w i pw
    (set_at P (set (set l k x) (suc k) y) (suc (suc k)) z i pz (set_at P (set l k x) (suc k) y i py (set_at P l k x i px old)))

-- a page's bytes, a counter or a count within bounds
abbrev pub EffectSound : Effect → Type 0
EffectSound Keep = Unit {0}
EffectSound (Page p q) = Bytes (q.a ∷ q.b ∷ q.c ∷ q.d ∷ [])
EffectSound (Counter n v) = v ≤ highest_counter
EffectSound (Failed v) = v ≤ highest_failed

store-size : (s : List ℕ) (e : Effect) → length (store_after s e) ≡ length s
unfolding store_after
store-size s Keep = refl
store-size s (Page p q) = length-sets s (4 * p) (q.a ∷ q.b ∷ q.c ∷ q.d ∷ [])
store-size s (Counter n v) = refl
store-size s (Failed v) = refl

store_bytes : (s : List ℕ) (e : Effect) → Bytes s → EffectSound e → Bytes (store_after s e)
unfolding store_after
store_bytes s Keep hs h = hs
store_bytes s (Page p q) hs h = sets-all (λ (x : ℕ). x < 256) s (4 * p) (q.a ∷ q.b ∷ q.c ∷ q.d ∷ []) hs h
store_bytes s (Counter n v) hs h = hs
store_bytes s (Failed v) hs h = hs

counters-three : (cs : List ℕ) (e : Effect) → length (counters_after cs e) ≡ length cs
unfolding counters_after
counters-three cs Keep = refl
counters-three cs (Page p q) = refl
counters-three cs (Counter n v) = length-set cs n v
counters-three cs (Failed v) = refl

counters-low : (cs : List ℕ) (e : Effect) → ((n : ℕ) → get_or cs n 0 ≤ highest_counter) → EffectSound e
    → (n : ℕ) → get_or (counters_after cs e) n 0 ≤ highest_counter
unfolding counters_after
counters-low cs Keep hc h = hc
counters-low cs (Page p q) hc h = hc
counters-low cs (Counter n v) hc h = set_all (λ (x : ℕ). x ≤ highest_counter) cs n v hc h
counters-low cs (Failed v) hc h = hc

count_low : (c : ℕ) (e : Effect) → c ≤ highest_failed → EffectSound e → failed_after c e ≤ highest_failed
unfolding failed_after
count_low c Keep hc h = hc
count_low c (Page p q) hc h = hc
count_low c (Counter n v) hc h = hc
count_low c (Failed v) hc h = h

pub record Sound (d : Decision) : Type 0 where
  pub effect : EffectSound d.effect
  pub known : exists d.state ≡ true
  pub challenge : IsBlock d.challenge

abbrev pub after : Tag → List ℕ → Decision → Box
after tag s d = record { tag = tag_after tag d; store = store_after s d.effect }

pub valid-after : (b : Box) (d : Decision) → Valid b → Sound d → Valid (after b.tag b.store d)
unfolding tag_after
valid-after b d v h = record {
  size = store-size b.store d.effect ∙ v.size;
  bytes = store_bytes b.store d.effect v.bytes h.effect;
  three = counters-three b.tag.counters d.effect ∙ v.three;
  low = counters-low b.tag.counters d.effect v.low h.effect;
  count = count_low b.tag.failed d.effect v.count h.effect;
  known = h.known;
  original = v.original;
  challenge = h.challenge;
}

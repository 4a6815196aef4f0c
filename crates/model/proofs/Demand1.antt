-- Demand 1: the claims of specs/Demand1.antt, each under its name in lower case.
--
-- Assumes nothing.
use mathlib.Core.Path.{◌≡◌, refl, sym, subst, ◌∙◌}
use mathlib.Core.List.{List}
use mathlib.Core.Bool.{Bool, true, false, not, ◌&&◌, ◌||◌, cond}
use mathlib.Core.Logic.{◌⊎◌, inl, inr}
use Prim.Native.Nat.{ℕ, ◌+◌, ◌≤◌}
use native.Mathlib.Omega.{arith}
use borrow.Author.Tests.{ne_eqb}
use lib.Dec.{ltb, eqb, lit≤}
use lib.ListN.{length}
use Rattle.model.specs.declared.Tag.{Tag}
use Rattle.model.specs.declared.Map.{Map}
use Rattle.model.specs.declared.Barred.{Barred}
use Rattle.model.specs.declared.Effect.{Effect}
use Rattle.model.specs.declared.Effect.TheVariants.{Keep, Failed}
use Rattle.model.specs.Map.{mf0aes20, store_size}
use Rattle.model.specs.Settings.{auth_limit}
use Rattle.model.specs.Record.{possible}
use Rattle.model.specs.Numbers.{number_if, first, kept, refused}
use Rattle.model.specs.Authentication.{raised}
use Rattle.model.specs.Frame.{decide, said_of, counters_after, failed_after, store_after, tag_after, outcome, frame}
use Rattle.model.specs.Image.{image_size, image_right, load_number, load, save_number, save}
use Rattle.model.specs.Calls.{stored_of, step}
use Rattle.model.specs.Demand1.{NumberInTable, Ended, RefusalEnds, Unchanged, KeepsAll, PowerKeepsStored, SelectKeepsStored, LoadRefused, SaveRefused}
use Rattle.model.proofs.Parts.{frame_number, frame_reason}
use Rattle.model.proofs.Numbers.{numbers-of-frame, decide-number, decide-not, not-done-refused, not-done-kept}

pub number-in-table : NumberInTable
unfolding frame
number-in-table tag s f random room =
    rw (decide-number mf0aes20 tag s f random room)
    (numbers-of-frame mf0aes20 tag s f random room (λ (n : ℕ). n ≤ 11)
    (record {
      own = record {
        of0 = lit≤ tt;
        of5 = lit≤ tt;
        of6 = lit≤ tt;
        of7 = lit≤ tt;
        of8 = λ _. lit≤ tt;
        of9 = lit≤ tt;
        of11 = lit≤ tt;
      };
      of1 = λ _. lit≤ tt;
      of2 = lit≤ tt;
      of3 = lit≤ tt;
      of4 = lit≤ tt;
      of10 = λ _. lit≤ tt;
    }))

-- ---- what a refusal leaves

-- the effect of a refusal: the count where the number is 8 and the limit is not 0, nothing else
module _ (eight off : Bool) (v : ℕ) where
  abbrev counted : Effect
  counted = cond eight (cond off Keep (Failed v)) Keep

store_kept : (eight off : Bool) (v : ℕ) (s : List ℕ) → store_after s (counted eight off v) ≡ s
unfolding store_after
store_kept true true v s = refl
store_kept true false v s = refl
store_kept false off v s = refl

counters-kept : (eight off : Bool) (v : ℕ) (cs : List ℕ) → counters_after cs (counted eight off v) ≡ cs
unfolding counters_after
counters-kept true true v cs = refl
counters-kept true false v cs = refl
counters-kept false off v cs = refl

count-raised : (eight off : Bool) (v c : ℕ) → failed_after c (counted eight off v) ≡ cond (eight && not off) v c
unfolding failed_after
count-raised true true v c = refl
count-raised true false v c = refl
count-raised false off v c = refl

refused-ends : (m : Map) (tag : Tag) (s : List ℕ) (n : ℕ) (b : Barred)
    → Ended tag s (outcome mf0aes20 tag s (refused n b (cond (eqb n 8) (raised mf0aes20 tag s) Keep)))
unfolding refused raised said_of tag_after
refused-ends m tag s n b = record {
  waiting = refl;
  forgotten = refl;
  nak = refl;
  unwritten = λ buffer. refl;
  pages = store_kept (eqb n 8) (eqb (auth_limit mf0aes20 s) 0) (tag.failed + 1) s;
  counters = counters-kept (eqb n 8) (eqb (auth_limit mf0aes20 s) 0) (tag.failed + 1) tag.counters;
  originality = refl;
  count = count-raised (eqb n 8) (eqb (auth_limit mf0aes20 s) 0) (tag.failed + 1) tag.failed;
}

-- what a frame comes to, by its number
frame_refused : (tag : Tag) (s f random : List ℕ) (room : ℕ) → let n = frame_number mf0aes20 tag s f random room in
    (n ≡ 0 → ⊥) → (n ≡ 1 → ⊥) → (n ≡ 10 → ⊥)
    → decide mf0aes20 tag s f random room ≡ refused n (frame_reason mf0aes20 tag s f random room) (cond (eqb n 8) (raised mf0aes20 tag s) Keep)
frame_refused tag s f random room h0 h1 h10 =
    decide-not mf0aes20 tag s f random room h0 ∙ not-done-refused mf0aes20 tag s (frame_number mf0aes20 tag s f random room) (frame_reason mf0aes20 tag s f random room) h1 h10

pub refusal-ends : RefusalEnds
unfolding frame
refusal-ends tag s f random room h0 h1 h10 =
    let m = mf0aes20 in
    let n = frame_number m tag s f random room in
    let e = decide-number m tag s f random room in
    subst (λ d. Ended tag s (outcome m tag s d))
    (sym (frame_refused tag s f random room (λ p. h0 (e ∙ p)) (λ p. h1 (e ∙ p)) (λ p. h10 (e ∙ p))))
    (refused-ends m tag s n (frame_reason m tag s f random room))

kept-unchanged : (tag : Tag) (s : List ℕ) (n : ℕ) → Unchanged tag s (outcome mf0aes20 tag s (kept n tag))
unfolding kept said_of tag_after store_after counters_after failed_after
kept-unchanged tag s n = record { record' = refl; pages = refl; silent = refl; unstopped = refl }

not-zero : (n : ℕ) → (n ≡ 1) ⊎ (n ≡ 10) → n ≡ 0 → ⊥
not-zero n (inl h) z = omega arith
not-zero n (inr h) z = omega arith

pub keeps-all : KeepsAll
unfolding frame
keeps-all tag s f random room h =
    let m = mf0aes20 in
    let n = frame_number m tag s f random room in
    let e = decide-number m tag s f random room in
    let h' : (n ≡ 1) ⊎ (n ≡ 10) = subst (λ (k : ℕ). (k ≡ 1) ⊎ (k ≡ 10)) e h in
    subst (λ d. Unchanged tag s (outcome m tag s d))
    (sym (decide-not m tag s f random room (not-zero n h') ∙ not-done-kept m tag s n (frame_reason m tag s f random room) h'))
    (kept-unchanged tag s n)

-- ---- the other calls

pub power-keeps-stored : PowerKeepsStored
unfolding step stored_of
power-keeps-stored b = record { number = refl; silent = refl; kept = refl; state = refl; challenge = refl }

pub select-keeps-stored : SelectKeepsStored
unfolding step stored_of
select-keeps-stored b = record { number = refl; silent = refl; kept = refl; state = refl; challenge = refl }

one_of_two : (a b : Bool) → let n = first (number_if a 10) (number_if b 12) in (n ≡ 0 → ⊥) → (n ≡ 10) ⊎ (n ≡ 12)
unfolding first number_if
one_of_two true b h = inl refl
one_of_two false true h = inr refl
one_of_two false false h = absurd (h refl)

load-numbers : (i s : List ℕ) → (load_number i s ≡ 0 → ⊥) → (load_number i s ≡ 10) ⊎ (load_number i s ≡ 12)
unfolding load_number
load-numbers i s h = one_of_two (not (eqb (length s) (store_size mf0aes20))) (not (image_right mf0aes20 i)) h

pub load-refused : LoadRefused
unfolding load
load-refused i s h = (load-numbers i s h, rw (ne_eqb (load_number i s) 0 h), rw (ne_eqb (load_number i s) 0 h))

only_one : (a : Bool) → (number_if a 10 ≡ 0 → ⊥) → number_if a 10 ≡ 10
unfolding number_if
only_one true h = refl
only_one false h = absurd (h refl)

save-numbers : (tag : Tag) (s : List ℕ) (room : ℕ) → (save_number tag s room ≡ 0 → ⊥) → save_number tag s room ≡ 10
unfolding save_number
save-numbers tag s room h =
    only_one (not (eqb (length s) (store_size mf0aes20)) || ltb room (image_size mf0aes20) || not (possible tag)) h

pub save-refused : SaveRefused
unfolding save
save-refused tag s buffer h = (save-numbers tag s (length buffer) h, rw (ne_eqb (save_number tag s (length buffer)) 0 h))

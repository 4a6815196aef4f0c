-- The claims from every image that loads: demand 3 of specs/Demand3.antt, the claims of specs/FieldClaims.antt and the last of specs/ImageClaims.antt.
--
--   loaded-valid          a loading answered 0 leaves a valid box
--   damage-forgotten      demand 3
--   counters-add-up, set-bits-stay, serial-stays, logins-are-proved, count-in-bounds
--   valid-well-formed     a valid box with right check bytes is well-formed
--   saved-at-any-time     what any calls leave can be saved and loaded again
--
-- Assumes nothing.
use mathlib.Core.Path.{◌≡◌, ap, ◌∙◌}
use mathlib.Core.List.{List}
use mathlib.Core.Bool.{true}
use Prim.Native.Nat.{ℕ, zero, suc, ◌≤◌}
use native.Mathlib.Omega.{arith}
use lib.Dec.{lit≤}
use lib.ListN.{length, get_or-eq_default}
use Rattle.forget.specs.Machine.{end}
use Rattle.model.specs.declared.Tag.{Tag}
use Rattle.model.specs.Record.{exists, counter, highest_counter}
use Rattle.model.specs.Image.{check_bytes_right, tag_of, load}
use Rattle.model.specs.Calls.{Box, tag_machine, Bytes, loaded_box}
use Rattle.model.specs.ImageClaims.{WellFormed, LoadedWaiting, SavedAtAnyTime}
use Rattle.model.specs.Demand3.{DamageForgotten}
use Rattle.model.specs.FieldClaims.{CountersAddUp, SetBitsStay, SerialStays, unproven, LoginsAreProved, CountInBounds}
use Rattle.model.proofs.Valid.{Valid}
use Rattle.model.proofs.Sound.{zeros-block, possible-valid, valid-end}
use Rattle.model.proofs.Demand3.{forgets-valid}
use Rattle.model.proofs.CountersAddUp.{counters-list}
use Rattle.model.proofs.SetBitsStay.{bits-list}
use Rattle.model.proofs.SerialStays.{serial-list}
use Rattle.model.proofs.Logins.{session-list}
use Rattle.model.proofs.Image.{Bounded, bounded, check-alike, load-done, loaded-well-formed, save-then-load}

-- three counters within the bound: so is every one that is read, past the last one 0
low-all : (tag : Tag) → length tag.counters ≡ 3 → Bounded tag → (n : ℕ) → counter tag n ≤ highest_counter
low-all tag three b zero = b.first
low-all tag three b (suc zero) = b.second
low-all tag three b (suc (suc zero)) = b.third
low-all tag three b (suc (suc (suc n))) = rw (get_or-eq_default tag.counters 0 {n = suc (suc (suc n))} (omega arith)) (lit≤ tt)

pub loaded-waiting : LoadedWaiting
unfolding tag_of
loaded-waiting i s e = (ap (λ l. l.tag.state) (load-done i s e), ap (λ l. l.tag.challenge) (load-done i s e))

pub loaded-valid : (i s : List ℕ) → Bytes i → (load i s).number ≡ 0 → Valid (loaded_box i s)
unfolding exists
loaded-valid i s h e =
    let w = loaded-well-formed i s h e in
    let b = bounded (load i s).tag w.bounded in
    let rest = loaded-waiting i s e in
    record {
      size = w.size;
      bytes = w.bytes;
      three = w.three;
      low = low-all (load i s).tag w.three b;
      count = b.failed;
      known = ap exists rest.0;
      original = w.key;
      challenge = rw rest.1 zeros-block;
    }

pub damage-forgotten : DamageForgotten
damage-forgotten i s h e list fit = forgets-valid (loaded_box i s) (loaded-valid i s h e) list fit

pub counters-add-up : CountersAddUp
counters-add-up i s h e list fit = counters-list (loaded_box i s) (loaded-valid i s h e) list fit

pub set-bits-stay : SetBitsStay
set-bits-stay i s h e list fit = bits-list (loaded_box i s) (loaded-valid i s h e) list fit

pub serial-stays : SerialStays
serial-stays i s h e list fit = serial-list (loaded_box i s) (loaded-valid i s h e) list fit

pub logins-are-proved : LoginsAreProved
logins-are-proved i s h e list fit = session-list (loaded_box i s) (loaded-valid i s h e) list fit unproven (rw (loaded-waiting i s e).0 tt)

pub count-in-bounds : CountInBounds
count-in-bounds i s h e list fit = (valid-end (loaded_box i s) (loaded-valid i s h e) list fit).count

valid-well-formed : (b : Box) → Valid b → check_bytes_right b.store ≡ true → WellFormed b.tag b.store
valid-well-formed b v check = record {
  size = v.size;
  bytes = v.bytes;
  three = v.three;
  bounded = possible-valid b v;
  key = v.original;
  check = check;
}

pub saved-at-any-time : SavedAtAnyTime
saved-at-any-time i s h e list fit =
    let b = loaded_box i s in
    let after = end tag_machine b list in
    let same = check-alike after.store b.store (λ k low. serial-stays i s h e list fit k (omega arith)) in
    λ buffer other. save-then-load after.tag after.store buffer other
    (valid-well-formed after (valid-end b (loaded-valid i s h e) list fit) (same ∙ (loaded-well-formed i s h e).check))

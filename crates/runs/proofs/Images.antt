-- Demand 2 of the calls that a program makes: image files read and write back to the same bytes, by the `ensures` of `load` and `save` alone.
--
--   LoadsSave      what a loading left is saved as the image that was loaded
--   SavesLoad      what any calls left is saved as an image that loads, with all the stored memory
--
-- Each statement stands above its proof, as in Demands.antt. Assumes nothing.
use mathlib.Core.Path.{◌≡◌, sym, ap, subst, ◌∙◌}
use mathlib.Core.List.{List}
use Prim.Native.Nat.{ℕ, ◌≤◌}
use lib.ListN.{length, take}
use lib.Seq.{sets}
use Rattle.forget.specs.Machine.{Every, end}
use Rattle.model.specs.Map.{mf0aes20, store_size}
use Rattle.model.specs.Image.{image_size, load, save, Saved}
use Rattle.model.specs.Calls.{Box, tag_machine, Bytes, Fit, stored_of, loaded_box}
use Rattle.model.specs.ImageClaims.{LoadsAgain}
use Rattle.model.proofs.Image.{load-then-save}
use Rattle.model.proofs.Claims.{saved-at-any-time}
use Rattle.runs.proofs.Made.{Loading, box_of, Saving, Made, InTurn, last, calls_of}
use Rattle.runs.proofs.Steps.{loaded-box, last-run}

-- a saving of the record and the store b, into a buffer that is long enough
pub record SavingOf (b : Box) (v : Saving) : Type 0 where
  pub tag : v.tag ≡ b.tag
  pub store : v.store.now ≡ b.store
  pub room : image_size mf0aes20 ≤ length v.file.now

-- so it gives what the definition gives for b
saving-of : (b : Box) (v : Saving) → SavingOf b v → let d = save b.tag b.store v.file.now in
    (v.number ≡ d.number) × (v.file'.now ≡ d.image)
saving-of b v g =
    let same : save v.tag v.store.now v.file.now ≡ save b.tag b.store v.file.now =
    λ i. save (g.tag i) (g.store i) v.file.now in
    (v.met.0 ∙ ap (λ (x : Saved). x.number) same, v.met.1 ∙ ap (λ (x : Saved). x.image) same)

-- An image is loaded with answer 0, and what that left is saved: the file begins with the image again, and its other bytes stay.
abbrev pub LoadsSave : Type 0
LoadsSave =
    (l : Loading) → l.result.number ≡ 0 → Bytes l.file.now → (v : Saving) → SavingOf (box_of l) v
    → (v.number ≡ 0) × (v.file'.now ≡ sets v.file.now 0 l.file.now)

pub loads-save : LoadsSave
loads-save l e h v g =
    let file = v.file.now in
    let i = l.file.now in
    let d = saving-of (box_of l) v g in
    let s = subst (λ (b : Box). let d = save b.tag b.store file in (d.number ≡ 0) × (d.image ≡ sets file 0 i)) (sym (loaded-box l))
    (load-then-save i l.store.now file h (sym l.met.0 ∙ e) g.room) in
    (d.0 ∙ s.0, d.1 ∙ s.1)

-- An image is loaded with answer 0, any calls are made in turn, and what they left is saved. The first 271 bytes of that file are loaded into any
-- store of the right length: all that the calls left stored is there again.
abbrev pub SavesLoad : Type 0
SavesLoad =
    (l : Loading) → l.result.number ≡ 0 → Bytes l.file.now → (ms : List Made) → InTurn (box_of l) ms → Every Fit (calls_of ms)
    → (v : Saving) → SavingOf (last (box_of l) ms) v
    → (l' : Loading) → l'.file.now ≡ take (image_size mf0aes20) v.file'.now → length l'.store.now ≡ store_size mf0aes20
    → (v.number ≡ 0) × (l'.result.number ≡ 0) × (stored_of (box_of l') ≡ stored_of (last (box_of l) ms))

-- the definition's claim, at the box that the calls left
left-loads : (l : Loading) → l.result.number ≡ 0 → Bytes l.file.now → (ms : List Made) → InTurn (box_of l) ms → Every Fit (calls_of ms)
    → LoadsAgain (last (box_of l) ms).tag (last (box_of l) ms).store
left-loads l e h ms turn fit =
    let left = last-run (box_of l) ms turn ∙ ap (λ (b : Box). end tag_machine b (calls_of ms)) (loaded-box l) in
    subst (λ (b : Box). LoadsAgain b.tag b.store) (sym left)
    (saved-at-any-time l.file.now l.store.now h (sym l.met.0 ∙ e) (calls_of ms) fit)

pub saves-load : SavesLoad
unfolding stored_of
saves-load l e h ms turn fit v g l' file size =
    let b = last (box_of l) ms in
    let s = l'.store.now in
    let d = saving-of b v g in
    let a = left-loads l e h ms turn fit v.file.now s g.room size in
    let same = file ∙ ap (take (image_size mf0aes20)) d.1 in (
      d.0 ∙ a.0,
      l'.met.0 ∙ ap (λ (i : List ℕ). (load i s).number) same ∙ a.1,
      ap stored_of (loaded-box l' ∙ ap (λ (i : List ℕ). loaded_box i s) same)
          ∙ (λ k. record {
            pages = a.3 k;
            counters = (a.2 k).counters;
            failed = (a.2 k).failed;
            originality = (a.2 k).originality;
          }),
    )

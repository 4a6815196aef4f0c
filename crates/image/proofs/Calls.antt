-- Laws of the two calls: what holds where a call is answered 0, what it then leaves, and what it leaves where it is refused.
--
--   load-right, load-done, load-refused
--   save-right, save-done, save-refused
--
-- Assumes nothing.
use mathlib.Core.Path.{◌≡◌, refl}
use mathlib.Core.List.{List}
use mathlib.Core.Bool.{Bool, true, false, not, ◌||◌}
use Prim.Native.Nat.{ℕ, ◌≤◌}
use native.Mathlib.Omega.{arith}
use borrow.Author.Tests.{eqb-true, ne_eqb, ltb-false}
use lib.Dec.{ltb, eqb}
use lib.ListN.{length}
use lib.Seq.{sets}
use Rattle.model.specs.declared.Tag.{Tag}
use Rattle.model.specs.Map.{mf0aes20, store_size}
use Rattle.model.specs.Record.{zero_tag, possible}
use Rattle.model.specs.Numbers.{number_if}
use Rattle.model.specs.Image.{image_size, image_of, image_right, tag_of, store_of, load_number, load, save_number, save}
use Rattle.model.proofs.Image as claims

module _ (i s : List ℕ) where
  pub load-right : load_number i s ≡ 0 → (length s ≡ store_size mf0aes20) × (image_right mf0aes20 i ≡ true)
  unfolding load
  load-right h = claims.load-right i s h

  pub load-done : load_number i s ≡ 0 → load i s ≡ record { number = 0; tag = tag_of mf0aes20 i; store = store_of mf0aes20 i }
  unfolding load
  load-done h = claims.load-done i s h

  pub load-refused : (load_number i s ≡ 0 → ⊥) → load i s ≡ record { number = load_number i s; tag = zero_tag; store = s }
  unfolding load
  load-refused h = rw (ne_eqb _ _ h)

none : (a b c : Bool) → number_if (not a || b || not c) 10 ≡ 0 → (a ≡ true) × (b ≡ false)
unfolding number_if
none true false c h = (refl, refl)
none true true c h = absurd (omega arith)
none false b c h = absurd (omega arith)

pub save-right : (tag : Tag) (s : List ℕ) (room : ℕ) → save_number tag s room ≡ 0 → (length s ≡ store_size mf0aes20) × (image_size mf0aes20 ≤ room)
unfolding save_number
save-right tag s room h =
    let p = none (eqb (length s) (store_size mf0aes20)) (ltb room (image_size mf0aes20)) (possible tag) h in
    (eqb-true _ _ p.0, ltb-false _ _ p.1)

module _ (tag : Tag) (s buffer : List ℕ) where
  pub save-done : save_number tag s (length buffer) ≡ 0 → save tag s buffer ≡ record { number = 0; image = sets buffer 0 (image_of mf0aes20 tag s) }
  unfolding save
  save-done h = rw h

  pub save-refused : (save_number tag s (length buffer) ≡ 0 → ⊥)
      → save tag s buffer ≡ record { number = save_number tag s (length buffer); image = buffer }
  unfolding save
  save-refused h = rw (ne_eqb _ _ h)

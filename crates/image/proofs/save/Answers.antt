-- `image::save` meets its contract: answered 0 the image is laid over the buffer, else the buffer is as it was.
-- Assumes nothing.
use mathlib.Core.Path.{refl, sym, ◌∙◌}
use lib.ListN.{length}
use Rattle.numbers.proofs.Checks.{positive}
use Rattle.image.proofs.Calls.{save-right, save-done, save-refused}
use Rattle.image.proofs.save.Goals as goal

pub lay_image-requires : goal.lay_image-requires
lay_image-requires c =
    let a = c.args in
    let right = save-right a.tag a.store.now (length a.image.now) (sym c.in-Ok.ensures) in
    rw c.mf0aes20.ensures (record { store_len = right.0; map_in_bounds = right.1 })

pub returns-in-Ok : goal.returns-in-Ok
returns-in-Ok c =
    let a = c.args in
    rw (save-done a.tag a.store.now a.image.now (sym c.in-Ok.ensures))
    (record { value = refl; image_after = rw c.mf0aes20.ensures at c.lay_image.ensures })

pub returns-in-Err : goal.returns-in-Err
returns-in-Err c =
    let a = c.args in
    rw (save-refused a.tag a.store.now a.image.now (λ e. positive _ (c.in-Err.ensures ∙ e)))
    (record { value = c.number.ensures ∙ c.in-Err.ensures; image_after = refl })

-- `image::load` meets its contract: answered 0 it hands back what the image holds, else the zero record and the store as it was.
-- Assumes nothing.
use mathlib.Core.Path.{refl, sym, ◌∙◌}
use Rattle.numbers.proofs.Checks.{positive}
use Rattle.image.proofs.Calls.{load-right, load-done, load-refused}
use Rattle.image.proofs.load.Goals as goal

pub take_pages-requires : goal.take_pages-requires
take_pages-requires c =
    let a = c.args in
    let right = load-right a.image.now a.store.now (sym c.in-Ok.ensures) in
    rw c.mf0aes20-map.ensures (record { store_len = right.0; image_value = right.1 })

pub returns-in-Ok : goal.returns-in-Ok
returns-in-Ok c =
    let a = c.args in
    let m = c.mf0aes20-map.ensures in
    rw (load-done a.image.now a.store.now (sym c.in-Ok.ensures)) (record {
      number_value = refl;
      tag_value = rw m at c.tag_of.ensures;
      store_after = rw m at c.take_pages.ensures;
    })

pub returns-in-Err : goal.returns-in-Err
returns-in-Err c =
    let a = c.args in
    rw (load-refused a.image.now a.store.now (λ e. positive _ (c.in-Err.ensures ∙ e)))
    (record { number_value = c.number.ensures ∙ c.in-Err.ensures; tag_value = c.zero_tag.ensures; store_after = refl })

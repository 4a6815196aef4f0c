-- `image_write::lay_image` meets its contract: the sections one behind the other are the image.
-- Assumes nothing.
use Rattle.sections.proofs.Sections.{sections}
use Rattle.image_write.proofs.lay_image.Goals as goal

pub returns : goal.returns
returns c =
    let a = c.args in
    sections a.map a.tag a.store.now a.image.now _ _ _ _ _ _ _ c.requires.store_len
    c.lay_section.ensures
    c.counters_at.ensures
    c.lay_counters.ensures
    c.failed_at.ensures
    (rw c.to_le_bytes.ensures at c.lay_section-2.ensures)
    c.key_at.ensures
    c.lay_section-3.ensures

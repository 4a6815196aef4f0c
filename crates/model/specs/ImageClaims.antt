-- Document 01, "Image file": what loading and saving give back of each other.
--
--     WellFormed tag s     a tag's record and its store, as loading hands them out
--     Sizes                the places and the length of an image in numbers
--     LoadedWellFormed     an image of bytes, loaded, gives a well-formed tag
--     LoadedWaiting        loading leaves WAITING and no challenge
--     ImageOfLoaded        the image of what a right image of bytes holds is that image, for every map
--     ImageHolds           the image of a tag's record and store with right check bytes is right and holds them, for every map
--     LoadThenSave         a loaded tag is saved as the image it was loaded from
--     SaveThenLoad         a well-formed tag, saved and loaded, has all its stored memory again
--     SavedAtAnyTime       and so has every tag that calls from a loading left
--
-- proofs/Image.antt proves each, proofs/Claims.antt the last. Assumes nothing.
use Rattle.std.specs.Prelude.{◌≡◌, List, true, ℕ, ◌≤◌, length, take}
use Rattle.std.proofs.lemmas.List.Edits.{sets}
use Rattle.fips197.specs.State.{IsBlock}
use Rattle.forget.specs.Machine.{end}
use Rattle.model.specs.declared.Map.{Map}
use Rattle.model.specs.declared.Tag.{Tag}
use Rattle.model.specs.declared.State.TheVariants.{Waiting}
use Rattle.model.specs.Map.{mf0aes20, store_size, reply_size, last_page, longest_frame}
use Rattle.model.specs.Record.{zeros, possible, fleeting}
use Rattle.model.specs.Image.{counters_at, failed_at, key_at, image_size, image_of, check_bytes_right, image_right, tag_of, store_of, load, save}
use Rattle.model.specs.Calls.{tag_machine, Bytes}
use Rattle.model.specs.FieldClaims.{FromEveryImage}

-- the counters and the failed count within their bounds are part of a possible record
pub record WellFormed (tag : Tag) (s : List ℕ) : Type 0 where
  pub size : length s ≡ store_size mf0aes20
  pub bytes : Bytes s
  pub three : length tag.counters ≡ 3
  pub bounded : possible tag ≡ true
  pub key : IsBlock tag.originality
  pub check : check_bytes_right s ≡ true

abbrev pub Sizes : Type 0
Sizes =
    (store_size mf0aes20 ≡ 240) × (reply_size mf0aes20 ≡ 242) × (last_page mf0aes20 ≡ 0x3b) × (longest_frame ≡ 64) × (counters_at mf0aes20 ≡ 241) × (failed_at mf0aes20 ≡ 251) × (key_at mf0aes20 ≡ 254) × (image_size mf0aes20 ≡ 271)

abbrev pub LoadedWellFormed : Type 0
LoadedWellFormed =
    (i s : List ℕ) → Bytes i → let l = load i s in
    l.number ≡ 0 → WellFormed l.tag l.store

-- loading leaves WAITING and no challenge
abbrev pub LoadedWaiting : Type 0
LoadedWaiting = (i s : List ℕ) → (load i s).number ≡ 0 → ((load i s).tag.state ≡ Waiting) × ((load i s).tag.challenge ≡ zeros)

abbrev pub ImageOfLoaded : Type 0
ImageOfLoaded = (m : Map) (i : List ℕ) → Bytes i → image_right m i ≡ true → image_of m (tag_of m i) (store_of m i) ≡ i

abbrev pub ImageHolds : Type 0
ImageHolds =
    (m : Map) (tag : Tag) (s : List ℕ) → length s ≡ store_size m → length tag.counters ≡ 3 → possible tag ≡ true
    → length tag.originality ≡ 16 → 9 ≤ length s → check_bytes_right s ≡ true → let i = image_of m tag s in
    (image_right m i ≡ true) × (tag_of m i ≡ fleeting Waiting zeros tag) × (store_of m i ≡ s)

-- the image fills the first bytes of the buffer, and the others stay
abbrev pub LoadThenSave : Type 0
LoadThenSave =
    (i s buffer : List ℕ) → Bytes i → let l = load i s in let v = save l.tag l.store buffer in
    l.number ≡ 0 → image_size mf0aes20 ≤ length buffer → (v.number ≡ 0) × (v.image ≡ sets buffer 0 i)

-- counters, failed count, originality key and store are the same; the tag is in WAITING, and its challenge is zeros
abbrev pub SaveThenLoad : Type 0
SaveThenLoad =
    (tag : Tag) (s buffer other : List ℕ) → WellFormed tag s → image_size mf0aes20 ≤ length buffer → length other ≡ store_size mf0aes20
    → let v = save tag s buffer in let l = load (take (image_size mf0aes20) v.image) other in
    (v.number ≡ 0) × (l.number ≡ 0) × (l.tag ≡ fleeting Waiting zeros tag) × (l.store ≡ s)

-- saved into any buffer that is long enough, and the first bytes of that loaded into any store of the right length: the same
abbrev pub LoadsAgain : Tag → List ℕ → Type 0
LoadsAgain tag s =
    (buffer other : List ℕ) → image_size mf0aes20 ≤ length buffer → length other ≡ store_size mf0aes20
    → let v = save tag s buffer in let l = load (take (image_size mf0aes20) v.image) other in
    (v.number ≡ 0) × (l.number ≡ 0) × (l.tag ≡ fleeting Waiting zeros tag) × (l.store ≡ s)

abbrev pub SavedAtAnyTime : Type 0
SavedAtAnyTime = FromEveryImage (λ b calls. LoadsAgain (end tag_machine b calls).tag (end tag_machine b calls).store)

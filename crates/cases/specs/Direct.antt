-- Bench cases of single calls: number 10 by each of its reasons, and the image calls, on records, stores and buffers as they are given.
--
--     direct             these, and those of States.antt
--     DirectRight        each of them is right
--
-- tools/cases.py works every value out. proofs/Cases.antt proves the statement by computing. Assumes nothing.
use Rattle.std.specs.Prelude.{List, [], ◌∷◌, ◌++◌, ℕ, T, take, drop, replicate}
use Rattle.model.specs.declared.Tag.{Tag}
use Rattle.model.specs.declared.State.{State}
use Rattle.model.specs.declared.Barred.TheVariants.{Open}
use Rattle.model.specs.declared.State.TheVariants.{Waiting, Active, Authenticated, Challenged, Unknown}
use Rattle.model.specs.Record.{zeros}
use Rattle.model.specs.Frame.{Said, silence, nibble, bytes}
use Rattle.model.specs.CaseImages.{hex, counter, failed, patched, base}
use Rattle.model.specs.CaseForm.{blank}
use Rattle.cases.specs.DirectForm.{Direct, framed, loads, saves, all_direct_right}
use Rattle.cases.specs.States.{state_rows}

-- ---- records, stores and frames

-- the pages of the base image
abbrev pub pages : List ℕ
pages = take 240 (drop 1 base)

-- a record with the base image's originality key
abbrev pub held : List ℕ → ℕ → List ℕ → State → Tag
held counters failed challenge st = record {
  counters = counters;
  failed = failed;
  originality = take 16 (drop 255 base);
  state = st;
  challenge = challenge;
}

-- a record with nothing wrong: its numbers are as high as they may be, and its challenge bytes aren't judged
abbrev pub sound : State → Tag
sound st = held (0xffffff ∷ 0xffffff ∷ 0xffffff ∷ []) 1023 (replicate 16 0x77) st

-- the same with its challenge bytes dropped
abbrev pub sound_left : State → Tag
sound_left st = held (0xffffff ∷ 0xffffff ∷ 0xffffff ∷ []) 1023 zeros st

-- READ 04h
abbrev pub read04 : List ℕ
read04 = hex 4 0x3004_26ee

abbrev pub spare : List ℕ
spare = replicate 16 0xa5

-- number 10: silence, and the record and the store as they came
abbrev pub ten : Tag → List ℕ → List ℕ → List ℕ → ℕ → Direct
ten tag s f random room = framed tag s f random room (record { number = 10; said = silence; reason = Open; tag = tag; store = s })

-- 10 comes first: with a frame that would be carried out, with one that would be 2, and in WAITING, where it would be 1
abbrev pub ten_first : (State → Tag) → List ℕ → List ℕ → ℕ → List Direct
ten_first tag s random room =
    ten (tag Active) s read04 random room ∷ ten (tag Active) s [] random room ∷ ten (tag Waiting) s read04 random room ∷ []

-- the first two of these, for a state that is wrong itself
abbrev pub ten_in : State → List Direct
ten_in st = ten (sound st) pages read04 spare 242 ∷ ten (sound st) pages [] spare 242 ∷ []

-- a loading that is refused hands back the record that is all zero, in WAITING, and leaves the store
abbrev pub not_loaded : ℕ → List ℕ → List ℕ → Direct
not_loaded n i s =
    loads i s (record {
      number = n;
      tag = record { counters = 0 ∷ 0 ∷ 0 ∷ []; failed = 0; originality = zeros; state = Waiting; challenge = zeros };
      store = s;
    })

-- the base image with another byte at one place
abbrev pub counted : ℕ → ℕ → List ℕ
counted at n = patched base (record { from = at; bytes = n ∷ [] } ∷ [])

-- a writing of a record with the base image's pages: the buffer, and what it is afterwards
abbrev pub filled : Tag → List ℕ → List ℕ → Direct
filled tag buffer image = saves tag pages buffer (record { number = 0; image = image })

-- a writing that is refused leaves the buffer
abbrev pub not_saved : Tag → List ℕ → List ℕ → Direct
not_saved tag s buffer = saves tag s buffer (record { number = 10; image = buffer })

-- ---- from here on written by tools/cases.py

-- the reply to READ 04h from the base image
abbrev pub pages04 : Said
pages04 = bytes (hex 18 0x04fb1d35_05fa2442_06f92b4f_07f8325c_8919)

-- an image with counters, and with the highest failed count
abbrev pub full : List ℕ
full = patched base (counter 0 (hex 3 0x010203) ∷ counter 1 (hex 3 0x040506) ∷ counter 2 (hex 3 0xffffff) ∷ failed (hex 2 0xff03) ∷ [])

-- an image with a serial number of zeros, and its check bytes
abbrev pub zero_serial_image : List ℕ
zero_serial_image = patched base (record { from = 1; bytes = 0x00 ∷ 0x00 ∷ 0x00 ∷ 0x88 ∷ 0x00 ∷ 0x00 ∷ 0x00 ∷ 0x00 ∷ 0x00 ∷ [] } ∷ [])

-- the record that it holds
abbrev pub full_tag : List ℕ → State → Tag
full_tag challenge st = held (0x030201 ∷ 0x060504 ∷ 0xffffff ∷ []) 1023 challenge st

-- With nothing wrong the three frames are 0, 2 and 1, and a longer reply buffer is as good. 1 keeps the record as it came.
abbrev pub nothing_wrong : List Direct
nothing_wrong =
    framed (sound Active) pages read04 spare 242 (record { number = 0; said = pages04; reason = Open; tag = sound_left Active; store = pages }) ∷
    framed (sound Active) pages read04 spare 300 (record { number = 0; said = pages04; reason = Open; tag = sound_left Active; store = pages }) ∷
    framed (sound Active) pages [] spare 242 (record { number = 2; said = nibble 0x1; reason = Open; tag = sound_left Waiting; store = pages }) ∷
    framed (sound Waiting) pages read04 spare 242 (record { number = 1; said = silence; reason = Open; tag = sound Waiting; store = pages }) ∷ []

-- A store of 239 bytes: 10.
abbrev pub store_of239 : List Direct
store_of239 = ten_first sound (take 239 pages) spare 242

-- A store of 241 bytes: 10.
abbrev pub store_of241 : List Direct
store_of241 = ten_first sound (pages ++ (0x00 ∷ [])) spare 242

-- A reply buffer of 241 bytes: 10.
abbrev pub reply_of241 : List Direct
reply_of241 = ten_first sound pages spare 241

-- A random block of 15 bytes: 10.
abbrev pub random_of15 : List Direct
random_of15 = ten_first sound pages (replicate 15 0xa5) 242

-- A random block of 17 bytes: 10.
abbrev pub random_of17 : List Direct
random_of17 = ten_first sound pages (replicate 17 0xa5) 242

-- Counter 0 at 1000000h: 10.
abbrev pub counter0_above : List Direct
counter0_above = ten_first (held (0x1000000 ∷ 0 ∷ 0 ∷ []) 0 zeros) pages spare 242

-- Counter 1 at 1000000h: 10.
abbrev pub counter1_above : List Direct
counter1_above = ten_first (held (0 ∷ 0x1000000 ∷ 0 ∷ []) 0 zeros) pages spare 242

-- Counter 2 at 1000000h: 10.
abbrev pub counter2_above : List Direct
counter2_above = ten_first (held (0 ∷ 0 ∷ 0x1000000 ∷ []) 0 zeros) pages spare 242

-- A failed count of 1,024: 10.
abbrev pub count_of1024 : List Direct
count_of1024 = ten_first (held (0 ∷ 0 ∷ 0 ∷ []) 1024 zeros) pages spare 242

-- A state that doesn't exist, whatever its number: 10.
abbrev pub unknown_state : List Direct
unknown_state = ten_in (Unknown 0) ++ ten_in (Unknown 255)

-- CHALLENGED with key number 3, and with 255: 10.
abbrev pub unknown_key : List Direct
unknown_key = ten_in (Challenged 3) ++ ten_in (Challenged 255)

-- A loading answered 0, with a count of 1,023 and a counter of FFFFFFh.
abbrev pub loaded : List Direct
loaded = loads full blank (record { number = 0; tag = full_tag zeros Waiting; store = pages }) ∷ []

-- Loading images of 270, 272 and no bytes: 12.
abbrev pub image_length : List Direct
image_length = not_loaded 12 (take 270 base) blank ∷ not_loaded 12 (base ++ (0x00 ∷ [])) blank ∷ not_loaded 12 [] blank ∷ []

-- 59 and 61 for the count of pages: 12.
abbrev pub pages_count : List Direct
pages_count = not_loaded 12 (counted 0 59) blank ∷ not_loaded 12 (counted 0 61) blank ∷ []

-- 2 and 4 for the count of counters: 12.
abbrev pub counters_count : List Direct
counters_count = not_loaded 12 (counted 241 2) blank ∷ not_loaded 12 (counted 241 4) blank ∷ []

-- 0 and 2 for the count of failed counts: 12.
abbrev pub failed_count : List Direct
failed_count = not_loaded 12 (counted 251 0) blank ∷ not_loaded 12 (counted 251 2) blank ∷ []

-- 0 and 2 for the count of originality keys: 12.
abbrev pub key_count : List Direct
key_count = not_loaded 12 (counted 254 0) blank ∷ not_loaded 12 (counted 254 2) blank ∷ []

-- Failed counts of 1,024 and 65,535: 12.
abbrev pub image_of1024 : List Direct
image_of1024 =
    not_loaded 12 (patched base (failed (hex 2 0x0004) ∷ [])) blank ∷
    not_loaded 12 (patched base (failed (hex 2 0xffff) ∷ [])) blank ∷ []

-- Each bit of BCC0 wrong: 12.
abbrev pub check_byte0 : List Direct
check_byte0 =
    not_loaded 12 (counted 4 0xf0) blank ∷
    not_loaded 12 (counted 4 0xf3) blank ∷
    not_loaded 12 (counted 4 0xf5) blank ∷
    not_loaded 12 (counted 4 0xf9) blank ∷
    not_loaded 12 (counted 4 0xe1) blank ∷
    not_loaded 12 (counted 4 0xd1) blank ∷
    not_loaded 12 (counted 4 0xb1) blank ∷
    not_loaded 12 (counted 4 0x71) blank ∷ []

-- Each bit of BCC1 wrong: 12. One of them has 88h in it.
abbrev pub check_byte1 : List Direct
check_byte1 =
    not_loaded 12 (counted 9 0x11) blank ∷
    not_loaded 12 (counted 9 0x12) blank ∷
    not_loaded 12 (counted 9 0x14) blank ∷
    not_loaded 12 (counted 9 0x18) blank ∷
    not_loaded 12 (counted 9 0x00) blank ∷
    not_loaded 12 (counted 9 0x30) blank ∷
    not_loaded 12 (counted 9 0x50) blank ∷
    not_loaded 12 (counted 9 0x90) blank ∷
    not_loaded 12 (counted 9 0x98) blank ∷ []

-- A bit of each byte of the serial number wrong, under the check bytes of the right one: 12.
abbrev pub serial_bytes : List Direct
serial_bytes =
    not_loaded 12 (counted 1 0x06) blank ∷
    not_loaded 12 (counted 2 0x55) blank ∷
    not_loaded 12 (counted 3 0x24) blank ∷
    not_loaded 12 (counted 5 0x7a) blank ∷
    not_loaded 12 (counted 6 0xd3) blank ∷
    not_loaded 12 (counted 7 0x47) blank ∷
    not_loaded 12 (counted 8 0x1f) blank ∷ []

-- A serial number of zeros has 88h and 00h for check bytes; with 00h and 88h it is 12.
abbrev pub zero_serial : List Direct
zero_serial =
    loads zero_serial_image blank (record { number = 0; tag = held (0 ∷ 0 ∷ 0 ∷ []) 0 zeros Waiting; store = take 240 (drop 1 zero_serial_image) }) ∷
    not_loaded 12 (patched zero_serial_image (record { from = 4; bytes = 0x00 ∷ [] } ∷ record { from = 9; bytes = 0x88 ∷ [] } ∷ [])) blank ∷ []

-- Loading into stores of 239 and 241 bytes: 10, and with a wrong image too, as 10 comes before 12.
abbrev pub load_store : List Direct
load_store =
    not_loaded 10 base (take 239 blank) ∷
    not_loaded 10 base (blank ++ (0xff ∷ [])) ∷
    not_loaded 10 (take 270 base) (take 239 blank) ∷
    not_loaded 10 (counted 0 59) (blank ++ (0xff ∷ [])) ∷ []

-- A writing fills 271 bytes: of a buffer of 272 or 300 bytes the others stay.
abbrev pub saved : List Direct
saved =
    filled (full_tag zeros Active) (replicate 271 0xee) full ∷
    filled (full_tag zeros Active) (replicate 272 0xee) (full ++ (0xee ∷ [])) ∷
    filled (full_tag zeros Active) (replicate 300 0xee) (full ++ replicate 29 0xee) ∷ []

-- The state and the challenge bytes are not in an image.
abbrev pub saved_states : List Direct
saved_states =
    filled (full_tag (replicate 16 0x77) Waiting) (replicate 271 0xee) full ∷
    filled (full_tag (replicate 16 0x77) Authenticated) (replicate 271 0xee) full ∷
    filled (full_tag (replicate 16 0x77) (Challenged 2)) (replicate 271 0xee) full ∷ []

-- A writing into a buffer of 270 bytes, and of none: 10.
abbrev pub save_buffer : List Direct
save_buffer = not_saved (sound Active) pages (replicate 270 0xee) ∷ not_saved (sound Active) pages [] ∷ []

-- A writing from stores of 239 and 241 bytes: 10.
abbrev pub save_store : List Direct
save_store =
    not_saved (sound Active) (take 239 pages) (replicate 271 0xee) ∷
    not_saved (sound Active) (pages ++ (0x00 ∷ [])) (replicate 271 0xee) ∷ []

-- A writing of a record that no tag can have: 10.
abbrev pub save_record : List Direct
save_record =
    not_saved (held (0x1000000 ∷ 0 ∷ 0 ∷ []) 0 zeros Active) pages (replicate 271 0xee) ∷
    not_saved (held (0 ∷ 0x1000000 ∷ 0 ∷ []) 0 zeros Active) pages (replicate 271 0xee) ∷
    not_saved (held (0 ∷ 0 ∷ 0x1000000 ∷ []) 0 zeros Active) pages (replicate 271 0xee) ∷
    not_saved (held (0 ∷ 0 ∷ 0 ∷ []) 1024 zeros Active) pages (replicate 271 0xee) ∷
    not_saved (sound (Unknown 0)) pages (replicate 271 0xee) ∷
    not_saved (sound (Challenged 3)) pages (replicate 271 0xee) ∷ []

unfoldable pub direct : List Direct
direct =
    state_rows ++ nothing_wrong ++ store_of239 ++ store_of241 ++ reply_of241 ++ random_of15 ++ random_of17 ++ counter0_above ++
    counter1_above ++ counter2_above ++ count_of1024 ++ unknown_state ++ unknown_key ++ loaded ++ image_length ++ pages_count ++
    counters_count ++ failed_count ++ key_count ++ image_of1024 ++ check_byte0 ++ check_byte1 ++ serial_bytes ++ zero_serial ++
    load_store ++ saved ++ saved_states ++ save_buffer ++ save_store ++ save_record

abbrev pub DirectRight : Type 0
DirectRight = T (all_direct_right direct)

-- Which calls demand 3 strikes out, on lists of calls to the tag itself, and that its hypotheses can be met.
--
--     Row              a list of calls from the loading of the base image, and the number and fate of each
--     rows             the lists
--     StruckRight      each list has the numbers and fates that its row says
--     RandomKept       the calls that stay keep their own random bytes
--     SampleMeetsAll   the base image and a list of calls meet every hypothesis of demand 3 and of the claims from every image
--
-- proofs/Struck.antt proves each by computing. Assumes nothing.
use Rattle.std.specs.Prelude.{◌≡◌, List, [], ◌∷◌, ◌++◌, map, ℕ, replicate}
use Rattle.crc.specs.CrcA.{with_crc}
use Rattle.forget.specs.Machine.{Entry, Every, log}
use Rattle.forget.specs.Striking.{clean, Fate, stays, first, behind, fates, remaining}
use Rattle.model.specs.Image.{load}
use Rattle.model.specs.Calls.{Box, Call, power, select, frame, tag_machine, Bytes, Fit, loaded_box}
use Rattle.model.specs.CaseImages.{base}
use Rattle.model.specs.CaseForm.{blank}

abbrev pub sample : Box
sample = loaded_box base blank

-- a frame with its CRC_A and sixteen copies of r as its random bytes
abbrev pub sending : ℕ → List ℕ → Call
sending r f = frame (with_crc f) (replicate 16 r) 242

abbrev pub read04 : Call
read04 = sending 1 (0x30 ∷ 0x04 ∷ [])

abbrev pub read_3c : Call
read_3c = sending 2 (0x30 ∷ 0x3c ∷ [])

abbrev pub halt : Call
halt = sending 3 (0x50 ∷ 0x00 ∷ [])

-- a frame whose CRC_A is wrong
abbrev pub garbled : Call
garbled = frame (0x30 ∷ 0x04 ∷ 0x00 ∷ 0x00 ∷ []) (replicate 16 4) 242

-- part 1 with DataProtKey, and a part 2 that proves nothing
abbrev pub challenge : ℕ → Call
challenge r = sending r (0x1a ∷ 0x00 ∷ [])

abbrev pub false_proof : Call
false_proof = sending 6 (0xaf ∷ replicate 32 0)

pub record Row : Type 0 where
  pub calls : List Call
  pub numbers : List ℕ
  pub fates : List Fate

abbrev pub rows : List Row
rows =
    -- a frame right after the loading gets 1, and is struck up to the first boundary
    record { calls = read04 ∷ read04 ∷ power ∷ select ∷ read04 ∷ []; numbers = 1 ∷ 1 ∷ 0 ∷ 0 ∷ 0 ∷ []; fates = first ∷ behind ∷ stays ∷ stays ∷ stays ∷ [] }
    -- after HLTA a frame gets 1
    ∷ record { calls = select ∷ halt ∷ read04 ∷ []; numbers = 0 ∷ 0 ∷ 1 ∷ []; fates = stays ∷ stays ∷ first ∷ [] }
    -- an 8 stays; the frame after it gets 1 and is struck; a selection and a good frame stay
    ∷ record {
      calls = select ∷ challenge 5 ∷ false_proof ∷ read04 ∷ select ∷ read04 ∷ [];
      numbers = 0 ∷ 0 ∷ 8 ∷ 1 ∷ 0 ∷ 0 ∷ [];
      fates = stays ∷ stays ∷ stays ∷ first ∷ stays ∷ stays ∷ [];
    }
    -- two stretches with different refusals: 5 in the first, 2 in the second
    ∷ record {
      calls = select ∷ read04 ∷ read_3c ∷ read04 ∷ halt ∷ select ∷ garbled ∷ read04 ∷ [];
      numbers = 0 ∷ 0 ∷ 5 ∷ 1 ∷ 1 ∷ 0 ∷ 2 ∷ 1 ∷ [];
      fates = stays ∷ stays ∷ first ∷ behind ∷ behind ∷ stays ∷ first ∷ behind ∷ [];
    }
    ∷ []

-- the log of a row's calls has its numbers, and its fates
abbrev pub RowRight : Row → Type 0
RowRight r =
    let l = log tag_machine sample r.calls in
    (map (λ (e : Entry tag_machine). e.number) l ≡ r.numbers) × (fates tag_machine clean l ≡ r.fates)

abbrev pub StruckRight : Type 0
StruckRight = Every RowRight rows

-- two challenges with random bytes of their own, and a garbled frame between them
abbrev pub two_challenges : List Call
two_challenges = select ∷ challenge 7 ∷ garbled ∷ select ∷ challenge 8 ∷ []

abbrev pub RandomKept : Type 0
RandomKept = remaining tag_machine clean (log tag_machine sample two_challenges) ≡ select ∷ challenge 7 ∷ select ∷ challenge 8 ∷ []

abbrev pub SampleMeetsAll : Type 0
SampleMeetsAll = ((load base blank).number ≡ 0) × Bytes base × Every Fit (two_challenges ++ (read04 ∷ halt ∷ read_3c ∷ []))

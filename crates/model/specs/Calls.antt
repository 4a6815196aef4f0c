-- Document 01, "Demand 3 in full": the tag as a machine that is given calls, and a run from a loading.
--
--     Box                 the record and the store, as the calls before left them
--     Call                a power-on, a selection, or a frame with its random bytes and the length of its reply buffer
--     Report              what a call tells beside its number: the reply, and the place of the rule that stopped a WRITE
--     step                what a call gives, and the box it leaves
--     Stored, stored_of    document 01's stored memory: pages, counters, failed count, originality key
--     refuses             document 01's refused: any number but 0; a failed authentication, number 8, is no such refusal here
--     tag_machine          the tag as a machine of the crate forget
--     WellSized c         no length in number 10's row is wrong
--     Fit c               well-sized, and what is lent holds bytes
--     loaded_box i s       the box that the loading of an image leaves
--
-- Assumes nothing.
use Rattle.std.specs.Prelude.{◌≡◌, List, Bool, true, false, not, ◌&&◌, ℕ, ◌≤◌, ◌<◌, eqb, length, get_or}
use Rattle.forget.specs.Machine.{Given, Machine}
use Rattle.model.specs.declared.Tag.{Tag}
use Rattle.model.specs.Map.{mf0aes20, reply_size}
use Rattle.model.specs.Record as record'
use Rattle.model.specs.Writing.{barred_place}
use Rattle.model.specs.Frame as frame'
use Rattle.model.specs.Frame.{Said, silence}
use Rattle.model.specs.Image.{load}

pub record Box : Type 0 where
  pub tag : Tag
  pub store : List ℕ

-- frames and random bytes are values given with the list; room is the length of the lent reply buffer
pub data Call : Type 0 where
  power select : Call
  frame : (bytes random : List ℕ) (room : ℕ) → Call

-- all that demand 3 compares of an answer beside its number
pub record Report : Type 0 where
  pub reply : Said
  pub place : ℕ

-- silence, and no WRITE that a rule stopped
abbrev pub quiet : Report
quiet = record { reply = silence; place = 0 }

unfoldable pub step : Box → Call → Given Box Report
step b power = record { number = 0; said = quiet; next = record { tag = record'.power b.tag; store = b.store } }
step b select = record { number = 0; said = quiet; next = record { tag = record'.select b.tag; store = b.store } }
step b (frame f random room) =
    let o = frame'.frame b.tag b.store f random room in
    record {
      number = o.number;
      said = record { reply = o.said; place = barred_place o.reason };
      next = record { tag = o.tag; store = o.store };
    }

-- document 01's stored memory
pub record Stored : Type 0 where
  pub pages : List ℕ
  pub counters : List ℕ
  pub failed : ℕ
  pub originality : List ℕ

unfoldable pub stored_of : Box → Stored
stored_of b = record {
  pages = b.store;
  counters = b.tag.counters;
  failed = b.tag.failed;
  originality = b.tag.originality;
}

-- document 01's boundary: a power-on or a selection
unfoldable pub boundary : Call → Bool
boundary power = true
boundary select = true
boundary (frame f random room) = false

-- document 01's refused is any number but 0; demand 3 strikes out none for a failed authentication, number 8
unfoldable pub refuses : ℕ → Bool
refuses n = not (eqb n 0) && not (eqb n 8)

-- in the base no frame wakes a waiting tag, and no call is cut
abbrev pub tag_machine : Machine
tag_machine = record {
  Call = Call;
  State = Box;
  Said = Report;
  Stored = Stored;
  step = step;
  silence = quiet;
  stored = stored_of;
  boundary = boundary;
  refuses = refuses;
  wakes = λ c. false;
  cut = λ n. false;
}

-- every element is below 256; past the end the 0 is
abbrev pub Bytes : List ℕ → Type 0
Bytes l = (i : ℕ) → get_or l i 0 < 256

-- document 01's well-sized: a reply buffer of at least 242 bytes and 16 random bytes; the store has its size from the loading on
abbrev pub WellSized : Call → Type 0
WellSized power = Unit {0}
WellSized select = Unit {0}
WellSized (frame f random room) = (length random ≡ 16) × (reply_size mf0aes20 ≤ room)

-- what is lent holds bytes
abbrev pub OfBytes : Call → Type 0
OfBytes power = Unit {0}
OfBytes select = Unit {0}
OfBytes (frame f random room) = Bytes f × Bytes random

-- a call that a program can make with well-sized buffers
abbrev pub Fit : Call → Type 0
Fit c = WellSized c × OfBytes c

-- the box that the loading of the image i into the store s leaves
abbrev pub loaded_box : List ℕ → List ℕ → Box
loaded_box i s = record { tag = (load i s).tag; store = (load i s).store }

-- Demand 1 of the request: what a refusal leaves, for every record, store, frame, random block and buffer length.
--
--     NumberInTable        a frame is answered 0 to 11
--     RefusalEnds          a frame answered 2 to 9 or 11 ends the session, writes no reply byte and stores nothing, but a count of 8
--     KeepsAll             a frame answered 1 or 10 changes nothing and gets silence
--     PowerKeepsStored, SelectKeepsStored    the two events keep all that is stored, whatever the record
--     LoadRefused          a load answered 10 or 12 hands back the zero record and leaves the store
--     SaveRefused          a save answered 10 leaves the image buffer
--
-- proofs/Demand1.antt proves each. Assumes nothing.
use Rattle.std.specs.Prelude.{◌≡◌, List, not, ◌&&◌, cond, ◌⊎◌, ℕ, ◌+◌, ◌≤◌, eqb}
use Rattle.forget.specs.Machine.{Given}
use Rattle.model.specs.declared.Tag.{Tag}
use Rattle.model.specs.declared.State.{State}
use Rattle.model.specs.declared.State.TheVariants.{Waiting, Active}
use Rattle.model.specs.declared.Barred.TheVariants.{Open}
use Rattle.model.specs.Map.{mf0aes20}
use Rattle.model.specs.Settings.{auth_limit}
use Rattle.model.specs.Record.{zeros, zero_tag}
use Rattle.model.specs.Numbers.{nibble_of}
use Rattle.model.specs.Frame.{silence, nibble, Outcome, frame, laid_over}
use Rattle.model.specs.Image.{load, save}
use Rattle.model.specs.Calls.{Box, power, select, Report, quiet, stored_of, step}

abbrev pub NumberInTable : Type 0
NumberInTable = (tag : Tag) (s f random : List ℕ) (room : ℕ) → (frame tag s f random room).number ≤ 11

-- what a refused frame leaves of the record, store and reply buffer that it was given
pub record Ended (tag : Tag) (s : List ℕ) (o : Outcome) : Type 0 where
  pub waiting : o.tag.state ≡ Waiting
  pub forgotten : o.tag.challenge ≡ zeros
  pub nak : o.said ≡ nibble (nibble_of o.number)
  pub unwritten : (buffer : List ℕ) → laid_over buffer o.said ≡ buffer
  pub pages : o.store ≡ s
  pub counters : o.tag.counters ≡ tag.counters
  pub originality : o.tag.originality ≡ tag.originality
  -- a failed authentication raises the count by exactly one where AUTH_LIM is not 0
  pub count : o.tag.failed
      ≡ cond (eqb o.number 8 && not (eqb (auth_limit mf0aes20 s) 0)) (tag.failed + 1) tag.failed

abbrev pub RefusalEnds : Type 0
RefusalEnds =
    (tag : Tag) (s f random : List ℕ) (room : ℕ) → let o = frame tag s f random room in
    (o.number ≡ 0 → ⊥) → (o.number ≡ 1 → ⊥) → (o.number ≡ 10 → ⊥) → Ended tag s o

pub record Unchanged (tag : Tag) (s : List ℕ) (o : Outcome) : Type 0 where
  pub record' : o.tag ≡ tag
  pub pages : o.store ≡ s
  pub silent : o.said ≡ silence
  pub unstopped : o.reason ≡ Open

abbrev pub KeepsAll : Type 0
KeepsAll =
    (tag : Tag) (s f random : List ℕ) (room : ℕ) → let o = frame tag s f random room in
    (o.number ≡ 1) ⊎ (o.number ≡ 10) → Unchanged tag s o

-- answered 0 with silence, whatever the record; all that is stored is kept, and the fleeting part is the state and no challenge
pub record Event (b : Box) (st : State) (g : Given Box Report) : Type 0 where
  pub number : g.number ≡ 0
  pub silent : g.said ≡ quiet
  pub kept : stored_of g.next ≡ stored_of b
  pub state : g.next.tag.state ≡ st
  pub challenge : g.next.tag.challenge ≡ zeros

abbrev pub PowerKeepsStored : Type 0
PowerKeepsStored = (b : Box) → Event b Waiting (step b power)

abbrev pub SelectKeepsStored : Type 0
SelectKeepsStored = (b : Box) → Event b Active (step b select)

abbrev pub LoadRefused : Type 0
LoadRefused =
    (i s : List ℕ) → let l = load i s in
    (l.number ≡ 0 → ⊥) → ((l.number ≡ 10) ⊎ (l.number ≡ 12)) × (l.tag ≡ zero_tag) × (l.store ≡ s)

abbrev pub SaveRefused : Type 0
SaveRefused =
    (tag : Tag) (s buffer : List ℕ) → let v = save tag s buffer in
    (v.number ≡ 0 → ⊥) → (v.number ≡ 10) × (v.image ≡ buffer)

-- A bench case that no loading leads to: its form, and when it is right.
--
--     Direct             what is given to a call, and what must come of it
--     direct_right d      the call gives that
--
-- States.antt and Direct.antt have the cases. Assumes nothing.
use Rattle.std.specs.Prelude.{List, [], ◌∷◌, Bool, true, ◌&&◌, ℕ, eqb}
use Rattle.model.specs.declared.Tag.{Tag}
use Rattle.model.specs.declared.State.{State}
use Rattle.model.specs.declared.State.TheVariants.{Waiting, Active, Traceable, Authenticated, Challenged, Unknown}
use Rattle.model.specs.Record.{state_number, fleeting}
use Rattle.model.specs.Writing.{barred_place}
use Rattle.model.specs.Authentication.{same_bytes}
use Rattle.model.specs.Frame.{Outcome, frame}
use Rattle.model.specs.Image.{Loaded, load, Saved, save}
use Rattle.model.specs.Calls.{Box, loaded_box}
use Rattle.model.specs.CaseForm.{Case, same_said, played_right, blank}

pub data Direct : Type 0 where
  -- a case whose calls begin in the state st, with challenge bytes, and not as the loading of its image leaves the tag
  begun : (st : State) (challenge : List ℕ) (c : Case) → Direct
  framed : (tag : Tag) (store f random : List ℕ) (room : ℕ) (o : Outcome) → Direct
  loads : (image store : List ℕ) (l : Loaded) → Direct
  saves : (tag : Tag) (store buffer : List ℕ) (v : Saved) → Direct

-- the number that a state holds: of a key, or of a state that doesn't exist
abbrev pub held_number : State → ℕ
held_number Waiting = 0
held_number Active = 0
held_number Traceable = 0
held_number Authenticated = 0
held_number (Challenged k) = k
held_number (Unknown n) = n

unfoldable pub same_tag : Tag → Tag → Bool
same_tag a b =
    same_bytes a.counters b.counters && eqb a.failed b.failed && same_bytes a.originality b.originality
    && eqb (state_number a.state) (state_number b.state)
    && eqb (held_number a.state) (held_number b.state)
    && same_bytes a.challenge b.challenge

abbrev pub box_in : State → List ℕ → Box → Box
box_in st challenge b = record { tag = fleeting st challenge b.tag; store = b.store }

unfoldable pub direct_right : Direct → Bool
direct_right (begun st challenge c) =
    eqb (load c.image blank).number 0 && played_right c (box_in st challenge (loaded_box c.image blank)) c.lines
direct_right (framed tag s f random room o) =
    let r = frame tag s f random room in
    eqb r.number o.number && same_said r.said o.said && eqb (barred_place r.reason) (barred_place o.reason) && same_tag r.tag o.tag && same_bytes r.store o.store
direct_right (loads i s l) =
    let r = load i s in
    eqb r.number l.number && same_tag r.tag l.tag && same_bytes r.store l.store
direct_right (saves tag s buffer v) =
    let r = save tag s buffer in
    eqb r.number v.number && same_bytes r.image v.image

unfoldable pub all_direct_right : List Direct → Bool
all_direct_right [] = true
all_direct_right (d ∷ ds) = direct_right d && all_direct_right ds

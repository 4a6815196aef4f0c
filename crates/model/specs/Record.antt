-- Document 01, "Stored and fleeting": the tag's record, what of it is fleeting, and which records a tag can have.
--
--     zeros               sixteen zero bytes
--     state_number st      a number for each state; is_waiting st, .. tell which state it is
--     key_number st        the key number kept with CHALLENGED
--     exists st           the state exists, and so does its key number
--     possible tag        a record that a tag can have
--     fleeting st ch tag  the record with another state and challenge: the stored part is kept
--     power tag           the event Power          select tag    the event Select
--     zero_tag             the record that is all zero, in WAITING
--
-- Assumes nothing.
use Rattle.std.specs.Prelude.{List, [], ◌∷◌, Bool, ◌&&◌, ℕ, ltb, leb, eqb, get_or}
use Rattle.model.specs.declared.Tag.{Tag}
use Rattle.model.specs.declared.State.{State}
use Rattle.model.specs.declared.State.TheVariants.{Waiting, Active, Traceable, Authenticated, Challenged, Unknown}

abbrev pub zeros : List ℕ
zeros = 0 ∷ 0 ∷ 0 ∷ 0 ∷ 0 ∷ 0 ∷ 0 ∷ 0 ∷ 0 ∷ 0 ∷ 0 ∷ 0 ∷ 0 ∷ 0 ∷ 0 ∷ 0 ∷ []

-- a number for each state, by which states are told apart; 5 is for every one that doesn't exist
abbrev pub state_number : State → ℕ
state_number Waiting = 0
state_number Active = 1
state_number Traceable = 2
state_number Authenticated = 3
state_number (Challenged k) = 4
state_number (Unknown n) = 5

abbrev pub is_waiting : State → Bool
is_waiting st = eqb (state_number st) 0

abbrev pub is_active : State → Bool
is_active st = eqb (state_number st) 1

abbrev pub is_authenticated : State → Bool
is_authenticated st = eqb (state_number st) 3

abbrev pub is_challenged : State → Bool
is_challenged st = eqb (state_number st) 4

-- the key number kept with CHALLENGED
abbrev pub key_number : State → ℕ
key_number Waiting = 0
key_number Active = 0
key_number Traceable = 0
key_number Authenticated = 0
key_number (Challenged k) = k
key_number (Unknown n) = 0

-- the key number is judged only while CHALLENGED
unfoldable pub exists : State → Bool
exists st = ltb (state_number st) 5 && leb (key_number st) 2

-- the highest value of a counter, 24 bits (009 8.5.9), and of the failed count
abbrev pub highest_counter : ℕ
highest_counter = 0xffffff

abbrev pub highest_failed : ℕ
highest_failed = 1023

abbrev pub counter : Tag → ℕ → ℕ
counter tag n = get_or tag.counters n 0

unfoldable pub possible : Tag → Bool
possible tag =
    leb (counter tag 0) highest_counter && leb (counter tag 1) highest_counter && leb (counter tag 2) highest_counter
    && leb tag.failed highest_failed
    && exists tag.state

abbrev pub fleeting : State → List ℕ → Tag → Tag
fleeting st ch tag = record {
  counters = tag.counters;
  failed = tag.failed;
  originality = tag.originality;
  state = st;
  challenge = ch;
}

-- the two events: any record is taken, its stored part is handed on, and nothing of a login or a challenge is left
abbrev pub power : Tag → Tag
power tag = fleeting Waiting zeros tag

abbrev pub select : Tag → Tag
select tag = fleeting Active zeros tag

abbrev pub zero_tag : Tag
zero_tag = record {
  counters = 0 ∷ 0 ∷ 0 ∷ [];
  failed = 0;
  originality = zeros;
  state = Waiting;
  challenge = zeros;
}

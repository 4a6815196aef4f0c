-- A machine that is given calls one after another, and the log of what it answers.
--
--   Given      the answer to one call: its number, what was said, the next state
--   Machine    the machine
--   Entry      a line of a log: a call, its number, what was said, what was stored after it
--   entry      the line for one call
--   log        the log of a list of calls made from a state
--   end        the state in which the list leaves the machine
--   Every      each element of a list has a property
--
-- Assumes nothing.
use Rattle.std.specs.Prelude.{Bool, List, [], ◌∷◌, ℕ}

pub record Given (State Said : Type 0) : Type 0 where
  pub number : ℕ
  pub said : Said
  pub next : State

pub record Machine : Type 1 where
  pub Call : Type 0
  pub State : Type 0
  -- a reply with all that it carries
  pub Said : Type 0
  -- document 01's term "stored memory"
  pub Stored : Type 0
  pub step : State → Call → Given State Said
  -- document 01's term "silence": the reply that is none
  pub silence : Said
  -- what of a state is stored
  pub stored : State → Stored
  -- document 01's term "boundary": the calls with which a stretch begins. Every other call is a frame
  pub boundary : Call → Bool
  -- document 01's term "refused", for anything but a failed authentication: of the tag, any number but 0 and 8
  pub refuses : ℕ → Bool
  -- the frames, told by their form, that may begin a session anew
  pub wakes : Call → Bool
  -- the numbers of calls during which the power went
  pub cut : ℕ → Bool

pub record Entry (m : Machine) : Type 0 where
  pub call : m.Call
  pub number : ℕ
  pub said : m.Said
  pub memory : m.Stored

module _ (m : Machine) where
  open m use {Call, State, Said, step, stored}

  abbrev pub entry : Call → Given State Said → Entry m
  entry c g = record { call = c; number = g.number; said = g.said; memory = stored g.next }

  unfoldable pub log : State → List Call → List (Entry m)
  log s [] = []
  log s (c ∷ cs) = let g = step s c in entry c g ∷ log g.next cs

  unfoldable pub end : State → List Call → State
  end s [] = s
  end s (c ∷ cs) = end (step s c).next cs

abbrev pub Every : {A : Type 0} → (A → Type 0) → List A → Type 0
Every P [] = Unit {0}
Every P (x ∷ xs) = P x × Every P xs

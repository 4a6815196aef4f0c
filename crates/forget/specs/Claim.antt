-- Demand 3 for every machine: the claim, the laws of single calls from which it follows, and the theorem that it does.
--
--   Forgets        damage is forgotten in one list of calls from one state: the claim
--   Left           the state that a call leaves, with power or without
--   Ignored        a call that did nothing
--   Laws           what an instance proves, of single calls
--   ForgetsAlways  from the laws, damage is forgotten in every list of calls (proved in proofs/Forgets.antt)
--
-- Assumes nothing.
use Rattle.std.specs.Prelude.{◌≡◌, true, false, cond, List}
use Rattle.forget.specs.Machine.{Given, Machine, Entry, log, end, Every}
use Rattle.forget.specs.Striking.{clean, staying, behind_others, remaining}

module _ (m : Machine) where
  open m use {Call, State, Said, step, silence, stored, boundary, refuses, wakes, cut}

  -- the calls are made from s, and those that stay are made again from s
  pub record Forgets (s : State) (calls : List Call) : Type 0 where
    -- each call that stays gets the same number and the same reply, and leaves the same memory
    pub again : log m s (remaining m clean (log m s calls)) ≡ staying m clean (log m s calls)
    -- each call struck out behind another got silence
    pub silent : Every (λ (e : Entry m). e.said ≡ silence) (behind_others m clean (log m s calls))
    -- the stored memory ends equal
    pub ended : stored (end m s (remaining m clean (log m s calls))) ≡ stored (end m s calls)

  -- a call made in the state s did nothing
  pub record Ignored (s : State) (g : Given State Said) : Type 0 where
    pub uncut : cut g.number ≡ false
    pub silent : g.said ≡ silence
    pub kept : g.next ≡ s

  -- the state that a call leaves is in Down if its number is a cut, else in Up
  abbrev pub Left : (Up Down : State → Type 0) → Given State Said → Type 0
  Left Up Down g = cond (cut g.number) (Down g.next) (Up g.next)

  -- The instance chooses Fit, the calls whose buffers are well-sized; Up, the valid states with power; Down, the valid states without;
  -- Asleep, the states in which the session has ended; lasting, what a state keeps without power.
  pub record Laws (Fit : Call → Type 0) (Up Down Asleep : State → Type 0) (Lasting : Type 0) (lasting : State → Lasting) : Type 0 where
    -- what lasts fixes what is stored
    pub shows : (s t : State) → lasting s ≡ lasting t → stored s ≡ stored t
    pub runs : (s : State) (c : Call) → Up s → Fit c → Left Up Down (step s c)
    -- a boundary brings the power back
    pub restarts : (s : State) (c : Call) → Down s → Fit c → boundary c ≡ true → Left Up Down (step s c)
    -- a boundary goes by what lasts alone
    pub resets : (s t : State) (c : Call) → Up s → Up t → Fit c → boundary c ≡ true → lasting s ≡ lasting t → step s c ≡ step t c
    -- a refused frame changes nothing that lasts, and ends the session
    pub ends : (s : State) (c : Call) → Up s → Fit c → boundary c ≡ false → cut (step s c).number ≡ false → refuses (step s c).number ≡ true
        → (lasting (step s c).next ≡ lasting s) × Asleep (step s c).next
    -- where the session has ended, a frame that doesn't wake is ignored
    pub sleeps : (s : State) (c : Call) → Up s → Asleep s → Fit c → boundary c ≡ false → wakes c ≡ false → Ignored s (step s c)
    -- without power every frame is ignored
    pub off : (s : State) (c : Call) → Down s → Fit c → boundary c ≡ false → Ignored s (step s c)

abbrev pub ForgetsAlways : Type 1
ForgetsAlways =
    (m : Machine) (Fit : m.Call → Type 0) (Up Down Asleep : m.State → Type 0) (Lasting : Type 0) (lasting : m.State → Lasting)
    → Laws m Fit Up Down Asleep Lasting lasting
    → (s : m.State) → Up s → (calls : List m.Call) → Every Fit calls → Forgets m s calls

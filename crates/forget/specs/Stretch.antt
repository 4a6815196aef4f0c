-- What the striking does with a stretch, in the request's words and for every machine (proved in proofs/Stretch.antt).
--
--   Frame, Done, Refused, Unwaking   an uncut frame; one not refused; one refused; one that doesn't wake
--   Over                             the stretch ends here
--   each                             one fate for every line
--   BoundaryStarts                   a boundary stays, and nothing before it counts after it
--   DoneStays                        in a stretch nothing is struck before its first refused frame, and nothing if it has none
--   RefusedStruck                    the first refused frame and every frame of the stretch after it are struck, where none after it wakes
--   WokenStays                       where one after it wakes, nothing of the stretch is struck
--   CutWakes                         likewise where the one that wakes is cut, and so the last of its stretch
--   CutStays                         a cut call stays, and every frame from it to the next boundary is struck
--
-- In each statement `rest` is what follows in the log, and is judged from a new start. Assumes nothing.
use Rattle.std.specs.Prelude.{◌≡◌, true, false, List, [], ◌∷◌, ◌++◌, map}
use Rattle.forget.specs.Machine.{Machine, Entry, Every}
use Rattle.forget.specs.Striking.{Place, clean, Fate, stays, first, behind, fates}

module _ (m : Machine) where
  open m use {boundary, refuses, wakes, cut}

  pub record Frame (e : Entry m) : Type 0 where
    pub frame : boundary e.call ≡ false
    pub uncut : cut e.number ≡ false

  abbrev pub Done : Entry m → Type 0
  Done e = Frame e × (refuses e.number ≡ false)

  abbrev pub Refused : Entry m → Type 0
  Refused e = Frame e × (refuses e.number ≡ true)

  abbrev pub Unwaking : Entry m → Type 0
  Unwaking e = Frame e × (wakes e.call ≡ false)

  -- at the end of the log, at a boundary, or at a cut call that doesn't wake
  pub data Over : List (Entry m) → Type 0 where
    at-end : Over []
    at-boundary : {e : Entry m} {es : List (Entry m)} → boundary e.call ≡ true → Over (e ∷ es)
    at_cut : {e : Entry m} {es : List (Entry m)} → cut e.number ≡ true → wakes e.call ≡ false → Over (e ∷ es)

  abbrev pub each : Fate → List (Entry m) → List Fate
  each f = map (λ (e : Entry m). f)

abbrev pub BoundaryStarts : Type 1
BoundaryStarts =
    (m : Machine) (p : Place) (e : Entry m) (rest : List (Entry m))
    → m.boundary e.call ≡ true → m.cut e.number ≡ false
    → fates m p (e ∷ rest) ≡ stays ∷ fates m clean rest

abbrev pub DoneStays : Type 1
DoneStays =
    (m : Machine) (frames rest : List (Entry m)) → Every (Done m) frames
    → fates m clean (frames ++ rest) ≡ each m stays frames ++ fates m clean rest

abbrev pub RefusedStruck : Type 1
RefusedStruck =
    (m : Machine) (before after rest : List (Entry m)) (e : Entry m)
    → Every (Done m) before → Refused m e → Every (Unwaking m) after → Over m rest
    → fates m clean (before ++ (e ∷ after ++ rest)) ≡ each m stays before ++ (first ∷ each m behind after ++ fates m clean rest)

abbrev pub WokenStays : Type 1
WokenStays =
    (m : Machine) (before after later rest : List (Entry m)) (e waking : Entry m)
    → Every (Done m) before → Refused m e → Every (Frame m) after
    → Frame m waking → m.wakes waking.call ≡ true → Every (Frame m) later → Over m rest
    → fates m clean (before ++ (e ∷ after ++ (waking ∷ later ++ rest)))
    ≡ each m stays before ++ (stays ∷ each m stays after ++ (stays ∷ each m stays later ++ fates m clean rest))

abbrev pub CutWakes : Type 1
CutWakes =
    (m : Machine) (before after rest : List (Entry m)) (e waking : Entry m)
    → Every (Done m) before → Refused m e → Every (Frame m) after
    → m.boundary waking.call ≡ false → m.wakes waking.call ≡ true → m.cut waking.number ≡ true
    → fates m clean (before ++ (e ∷ after ++ (waking ∷ rest)))
    ≡ each m stays before ++ (stays ∷ each m stays after ++ fates m clean (waking ∷ rest))

abbrev pub CutStays : Type 1
CutStays =
    (m : Machine) (p : Place) (e : Entry m) (after rest : List (Entry m))
    → m.cut e.number ≡ true → Every (Frame m) after → Over m rest
    → fates m p (e ∷ after ++ rest) ≡ stays ∷ each m behind after ++ fates m clean rest

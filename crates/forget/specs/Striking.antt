-- Which calls of a log are struck out, by the numbers that they were answered with.
--
--   Kind, kind             what a call was
--   Place                  what came before it in its stretch
--   Fate                   whether it stays
--   Ruling, ruling         its fate and the place of the next call, by kind and place
--   wakes_ahead             a waking frame follows in the stretch
--   judge                  the ruling on a call of a log
--   fates                  the fate of each call of a log
--   having                 the lines of a log with the fates asked for
--   staying, behind_others  those that stay; those struck out behind another
--   remaining              the calls that stay
--
-- Document 01's term "stretch": the calls from a boundary, or from the start of the list, up to the next boundary or the end. A cut call is
-- the last of its stretch. Stretch.antt says in words what the striking does with a stretch. Assumes nothing.
use Rattle.std.specs.Prelude.{Bool, true, false, not, cond, ◌&&◌, ◌||◌, List, [], ◌∷◌, map}
use Rattle.forget.specs.Machine.{Machine, Entry}

-- torn: the number is a cut. starts: a boundary. refused, done: the other calls, all frames
pub data Kind : Type 0 where
  torn starts refused done : Kind

-- clean: nothing was refused so far in the stretch. spared: something was, and a waking frame follows the first that was.
-- struck: something was and no waking frame follows it, or a cut call came before
pub data Place : Type 0 where
  clean spared struck : Place

-- first, behind: document 01's term "struck out", as the first refused frame of a stretch, or after it or a cut call
pub data Fate : Type 0 where
  stays first behind : Fate

pub record Ruling : Type 0 where
  pub fate : Fate
  pub leads : Place

infix 20 ◌then◌
abbrev pub ◌then◌ : Fate → Place → Ruling
f then p = record { fate = f; leads = p }

-- the second argument says whether a waking frame follows in the stretch
abbrev pub ruling : Kind → Bool → Place → Ruling
ruling torn w p = stays then struck
ruling starts w p = stays then clean
ruling done w clean = stays then clean
ruling done w spared = stays then spared
ruling done w struck = behind then struck
ruling refused true clean = stays then spared
ruling refused false clean = first then struck
ruling refused w spared = stays then spared
ruling refused w struck = behind then struck

-- by: is the number a cut, is the call a boundary, is the number a refusal
abbrev pub kind : Bool → Bool → Bool → Kind
kind true b r = torn
kind false true r = starts
kind false false true = refused
kind false false false = done

abbrev pub is_stays : Fate → Bool
is_stays stays = true
is_stays first = false
is_stays behind = false

abbrev pub is_behind : Fate → Bool
is_behind stays = false
is_behind first = false
is_behind behind = true

module _ (m : Machine) where
  open m use {Call, boundary, refuses, wakes, cut}

  -- a frame of the stretch wakes: before the next boundary, and not after a cut call
  unfoldable pub wakes_ahead : List (Entry m) → Bool
  wakes_ahead [] = false
  wakes_ahead (e ∷ es) = not (boundary e.call) && (wakes e.call || (not (cut e.number) && wakes_ahead es))

  -- the ruling on a call, by its place and the calls after it
  unfoldable pub judge : Place → Entry m → List (Entry m) → Ruling
  judge p e es = ruling (kind (cut e.number) (boundary e.call) (refuses e.number)) (wakes_ahead es) p

  unfoldable pub fates : Place → List (Entry m) → List Fate
  fates p [] = []
  fates p (e ∷ es) = let r = judge p e es in r.fate ∷ fates r.leads es

  -- the lines of a log whose fates pass the test
  unfoldable pub having : (Fate → Bool) → List Fate → List (Entry m) → List (Entry m)
  having test [] es = []
  having test (f ∷ fs) [] = []
  having test (f ∷ fs) (e ∷ es) = let rest = having test fs es in cond (test f) (e ∷ rest) rest

  abbrev pub staying : Place → List (Entry m) → List (Entry m)
  staying p es = having is_stays (fates p es) es

  abbrev pub behind_others : Place → List (Entry m) → List (Entry m)
  behind_others p es = having is_behind (fates p es) es

  abbrev pub remaining : Place → List (Entry m) → List Call
  remaining p es = map (λ (e : Entry m). e.call) (staying p es)

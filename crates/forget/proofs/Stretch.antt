-- The striking of a stretch: the statements of specs/Stretch.antt.
--
--   fates-one       the first call of a log, by the ruling on it
--   fates-row       a row of calls with one ruling that leaves the place as it is
--   fates-over      where a stretch is over, the place doesn't matter
--   to-refused      a stretch up to its first refused frame, by the look-ahead
--   boundary-starts, done-stays, refused-struck, woken-stays, cut-wakes, cut-stays
--                   the statements
--
-- Assumes nothing.
use mathlib.Core.Path.{◌≡◌, refl, ap, ◌∙◌}
use mathlib.Core.Bool.{Bool, cond}
use mathlib.Core.List.{List, [], ◌∷◌, ◌++◌}
use Rattle.forget.specs.Machine.{Machine, Entry, Every}
use Rattle.forget.specs.Striking.{Place, clean, spared, struck, Fate, stays, first, behind, ◌then◌, wakes_ahead, judge, fates}
use Rattle.forget.specs.Stretch.{Frame, Done, Refused, Unwaking, Over, at-end, at-boundary, at_cut, each, BoundaryStarts, DoneStays, RefusedStruck, WokenStays, CutWakes, CutStays}
use Rattle.forget.proofs.Judge.{judge-by, judge-boundary, judge-cut, judge-done, judge-refused, judge-spared, judge-behind, ahead_none, ahead-woken}

module _ (m : Machine) where
  fates-one : (p q : Place) (f : Fate) (e : Entry m) (es : List (Entry m)) → judge m p e es ≡ (f then q) → fates m p (e ∷ es) ≡ f ∷ fates m q es
  unfolding fates
  fates-one p q f e es j = rw j

  fates-row : (P : Entry m → Type 0) (p : Place) (f : Fate) → ((e : Entry m) (es : List (Entry m)) → P e → judge m p e es ≡ (f then p))
      → (row rest : List (Entry m)) → Every P row → fates m p (row ++ rest) ≡ each m f row ++ fates m p rest
  fates-row P p f j [] rest h = refl
  fates-row P p f j (e ∷ es) rest h =
      fates-one p p f e (es ++ rest) (j e (es ++ rest) h.0) ∙ ap (◌∷◌ f) (fates-row P p f j es rest h.1)

  fates-over : (p q : Place) {rest : List (Entry m)} → Over m rest → fates m p rest ≡ fates m q rest
  unfolding fates
  fates-over p q at-end = refl
  fates-over p q (at-boundary {e} {es} hb) = rw (judge-boundary m e es p hb, judge-boundary m e es q hb)
  fates-over p q (at_cut {e} {es} ht hw) = rw (judge-cut m e es p ht, judge-cut m e es q ht)

  -- a row of frames none of which was refused; one that is spared; one that is struck
  done-row : (row rest : List (Entry m)) → Every (Done m) row → fates m clean (row ++ rest) ≡ each m stays row ++ fates m clean rest
  done-row = fates-row (Done m) clean stays (judge-done m)

  spared-row : (row rest : List (Entry m)) → Every (Frame m) row → fates m spared (row ++ rest) ≡ each m stays row ++ fates m spared rest
  spared-row = fates-row (Frame m) spared stays (judge-spared m)

  struck-row : (row rest : List (Entry m)) → Every (Frame m) row → fates m struck (row ++ rest) ≡ each m behind row ++ fates m struck rest
  struck-row = fates-row (Frame m) struck behind (judge-behind m)

  frames : (row : List (Entry m)) → Every (Unwaking m) row → Every (Frame m) row
  frames [] h = tt
  frames (e ∷ es) h = (h.0.0, frames es h.1)

  to-refused : (before rest : List (Entry m)) (e : Entry m) {w : Bool} → Every (Done m) before → Refused m e → wakes_ahead m rest ≡ w
      → fates m clean (before ++ (e ∷ rest)) ≡ each m stays before ++ (cond w stays first ∷ fates m (cond w spared struck) rest)
  to-refused before rest e hb he hw =
      rw (← hw) (done-row before (e ∷ rest) hb ∙ ap (◌++◌ (each m stays before)) (fates-one _ _ _ e rest (judge-refused m e rest he)))

pub boundary-starts : BoundaryStarts
boundary-starts m p e rest hb ht = fates-one m p clean stays e rest (judge-by m e rest p ht hb refl refl)

pub done-stays : DoneStays
done-stays = done-row

pub refused-struck : RefusedStruck
refused-struck m before after rest e hb he ha over =
    let start = to-refused m before (after ++ rest) e hb he (ahead_none m after rest ha over) in
    let row = struck-row m after rest (frames m after ha) in
    let over' = fates-over m struck clean over in
    cc

pub woken-stays : WokenStays
woken-stays m before after later rest e waking hb he ha hf hw hl over =
    let start = to-refused m before (after ++ (waking ∷ later ++ rest)) e hb he (ahead-woken m after (later ++ rest) waking ha hf.frame hw) in
    let row = spared-row m after (waking ∷ later ++ rest) ha in
    let row' = spared-row m (waking ∷ later) rest (hf, hl) in
    let over' = fates-over m spared clean over in
    cc

pub cut-wakes : CutWakes
cut-wakes m before after rest e waking hb he ha hf hw hx =
    let start = to-refused m before (after ++ (waking ∷ rest)) e hb he (ahead-woken m after rest waking ha hf hw) in
    let row = spared-row m after (waking ∷ rest) ha in
    let here = fates-one m spared struck stays waking rest (judge-cut m waking rest spared hx) in
    let anew = fates-one m clean struck stays waking rest (judge-cut m waking rest clean hx) in
    cc

pub cut-stays : CutStays
cut-stays m p e after rest hx ha over =
    let start = fates-one m p struck stays e (after ++ rest) (judge-cut m e (after ++ rest) p hx) in
    let row = struck-row m after rest ha in
    let over' = fates-over m struck clean over in
    cc

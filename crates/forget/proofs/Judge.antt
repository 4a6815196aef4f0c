-- The rulings on single calls, and the look-ahead.
--
--   judge-by                     the ruling, from what decides it
--   judge-boundary, judge-cut    a boundary and a cut call stay, at every place
--   judge-done, judge-refused    an uncut frame where nothing was refused before
--   judge-spared, judge-behind   an uncut frame in a stretch that is spared; in one that is struck
--   none-wakes                   where no frame ahead wakes, the next one doesn't, nor one after it
--   ahead_none, ahead-woken      the look-ahead over a row of frames none of which wakes; up to one that does
--
-- Assumes nothing.
use mathlib.Core.Path.{◌≡◌, refl, ◌∙◌}
use mathlib.Core.Bool.{Bool, true, false, not, cond, ◌&&◌, ◌||◌, true≢false}
use mathlib.Core.List.{List, [], ◌∷◌, ◌++◌}
use Rattle.forget.specs.Machine.{Machine, Entry, Every}
use Rattle.forget.specs.Striking.{Place, clean, spared, struck, stays, first, behind, ◌then◌, refused, ruling, kind, wakes_ahead, judge}
use Rattle.forget.specs.Stretch.{Frame, Done, Refused, Unwaking, Over, at-end, at-boundary, at_cut}

-- rows of the table
boundary-row : (t r w : Bool) (p : Place) → ruling (kind t true r) w p ≡ (stays then cond t struck clean)
boundary-row true r w p = refl
boundary-row false r w p = refl

behind-row : (r w : Bool) → ruling (kind false false r) w struck ≡ (behind then struck)
behind-row true w = refl
behind-row false w = refl

spared-row : (r w : Bool) → ruling (kind false false r) w spared ≡ (stays then spared)
spared-row true w = refl
spared-row false w = refl

refused-row : (w : Bool) → ruling refused w clean ≡ (cond w stays first then cond w spared struck)
refused-row true = refl
refused-row false = refl

module _ (m : Machine) where
  open m use {boundary, refuses, wakes, cut}

  module _ (e : Entry m) (es : List (Entry m)) where
    pub judge-by : (p : Place) {t b r w : Bool} → cut e.number ≡ t → boundary e.call ≡ b → refuses e.number ≡ r → wakes_ahead m es ≡ w
        → judge m p e es ≡ ruling (kind t b r) w p
    unfolding judge
    judge-by p ht hb hr hw = rw (ht, hb, hr, hw)

    pub judge-boundary : (p : Place) → boundary e.call ≡ true → judge m p e es ≡ (stays then cond (cut e.number) struck clean)
    judge-boundary p hb = judge-by p refl hb refl refl ∙ boundary-row (cut e.number) (refuses e.number) (wakes_ahead m es) p

    pub judge-cut : (p : Place) → cut e.number ≡ true → judge m p e es ≡ (stays then struck)
    judge-cut p ht = judge-by p ht refl refl refl

    pub judge-done : Done m e → judge m clean e es ≡ (stays then clean)
    judge-done h = judge-by clean h.0.uncut h.0.frame h.1 refl

    pub judge-refused : Refused m e → judge m clean e es ≡ (cond (wakes_ahead m es) stays first then cond (wakes_ahead m es) spared struck)
    judge-refused h = judge-by clean h.0.uncut h.0.frame h.1 refl ∙ refused-row (wakes_ahead m es)

    pub judge-spared : Frame m e → judge m spared e es ≡ (stays then spared)
    judge-spared h = judge-by spared h.uncut h.frame refl refl ∙ spared-row (refuses e.number) (wakes_ahead m es)

    pub judge-behind : Frame m e → judge m struck e es ≡ (behind then struck)
    judge-behind h = judge-by struck h.uncut h.frame refl refl ∙ behind-row (refuses e.number) (wakes_ahead m es)

    pub none-wakes : boundary e.call ≡ false → wakes_ahead m (e ∷ es) ≡ false
        → (wakes e.call ≡ false) × (cut e.number ≡ false → wakes_ahead m es ≡ false)
    unfolding wakes_ahead
    none-wakes hb h = on (wakes e.call) refl (rw hb at h)
      where
        on : (w : Bool) → wakes e.call ≡ w → (w || (not (cut e.number) && wakes_ahead m es)) ≡ false
            → (wakes e.call ≡ false) × (cut e.number ≡ false → wakes_ahead m es ≡ false)
        on true hw k = absurd (true≢false k)
        on false hw k = (hw, λ ht. rw ht at k)

  ahead-over : {rest : List (Entry m)} → Over m rest → wakes_ahead m rest ≡ false
  unfolding wakes_ahead
  ahead-over at-end = refl
  ahead-over (at-boundary hb) = rw hb
  ahead-over (at_cut {e} ht hw) = rw (ht, hw) (on (boundary e.call))
    where
      on : (b : Bool) → (not b && false) ≡ false
      on true = refl
      on false = refl

  pub ahead_none : (after rest : List (Entry m)) → Every (Unwaking m) after → Over m rest → wakes_ahead m (after ++ rest) ≡ false
  unfolding wakes_ahead
  ahead_none [] rest h over = ahead-over over
  ahead_none (e ∷ es) rest h over = rw (h.0.0.frame, h.0.1, h.0.0.uncut) (ahead_none es rest h.1 over)

  pub ahead-woken : (after rest : List (Entry m)) (e : Entry m) → Every (Frame m) after → boundary e.call ≡ false → wakes e.call ≡ true
      → wakes_ahead m (after ++ (e ∷ rest)) ≡ true
  unfolding wakes_ahead
  ahead-woken [] rest e h hb hw = rw (hb, hw)
  ahead-woken (x ∷ xs) rest e h hb hw = rw (h.0.frame, h.0.uncut) (on (wakes x.call) (ahead-woken xs rest e h.1 hb hw))
    where
      on : (w : Bool) → wakes_ahead m (xs ++ (e ∷ rest)) ≡ true → (w || wakes_ahead m (xs ++ (e ∷ rest))) ≡ true
      on true k = refl
      on false k = k

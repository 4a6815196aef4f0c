-- The list theorem: from the laws of single calls, damage is forgotten in every list of calls.
--
--   Agrees              the claim of two runs, from two states and at any place of a stretch
--   agrees-end, agrees-stays, agrees_first, agrees-behind
--                       it holds of the empty list, and with one call more in front, by that call's fate
--   Agreeing            the four ways in which two runs go on alike
--   agreeing            they do, for every list: the induction
--   forgets-always      the theorem
--
-- Assumes nothing.
use mathlib.Core.Path.{◌≡◌, refl, sym, ap}
use mathlib.Core.Bool.{Bool, true, false, cond}
use mathlib.Core.List.{List, [], ◌∷◌}
use Rattle.forget.specs.Machine.{Machine, Entry, entry, log, end, Every}
use Rattle.forget.specs.Striking.{Place, clean, spared, struck, Fate, stays, first, behind, ◌then◌, wakes_ahead, judge, fates, having, staying, behind_others, remaining}
use Rattle.forget.specs.Stretch.{Frame}
use Rattle.forget.specs.Claim.{Left, Laws, ForgetsAlways}
use Rattle.forget.proofs.Judge.{judge-by, judge-boundary, judge-cut, judge-done, judge-spared, judge-behind, none-wakes}

module _ (m : Machine) where
  open m use {Call, State, step, silence, stored}

  -- the first run goes from s, at the place p; the second makes the calls that stay, from t
  record Agrees (p : Place) (s t : State) (cs : List Call) : Type 0 where
    again : log m t (remaining m p (log m s cs)) ≡ staying m p (log m s cs)
    silent : Every (λ (e : Entry m). e.said ≡ silence) (behind_others m p (log m s cs))
    ended : stored (end m t (remaining m p (log m s cs))) ≡ stored (end m s cs)

  agrees-end : (p : Place) {s t : State} → stored t ≡ stored s → Agrees p s t []
  unfolding log end fates having
  agrees-end p e = record { again = refl; silent = tt; ended = e }

  -- the call c, made in the state s at the place p with the calls cs to follow, has the fate f and leads to the place q
  abbrev Judged : Place → State → Call → List Call → Fate → Place → Type 0
  Judged p s c cs f q = judge m p (entry m c (step s c)) (log m (step s c).next cs) ≡ (f then q)

  module _ {p q : Place} {s t : State} {c : Call} {cs : List Call} where
    agrees-stays : Judged p s c cs stays q → step t c ≡ step s c → Agrees q (step s c).next (step s c).next cs → Agrees p s t (c ∷ cs)
    unfolding log end fates having
    agrees-stays j same a =
        record {
          again = rw (j, same) (ap (◌∷◌ (entry m c (step s c))) a.again);
          silent = rw j a.silent;
          ended = rw (j, same) a.ended;
        }

    agrees_first : Judged p s c cs first q → Agrees q (step s c).next t cs → Agrees p s t (c ∷ cs)
    unfolding log end fates having
    agrees_first j a = record { again = rw j a.again; silent = rw j a.silent; ended = rw j a.ended }

    agrees-behind : Judged p s c cs behind q → (step s c).said ≡ silence → Agrees q (step s c).next t cs → Agrees p s t (c ∷ cs)
    unfolding log end fates having
    agrees-behind j quiet a = record { again = rw j a.again; silent = rw j (quiet, a.silent); ended = rw j a.ended }

module _ (m : Machine) (Fit : m.Call → Type 0) (Up Down Asleep : m.State → Type 0) (Lasting : Type 0) (lasting : m.State → Lasting)
    (law : Laws m Fit Up Down Asleep Lasting lasting) where
  open m use {Call, State, step, boundary, refuses, cut}

  -- the first run has ended its session and no frame ahead wakes it; the second may still be in its session
  record Resting (s t : State) (cs : List Call) : Type 0 where
    up : Up s
    asleep : Asleep s
    other : Up t
    same : lasting s ≡ lasting t
    unwoken : wakes_ahead m (log m s cs) ≡ false

  record Agreeing (cs : List Call) : Type 0 where
    together : (s : State) → Up s → Agrees m clean s s cs
    unstruck : (s : State) → Up s → Agrees m spared s s cs
    sleeping : (s t : State) → Resting s t cs → Agrees m struck s t cs
    lying : (s : State) → Down s → Agrees m struck s s cs

  agreeing-end : Agreeing []
  agreeing-end =
      record {
        together = λ s h. agrees-end m clean refl;
        unstruck = λ s h. agrees-end m spared refl;
        sleeping = λ s t h. agrees-end m struck (law.shows t s (sym h.same));
        lying = λ s h. agrees-end m struck refl;
      }

  module _ (c : Call) (cs : List Call) (fit : Fit c) (ih : Agreeing cs) where
    -- a boundary after which both runs are in one state
    boundary-on : (p : Place) (s t : State) → boundary c ≡ true → step t c ≡ step s c → Left m Up Down (step s c) → Agrees m p s t (c ∷ cs)
    boundary-on p s t hb same h = agrees-stays m (judge-boundary m _ _ p hb) same (on (cut (step s c).number) h)
      where
        on : (x : Bool) → cond x (Down (step s c).next) (Up (step s c).next) → Agrees m (cond x struck clean) (step s c).next (step s c).next cs
        on true h = ih.lying (step s c).next h
        on false h = ih.together (step s c).next h

    -- both runs in one state with power: what is left is an uncut frame
    powered-on : (p : Place) (s : State) → Up s → (Frame m (entry m c (step s c)) → Up (step s c).next → Agrees m p s s (c ∷ cs))
        → Agrees m p s s (c ∷ cs)
    powered-on p s up framed = on (cut (step s c).number) (boundary c) refl refl (law.runs s c up fit)
      where
        on : (x b : Bool) → cut (step s c).number ≡ x → boundary c ≡ b → cond x (Down (step s c).next) (Up (step s c).next)
            → Agrees m p s s (c ∷ cs)
        on true b hx hb h = agrees-stays m (judge-cut m _ _ p hx) refl (ih.lying (step s c).next h)
        on false true hx hb h = boundary-on p s s hb refl (law.runs s c up fit)
        on false false hx hb h = framed (record { frame = hb; uncut = hx }) h

    together-on : (s : State) → Up s → Agrees m clean s s (c ∷ cs)
    together-on s up = powered-on clean s up (λ f h. on f h (refuses (step s c).number) (wakes_ahead m (log m (step s c).next cs)) refl refl)
      where
        on : Frame m (entry m c (step s c)) → Up (step s c).next → (r w : Bool) → refuses (step s c).number ≡ r
            → wakes_ahead m (log m (step s c).next cs) ≡ w → Agrees m clean s s (c ∷ cs)
        on f h false w hr hw = agrees-stays m (judge-done m _ _ (f, hr)) refl (ih.together (step s c).next h)
        on f h true true hr hw =
            agrees-stays m (judge-by m _ _ clean f.uncut f.frame hr hw) refl (ih.unstruck (step s c).next h)
        on f h true false hr hw =
            let e = law.ends s c up fit f.frame f.uncut hr in
            agrees_first m (judge-by m _ _ clean f.uncut f.frame hr hw)
            (ih.sleeping (step s c).next s (record { up = h; asleep = e.1; other = up; same = e.0; unwoken = hw }))

    unstruck-on : (s : State) → Up s → Agrees m spared s s (c ∷ cs)
    unstruck-on s up =
        powered-on spared s up (λ f h. agrees-stays m (judge-spared m _ _ f) refl (ih.unstruck (step s c).next h))

    sleeping-on : (s t : State) → Resting s t (c ∷ cs) → Agrees m struck s t (c ∷ cs)
    unfolding log
    sleeping-on s t h = on (boundary c) refl
      where
        on : (b : Bool) → boundary c ≡ b → Agrees m struck s t (c ∷ cs)
        on true hb =
            boundary-on struck s t hb (law.resets t s c h.other h.up fit hb (sym h.same)) (law.runs s c h.up fit)
        on false hb =
            let none = none-wakes m (entry m c (step s c)) (log m (step s c).next cs) hb h.unwoken in
            let i = law.sleeps s c h.up h.asleep fit hb none.0 in
            agrees-behind m (judge-behind m _ _ (record { frame = hb; uncut = i.uncut })) i.silent
            (ih.sleeping (step s c).next t
            (record {
              up = rw i.kept h.up;
              asleep = rw i.kept h.asleep;
              other = h.other;
              same = rw i.kept h.same;
              unwoken = none.1 i.uncut;
            }))

    lying-on : (s : State) → Down s → Agrees m struck s s (c ∷ cs)
    lying-on s h = on (boundary c) refl
      where
        on : (b : Bool) → boundary c ≡ b → Agrees m struck s s (c ∷ cs)
        on true hb = boundary-on struck s s hb refl (law.restarts s c h fit hb)
        on false hb =
            let i = law.off s c h fit hb in
            agrees-behind m (judge-behind m _ _ (record { frame = hb; uncut = i.uncut })) i.silent
            (rw i.kept (ih.lying s h))

  agreeing : (cs : List Call) → Every Fit cs → Agreeing cs
  agreeing [] fit = agreeing-end
  agreeing (c ∷ cs) fit =
      let ih = agreeing cs fit.1 in
      record {
        together = together-on c cs fit.0 ih;
        unstruck = unstruck-on c cs fit.0 ih;
        sleeping = sleeping-on c cs fit.0 ih;
        lying = lying-on c cs fit.0 ih;
      }

pub forgets-always : ForgetsAlways
forgets-always m Fit Up Down Asleep Lasting lasting law s up cs fit =
    let a = (agreeing m Fit Up Down Asleep Lasting lasting law cs fit).together s up in
    record { again = a.again; silent = a.silent; ended = a.ended }

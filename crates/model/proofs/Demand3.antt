-- Demand 3: the tag keeps the crate forget's laws of single calls, so damage is forgotten.
--
--   nothing-left-out     a box is its stored and its fleeting part
--   wakes-pinned         no frame wakes a waiting tag
--   tag-laws             the laws, with the valid boxes as the states with power
--   forgets-valid        damage is forgotten from every valid box
--
-- Assumes nothing.
use mathlib.Core.Path.{◌≡◌, refl, sym, ap, ◌∙◌}
use mathlib.Core.List.{List}
use mathlib.Core.Bool.{true, false, true≢false}
use mathlib.Core.Logic.{inl}
use Prim.Native.Nat.{ℕ}
use borrow.Author.Tests.{ne_eqb}
use Rattle.forget.specs.Machine.{Every}
use Rattle.forget.specs.Claim.{Forgets, Ignored, Laws}
use Rattle.forget.proofs.Forgets.{forgets-always}
use Rattle.model.specs.declared.Tag.{Tag}
use Rattle.model.specs.declared.State.TheVariants.{Waiting, Active}
use Rattle.model.specs.Map.{mf0aes20}
use Rattle.model.specs.Record as record'
use Rattle.model.specs.Record.{is_waiting}
use Rattle.model.specs.Writing.{barred_place}
use Rattle.model.specs.Frame.{Outcome, frame}
use Rattle.model.specs.Calls as calls
use Rattle.model.specs.Calls.{Box, Call, power, select, quiet, Stored, stored_of, boundary, refuses, tag_machine, Fit, step}
use Rattle.model.specs.Demand3.{rebuilt, WakesPinned, NothingLeftOut}
use Rattle.model.proofs.Demand1.{keeps-all}
use Rattle.model.proofs.Carried.{waiting-one}
use Rattle.model.proofs.Valid.{Valid}
use Rattle.model.proofs.Sound.{fits-valid, valid-step}
use Rattle.model.proofs.Telling.{frame-number, Answered, done, refused, ignored, answered-so}

pub nothing-left-out : NothingLeftOut
unfolding stored_of
nothing-left-out b = refl

-- document 01's session ended
abbrev Asleep : Box → Type 0
Asleep b = is_waiting b.tag.state ≡ true

-- a boundary goes by the stored part alone
resets : (b e : Box) (c : Call) → boundary c ≡ true → stored_of b ≡ stored_of e → step b c ≡ step e c
unfolding step stored_of boundary
resets b e power h p =
    λ i. record {
      number = 0;
      said = quiet;
      next = record {
        tag = record'.fleeting Waiting record'.zeros (rebuilt (p i) Waiting record'.zeros).tag;
        store = (p i).pages;
      };
    }
resets b e select h p =
    λ i. record {
      number = 0;
      said = quiet;
      next = record {
        tag = record'.fleeting Active record'.zeros (rebuilt (p i) Active record'.zeros).tag;
        store = (p i).pages;
      };
    }
resets b e (calls.frame f random room) h p = absurd (true≢false (sym h))

not-refused : (n : ℕ) → refuses n ≡ true → (n ≡ 0 → ⊥) × (n ≡ 8 → ⊥)
unfolding refuses
not-refused n h = (λ z. true≢false (sym h ∙ rw z), λ e. true≢false (sym h ∙ rw e))

stored-path : (b e : Box) → b.store ≡ e.store → b.tag.counters ≡ e.tag.counters → b.tag.failed ≡ e.tag.failed
    → b.tag.originality ≡ e.tag.originality → stored_of b ≡ stored_of e
unfolding stored_of
stored-path b e ps pc pf po i = record { pages = ps i; counters = pc i; failed = pf i; originality = po i }

-- a refused frame keeps what is stored and leaves WAITING
ends : (b : Box) (f random : List ℕ) (room : ℕ) → Valid b → Fit (calls.frame f random room)
    → refuses (frame b.tag b.store f random room).number ≡ true
    → (stored_of (step b (calls.frame f random room)).next ≡ stored_of b) × Asleep (step b (calls.frame f random room)).next
unfolding step
ends b f random room v h r = pick (answered-so b f random room v h)
  where
    o : Outcome
    o = frame b.tag b.store f random room

    next : Box
    next = record { tag = o.tag; store = o.store }

    pick : Answered b f random room → (stored_of next ≡ stored_of b) × Asleep next
    pick (done c zero') = absurd ((not-refused o.number r).0 zero')
    pick (refused nz no1 e) = (
      stored-path next b e.pages e.counters (e.count ∙ rw (ne_eqb o.number 8 (not-refused o.number r).1)) e.originality,
      ap is_waiting e.waiting,
    )
    pick (ignored one w u) =
        ((λ i. stored_of (record { tag = u.record' i; store = u.pages i })), ap (λ (t : Tag). is_waiting t.state) u.record' ∙ w)

-- a frame that a waiting tag is given is ignored
sleeps : (b : Box) (f random : List ℕ) (room : ℕ) → Valid b → Asleep b → Fit (calls.frame f random room)
    → Ignored tag_machine b (step b (calls.frame f random room))
unfolding step
sleeps b f random room v a h =
    let o = frame b.tag b.store f random room in
    let one : o.number ≡ 1 =
    frame-number b f random room
    ∙ waiting-one mf0aes20 b.tag b.store f random room (fits-valid b random room v h.0.0 h.0.1) a in
    let u = keeps-all b.tag b.store f random room (inl one) in
    record { uncut = refl; silent = λ i. record { reply = u.silent i; place = barred_place (u.unstopped i) }; kept = λ i. record { tag = u.record' i; store = u.pages i } }

pub wakes-pinned : WakesPinned
unfolding step
wakes-pinned b f random room fits waits =
    (frame-number b f random room ∙ waiting-one mf0aes20 b.tag b.store f random room fits waits, refl)

pub tag-laws : Laws tag_machine Fit Valid (λ b. ⊥) Asleep Stored stored_of
unfolding boundary step
tag-laws = record {
  shows = λ b e p. p;
  runs = valid-step;
  restarts = λ b c down fit start. absurd down;
  resets = λ b e c up up' fit start same. resets b e c start same;
  ends = ends_of;
  sleeps = sleeps-of;
  off = λ b c down fit frame'. absurd down;
}
  where
    ends_of : (b : Box) (c : Call) → Valid b → Fit c → boundary c ≡ false → false ≡ false → refuses (step b c).number ≡ true
        → (stored_of (step b c).next ≡ stored_of b) × Asleep (step b c).next
    ends_of b power v h e u r = absurd (true≢false e)
    ends_of b select v h e u r = absurd (true≢false e)
    ends_of b (calls.frame f random room) v h e u r = ends b f random room v h r

    sleeps-of : (b : Box) (c : Call) → Valid b → Asleep b → Fit c → boundary c ≡ false → false ≡ false → Ignored tag_machine b (step b c)
    sleeps-of b power v a h e w = absurd (true≢false e)
    sleeps-of b select v a h e w = absurd (true≢false e)
    sleeps-of b (calls.frame f random room) v a h e w = sleeps b f random room v a h

pub forgets-valid : (b : Box) → Valid b → (list : List Call) → Every Fit list → Forgets tag_machine b list
forgets-valid = forgets-always tag_machine Fit Valid (λ b. ⊥) Asleep Stored stored_of tag-laws

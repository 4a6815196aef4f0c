-- Demands 1 and 3 of the calls that a program makes, by their `ensures` alone.
--
--   CallsForget       demand 3: damage is forgotten, in what the calls hand back
--   LoadsRefused, SavesRefused
--                     demand 1 of `load` and of `save`
--   EventsKeep        demand 1 of `power` and `select`
--   FramesNumbered, FramesRefused, FramesKeep
--                     demand 1 of `frame`: its numbers; what a refusal leaves; 1 and 10 change nothing
--   FramesSayWhy      request E6: why a WRITE was refused
--
-- Stretch, struck out, silence and stored memory are document 01's terms; forget/specs and model/specs/Calls.antt define them. Each statement stands above its proof: a statement about contracts can't stand in specs/, which sees none. Assumes nothing.
use mathlib.Core.Path.{◌≡◌, refl, sym, ap, subst, ◌∙◌}
use mathlib.Core.Logic.{◌⊎◌}
use mathlib.Core.List.{List}
use Prim.Native.Nat.{ℕ, ◌≤◌}
use lib.ListN.{length, get_or}
use contract.Lifetimes.{Lfts}
use Rattle.forget.specs.Machine.{Entry, Every, log, end}
use Rattle.forget.specs.Claim.{Forgets}
use Rattle.forget.specs.Striking.{clean, staying, behind_others, remaining}
use Rattle.model.specs.declared.Tag.{Tag}
use Rattle.model.specs.declared.State.TheVariants.{Waiting, Active}
use Rattle.model.specs.declared.Reply.TheVariants.{Silence, Nibble}
use Rattle.model.specs.declared.Barred.TheVariants.{Open}
use Rattle.model.specs.declared.Command.TheVariants.{Write}
use Rattle.model.specs.Record.{zero_tag}
use Rattle.model.specs.Numbers.{nibble_of}
use Rattle.model.specs.Telling.{code_of}
use Rattle.model.specs.Writing.{barred_place}
use Rattle.model.specs.Frame.{Outcome, frame, reply_of, laid_over}
use Rattle.model.specs.Image.{load}
use Rattle.model.specs.Demand1.{Ended, Event}
use Rattle.model.specs.ReasonClaims.{WriteStopped}
use Rattle.model.specs.Calls.{Box, quiet, Bytes, Fit, stored_of, tag_machine, loaded_box}
use Rattle.model.proofs.Demand1.{number-in-table, refusal-ends, keeps-all, power-keeps-stored, select-keeps-stored, load-refused, save-refused}
use Rattle.model.proofs.Reasons.{first-rule-told, no-other-reason}
use Rattle.model.proofs.Image.{load-done}
use Rattle.model.proofs.Claims.{damage-forgotten}
use Rattle.events.specs.declared.Answer.{Answer}
use Rattle.tag.proofs.power.Reads as power-call
use Rattle.tag.proofs.select.Reads as select-call
use Rattle.runs.proofs.Made.{Slice, MutSlice, Loading, box_of, Saving, FrameMet, Made, powered, selected, got, InTurn, log_of, last, calls_of}
use Rattle.runs.proofs.Steps.{loaded-box, outcome_of, outcome-frame, got-step, log-run, last-run}

-- ---- demand 3

-- the calls ms were made from b, and then the calls again from the same b
pub record Forgotten (b : Box) (ms again : List Made) : Type 0 where
  -- each call that stays gets the same number, the same reply and the same reason, and leaves the same memory
  pub same : log_of b again ≡ staying tag_machine clean (log_of b ms)
  -- each call struck out behind another got silence, and no reason
  pub silent : Every (λ (e : Entry tag_machine). e.said ≡ quiet) (behind_others tag_machine clean (log_of b ms))
  -- the stored memory ends equal
  pub ended : stored_of (last b again) ≡ stored_of (last b ms)

-- An image is loaded with answer 0, and any calls are made in turn. It is loaded again, into any store that takes it, and of the calls those are made
-- that stay.
abbrev pub CallsForget : Type 0
CallsForget =
    (l l' : Loading) → l.result.number ≡ 0 → l'.result.number ≡ 0 → l'.file.now ≡ l.file.now → Bytes l.file.now
    → (ms : List Made) → InTurn (box_of l) ms → Every Fit (calls_of ms)
    → (again : List Made) → InTurn (box_of l') again → calls_of again ≡ remaining tag_machine clean (log_of (box_of l) ms)
    → (box_of l' ≡ box_of l) × Forgotten (box_of l) ms again

-- two loadings of an image leave the same
same-box : (i s t : List ℕ) → (load i s).number ≡ 0 → (load i t).number ≡ 0 → loaded_box i s ≡ loaded_box i t
same-box i s t e e' =
    let both = load-done i s e ∙ sym (load-done i t e') in
    λ k. record { tag = (both k).tag; store = (both k).store }

module _ (b : Box) (ms again : List Made) (turn : InTurn b ms) (turn' : InTurn b again)
    (stay : calls_of again ≡ remaining tag_machine clean (log_of b ms)) where
  run : log_of b ms ≡ log tag_machine b (calls_of ms)
  run = log-run b ms turn

  stays : calls_of again ≡ remaining tag_machine clean (log tag_machine b (calls_of ms))
  stays = stay ∙ ap (λ (es : List (Entry tag_machine)). remaining tag_machine clean es) run

  forgotten : Forgets tag_machine b (calls_of ms) → Forgotten b ms again
  forgotten f = record {
    same =
        log-run b again turn' ∙ ap (log tag_machine b) stays ∙ f.again
        ∙ ap (λ (es : List (Entry tag_machine)). staying tag_machine clean es) (sym run);
    silent = subst (λ (es : List (Entry tag_machine)). Every (λ (e : Entry tag_machine). e.said ≡ quiet) (behind_others tag_machine clean es)) (sym run) f.silent;
    ended =
        ap stored_of (last-run b again turn' ∙ ap (end tag_machine b) stays) ∙ f.ended ∙ ap stored_of (sym (last-run b ms turn));
  }

pub calls-forget : CallsForget
calls-forget l l' e e' file h ms turn fit again turn' stay =
    let i = l.file.now in
    let zero : (load i l.store.now).number ≡ 0 = sym l.met.0 ∙ e in
    let zero' : (load i l'.store.now).number ≡ 0 =
    ap (λ (x : List ℕ). (load x l'.store.now).number) (sym file) ∙ sym l'.met.0 ∙ e' in
    let box : box_of l' ≡ box_of l =
    loaded-box l' ∙ ap (λ (x : List ℕ). loaded_box x l'.store.now) file ∙ same-box i l'.store.now l.store.now zero' zero ∙ sym (loaded-box l) in
    let claim = subst (λ (b : Box). Forgets tag_machine b (calls_of ms)) (sym (loaded-box l)) (damage-forgotten i l.store.now h zero (calls_of ms) fit) in
    (box, forgotten (box_of l) ms again turn (subst (λ (b : Box). InTurn b again) box turn') stay claim)

-- ---- demand 1

-- a loading that is refused is answered 10 or 12, hands back the zero record and leaves the store
abbrev pub LoadsRefused : Type 0
LoadsRefused =
    (l : Loading) → (l.result.number ≡ 0 → ⊥)
    → ((l.result.number ≡ 10) ⊎ (l.result.number ≡ 12)) × (l.result.tag ≡ zero_tag) × (l.store'.now ≡ l.store.now)

pub loads-refused : LoadsRefused
loads-refused l h =
    let d = load-refused l.file.now l.store.now (λ z. h (l.met.0 ∙ z)) in
    (rw l.met.0 d.0, l.met.1.0 ∙ d.1, l.met.1.1 ∙ d.2)

-- a saving that is refused is answered 10 and leaves the buffer; the store and the record are only lent to it
abbrev pub SavesRefused : Type 0
SavesRefused = (v : Saving) → (v.number ≡ 0 → ⊥) → (v.number ≡ 10) × (v.file'.now ≡ v.file.now)

pub saves-refused : SavesRefused
saves-refused v h =
    let d = save-refused v.tag v.store.now v.file.now (λ z. h (v.met.0 ∙ z)) in
    (v.met.0 ∙ d.0, v.met.1 ∙ d.1)

-- `power` and `select`: 0 with silence and all that is stored kept, whatever the record and the store beside it
abbrev pub EventsKeep : Type 0
EventsKeep =
    (b : Box) (r : Answer)
    → ((h : power-call.Learnt tt (b.tag, tt) r (b.tag, tt)) → Event b Waiting (got b (powered b.tag r h)))
    × ((h : select-call.Learnt tt (b.tag, tt) r (b.tag, tt)) → Event b Active (got b (selected b.tag r h)))

pub events-keep : EventsKeep
events-keep b r = (
  λ h. subst (Event b Waiting) (sym (got-step b (powered b.tag r h) refl)) (power-keeps-stored b),
  λ h. subst (Event b Active) (sym (got-step b (selected b.tag r h) refl)) (select-keeps-stored b),
)

-- a frame, any record, store, frame, random bytes and reply buffer, that met the `ensures` of `frame`
module _ (κs : Lfts 4) (tag : Tag) (store : MutSlice) (f random : Slice) (reply : MutSlice) (r : Answer) (store' reply' : MutSlice)
    (met : FrameMet κs tag store f random reply r store' reply') where
  abbrev o : Outcome
  o = frame tag store.now f.now random.now (length reply.now)

  abbrev back : Outcome
  back = outcome_of r reply'.now store'.now

  whole : back ≡ o
  whole =
      outcome-frame tag store.now f.now random.now reply.now r store'.now reply'.now
      met.0 met.1.0 met.1.1.0 met.1.1.1.0 met.1.1.1.1.0 met.1.1.1.1.1

  abbrev pub FramesNumbered : Type 0
  FramesNumbered = r.number ≤ 11

  pub frames-numbered : FramesNumbered
  frames-numbered = subst (λ (n : ℕ). n ≤ 11) (sym met.0) (number-in-table tag store.now f.now random.now (length reply.now))

  -- 2 to 9 and 11: a nibble, no byte of the buffer written, and what Demand1.antt's Ended says
  abbrev pub FramesRefused : Type 0
  FramesRefused =
      (r.number ≡ 0 → ⊥) → (r.number ≡ 1 → ⊥) → (r.number ≡ 10 → ⊥)
      → Ended tag store.now back × (r.reply ≡ Nibble (nibble_of r.number)) × (reply'.now ≡ reply.now)

  pub frames-refused : FramesRefused
  frames-refused n0 n1 n10 =
      let e = refusal-ends tag store.now f.now random.now (length reply.now) (λ z. n0 (met.0 ∙ z)) (λ z. n1 (met.0 ∙ z)) (λ z. n10 (met.0 ∙ z)) in (
        subst (Ended tag store.now) (sym whole) e,
        met.1.0 ∙ ap reply_of e.nak ∙ ap (λ (n : ℕ). Nibble (nibble_of n)) (sym met.0),
        met.1.1.1.1.1 ∙ e.unwritten reply.now,
      )

  -- 1 and 10: record, store and reply buffer as they came, with silence and no reason
  abbrev pub FramesKeep : Type 0
  FramesKeep =
      (r.number ≡ 1) ⊎ (r.number ≡ 10)
      → (r.tag ≡ tag) × (store'.now ≡ store.now) × (r.reply ≡ Silence) × (reply'.now ≡ reply.now) × (r.reason ≡ Open)

  pub frames-keep : FramesKeep
  frames-keep n =
      let u = keeps-all tag store.now f.now random.now (length reply.now) (subst (λ (k : ℕ). (k ≡ 1) ⊎ (k ≡ 10)) met.0 n) in (
        met.1.1.1.0 ∙ u.record',
        met.1.1.1.1.0 ∙ u.pages,
        met.1.0 ∙ ap reply_of u.silent,
        met.1.1.1.1.1 ∙ ap (laid_over reply.now) u.silent,
        met.1.1.0 ∙ u.unstopped,
      )

  -- request E6: a WRITE answered 6 or 7 says the first rule that applies, and every other answer none
  abbrev pub FramesSayWhy : Type 0
  FramesSayWhy =
      (get_or f.now 0 0 ≡ code_of Write → (r.number ≡ 6) ⊎ (r.number ≡ 7) → WriteStopped tag store.now f.now back)
      × ((get_or f.now 0 0 ≡ code_of Write → ⊥) ⊎ ((r.number ≡ 6 → ⊥) × (r.number ≡ 7 → ⊥)) → barred_place r.reason ≡ 0)

  pub frames-say-why : FramesSayWhy
  frames-say-why = (
    λ code n. subst (WriteStopped tag store.now f.now) (sym whole)
        (first-rule-told tag store.now f.now random.now (length reply.now) code (subst (λ (k : ℕ). (k ≡ 6) ⊎ (k ≡ 7)) met.0 n)),
    λ other. ap barred_place met.1.1.0
        ∙ no-other-reason tag store.now f.now random.now (length reply.now)
        (subst (λ (k : ℕ). (get_or f.now 0 0 ≡ code_of Write → ⊥) ⊎ ((k ≡ 6 → ⊥) × (k ≡ 7 → ⊥))) met.0 other),
  )

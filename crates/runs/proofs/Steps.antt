-- What comes back from a call is what the definition gives, and so for a list of calls.
--
--   loaded-box    a loading leaves the definition's record and store
--   got-step      a call gives the step of demand 3's machine
--   log-run       the log of calls made in turn is the machine's
--   last-run      and so is what is left in the end
--   step_room     a frame's step is the same for every well-sized reply buffer
--   can-be-made, calls-can-be-made, load-can-be-made
--                 there is a result that meets the contract, for every call at every record and store, for every list of calls in turn, and for a loading
--
-- Assumes nothing.
use mathlib.Core.Path.{◌≡◌, refl, ap, ◌∙◌}
use mathlib.Core.List.{List, [], ◌∷◌}
use Prim.Native.Nat.{ℕ, ◌≤◌}
use borrow.Author.Tests.{le-ltb}
use lib.ListN.{length, replicate, length-replicate}
use contract.Lifetimes.{Lfts}
use Rattle.forget.specs.Machine.{Given, Entry, entry, log, end}
use Rattle.model.specs.declared.Tag.{Tag}
use Rattle.model.specs.Map.{mf0aes20, reply_size}
use Rattle.model.specs.Writing.{barred_place}
use Rattle.model.specs.Frame.{misfit, earlier_number, decide, Outcome, frame, reply_of, laid_over}
use Rattle.model.specs.Image.{load}
use Rattle.model.specs.Record as event
use Rattle.model.specs.declared.Reply.TheVariants.{Silence}
use Rattle.model.specs.declared.Barred.TheVariants.{Open}
use Rattle.model.specs.Calls as call
use Rattle.model.specs.Calls.{Box, Call, power, select, Report, step, tag_machine, loaded_box}
use Rattle.events.specs.declared.Answer.{Answer}
use Rattle.runs.specs.Heard.{heard}
use Rattle.runs.proofs.Heard.{said_fits, heard-said}
use Rattle.runs.proofs.Made.{Slice, MutSlice, Loading, box_of, Made, powered, selected, framed, call_of, report_of, got, Handed, InTurn, log_of, last, calls_of}

pub loaded-box : (l : Loading) → box_of l ≡ loaded_box l.file.now l.store.now
loaded-box l = λ i. record { tag = l.met.1.0 i; store = l.met.1.1 i }

-- the answer and the buffer of a frame that met its contract, as an outcome of the definition
abbrev pub outcome_of : Answer → List ℕ → List ℕ → Outcome
outcome_of r reply' store' = record { number = r.number; said = heard r.reply reply'; reason = r.reason; tag = r.tag; store = store' }

pub outcome-frame : (tag : Tag) (s f random reply : List ℕ) (r : Answer) (s' reply' : List ℕ) → let o = frame tag s f random (length reply) in
    r.number ≡ o.number → r.reply ≡ reply_of o.said → r.reason ≡ o.reason → r.tag ≡ o.tag → s' ≡ o.store → reply' ≡ laid_over reply o.said
    → outcome_of r reply' s' ≡ o
outcome-frame tag s f random reply r s' reply' n y w t st b =
    let o = frame tag s f random (length reply) in
    let said : heard r.reply reply' ≡ o.said =
    (λ i. heard (y i) (b i)) ∙ heard-said reply o.said (said_fits tag s f random (length reply)) in
    λ i. record { number = n i; said = said i; reason = w i; tag = t i; store = st i }

pub got-step : (b : Box) (m : Made) → Handed b m → got b m ≡ step b (call_of m)
unfolding step
got-step b (powered tag r h) e =
    λ i. record { number = (h i).number; said = report_of (h i) []; next = record { tag = (ap (λ (x : Answer). x.tag) h ∙ ap event.power e) i; store = b.store } }
got-step b (selected tag r h) e =
    λ i. record { number = (h i).number; said = report_of (h i) []; next = record { tag = (ap (λ (x : Answer). x.tag) h ∙ ap event.select e) i; store = b.store } }
got-step b (framed κs tag store f random reply r store' reply' h) e =
    let whole = outcome-frame tag store.now f.now random.now reply.now r store'.now reply'.now h.0 h.1.0 h.1.1.0 h.1.1.1.0 h.1.1.1.1.0 h.1.1.1.1.1 in
    let given : frame tag store.now f.now random.now (length reply.now) ≡ frame b.tag b.store f.now random.now (length reply.now) =
    λ i. frame (e.0 i) (e.1 i) f.now random.now (length reply.now) in
    ap
    (λ (o : Outcome). record {
      number = o.number;
      said = record { reply = o.said; place = barred_place o.reason };
      next = record { tag = o.tag; store = o.store };
    })
    (whole ∙ given)

pub log-run : (b : Box) (ms : List Made) → InTurn b ms → log_of b ms ≡ log tag_machine b (calls_of ms)
unfolding log
log-run b [] h = refl
log-run b (m ∷ ms) h =
    let e = got-step b m h.0 in
    ap (λ (es : List (Entry tag_machine)). entry tag_machine (call_of m) (got b m) ∷ es) (log-run (got b m).next ms h.1)
    ∙ ap (λ (g : Given Box Report). entry tag_machine (call_of m) g ∷ log tag_machine g.next (calls_of ms)) e

pub last-run : (b : Box) (ms : List Made) → InTurn b ms → last b ms ≡ end tag_machine b (calls_of ms)
unfolding end
last-run b [] h = refl
last-run b (m ∷ ms) h =
    last-run (got b m).next ms h.1 ∙ ap (λ (g : Given Box Report). end tag_machine g.next (calls_of ms)) (got-step b m h.0)

-- ---- the premises can be met

-- a slice that holds the list xs
abbrev slice : List ℕ → Slice
slice xs = record { ref_ptr = (0, 0); now = xs }

abbrev mut_slice : List ℕ → MutSlice
mut_slice xs = record { ref_ptr = (0, 0); ghost_name = 0; now = xs }

pub can-be-made : (κs : Lfts 4) (b : Box) (c : Call) → (m : Made) × Handed b m × (call_of m ≡ c)
can-be-made κs b power = (powered b.tag (record { number = 0; reply = Silence; reason = Open; tag = event.power b.tag }) refl, refl, refl)
can-be-made κs b select = (selected b.tag (record { number = 0; reply = Silence; reason = Open; tag = event.select b.tag }) refl, refl, refl)
can-be-made κs b (call.frame f random room) =
    let buffer : List ℕ = replicate room 0 in
    let o = frame b.tag b.store f random (length buffer) in (
      framed κs b.tag (mut_slice b.store) (slice f) (slice random) (mut_slice buffer)
          (record { number = o.number; reply = reply_of o.said; reason = o.reason; tag = o.tag }) (mut_slice o.store) (mut_slice (laid_over buffer o.said))
          (refl, (refl, (refl, (refl, (refl, refl))))),
      (refl, refl),
      ap (λ (n : ℕ). call.frame f random n) (length-replicate room 0),
    )

pub calls-can-be-made : (κs : Lfts 4) (b : Box) (cs : List Call) → (ms : List Made) × InTurn b ms × (calls_of ms ≡ cs)
calls-can-be-made κs b [] = ([], tt, refl)
calls-can-be-made κs b (c ∷ cs) =
    let one = can-be-made κs b c in
    let rest = calls-can-be-made κs (got b one.0).next cs in
    (one.0 ∷ rest.0, (one.1, rest.1), λ i. one.2 i ∷ rest.2 i)

pub load-can-be-made : (κs : Lfts 2) (i s : List ℕ) → (l : Loading) × (l.file.now ≡ i) × (l.store.now ≡ s)
load-can-be-made κs i s =
    let l = load i s in (
      record {
        κs = κs;
        file = slice i;
        store = mut_slice s;
        result = record { number = l.number; tag = l.tag };
        store' = mut_slice l.store;
        met = (refl, (refl, refl));
      },
      refl,
      refl,
    )

-- ---- the length of the reply buffer, where it is well-sized, is not seen

pub step_room : (b : Box) (f random : List ℕ) (room room' : ℕ) → reply_size mf0aes20 ≤ room → reply_size mf0aes20 ≤ room'
    → step b (call.frame f random room) ≡ step b (call.frame f random room')
unfolding step frame decide earlier_number misfit
step_room b f random room room' h h' = rw (le-ltb room (reply_size mf0aes20) h, le-ltb room' (reply_size mf0aes20) h')

-- Demand 3 of the calls that firmware makes, by their `ensures` alone.
--
--   CallsForget       damage is forgotten, in what the calls hand back
--
-- Stretch, struck out, silence and stored memory are document 01's terms; forget/specs and model/specs/Calls.antt define them. Assumes nothing.
use mathlib.Core.Path.{◌≡◌, sym, ap, subst, ◌∙◌}
use mathlib.Core.List.{List, [], ◌∷◌, map}
use mathlib.Core.Bool.{Bool, true, false, cond}
use Prim.Native.Nat.{ℕ}
use Rattle.forget.specs.Machine.{Entry, Every, log, end}
use Rattle.forget.specs.Claim.{Forgets}
use Rattle.forget.specs.Striking.{Fate, clean, is_stays, fates, having, staying, behind_others, remaining}
use Rattle.model.specs.Image as tag-image
use Rattle.model.specs.Calls.{Box, quiet, Bytes, Fit, stored_of, tag_machine}
use Rattle.model.proofs.Image.{load-done}
use Rattle.model.proofs.Claims.{damage-forgotten}
use Rattle.c_record.specs.Record.{bytes_of}
use Rattle.runs_c.proofs.Made.{Buffers, held, Loading, buffers_of, Made, InTurn, log_of, last, calls_of, left}
use Rattle.runs_c.proofs.Steps.{Sound, log-run, last-run, loaded-zero, loaded_bytes, loaded-store, loaded-held, loaded-sound}

-- the calls ms were made from the buffers b, and then the calls again from the same b
pub record Forgotten (b : Buffers) (ms again : List Made) : Type 0 where
  -- each call that stays gets the same number, the same reply and the same reason, and leaves the same memory
  pub same : log_of b again ≡ staying tag_machine clean (log_of b ms)
  -- each call struck out behind another got silence, and no reason
  pub silent : Every (λ (e : Entry tag_machine). e.said ≡ quiet) (behind_others tag_machine clean (log_of b ms))
  -- the stored memory ends equal
  pub ended : stored_of (held (last b again)) ≡ stored_of (held (last b ms))

-- An image is loaded with answer 0, and any calls are made in turn. It is loaded again, into any buffers that take it, and of the calls those are made
-- that stay.
abbrev pub CallsForget : Type 0
CallsForget =
    (l l' : Loading) → l.number ≡ 0 → l'.number ≡ 0 → l'.file.now ≡ l.file.now → Bytes l.file.now
    → (ms : List Made) → InTurn (buffers_of l) ms → Every Fit (calls_of ms)
    → (again : List Made) → InTurn (buffers_of l') again → calls_of again ≡ remaining tag_machine clean (log_of (buffers_of l) ms)
    → (buffers_of l' ≡ buffers_of l) × Forgotten (buffers_of l) ms again

-- two loadings of an image leave the same bytes
same-buffers : (l l' : Loading) → l.number ≡ 0 → l'.number ≡ 0 → l'.file.now ≡ l.file.now → buffers_of l' ≡ buffers_of l
same-buffers l l' e e' file =
    let i = l.file.now in
    let z = loaded-zero l e in
    let z' : (tag-image.load i l'.store.now).number ≡ 0 =
    ap (λ (x : List ℕ). (tag-image.load x l'.store.now).number) (sym file) ∙ loaded-zero l' e' in
    let both : tag-image.load l'.file.now l'.store.now ≡ tag-image.load i l.store.now =
    ap (λ (x : List ℕ). tag-image.load x l'.store.now) file ∙ load-done i l'.store.now z' ∙ sym (load-done i l.store.now z) in
    let bytes = loaded_bytes l' e' ∙ ap (λ (x : tag-image.Loaded). bytes_of x.tag) both ∙ sym (loaded_bytes l e) in
    let store = loaded-store l' e' ∙ ap (λ (x : tag-image.Loaded). x.store) both ∙ sym (loaded-store l e) in
    λ k. record { bytes = bytes k; store = store k }

-- the calls that remain are among those that were made
abbrev FitEntry : Entry tag_machine → Type 0
FitEntry e = Fit e.call

log-fit : (b : Buffers) (ms : List Made) → Every Fit (calls_of ms) → Every FitEntry (log_of b ms)
log-fit b [] h = tt
log-fit b (m ∷ ms) h = (h.0, log-fit (left b m) ms h.1)

either : (t : Bool) (e : Entry tag_machine) (es : List (Entry tag_machine)) → FitEntry e → Every FitEntry es → Every FitEntry (cond t (e ∷ es) es)
either true e es h hs = (h, hs)
either false e es h hs = hs

having-fit : (test : Fate → Bool) (fs : List Fate) (es : List (Entry tag_machine)) → Every FitEntry es → Every FitEntry (having tag_machine test fs es)
unfolding having
having-fit test [] es h = tt
having-fit test (f ∷ fs) [] h = tt
having-fit test (f ∷ fs) (e ∷ es) h = either (test f) e (having tag_machine test fs es) h.0 (having-fit test fs es h.1)

calls-fit : (es : List (Entry tag_machine)) → Every FitEntry es → Every Fit (map (λ (e : Entry tag_machine). e.call) es)
calls-fit [] h = tt
calls-fit (e ∷ es) h = (h.0, calls-fit es h.1)

remaining-fit : (b : Buffers) (ms : List Made) → Every Fit (calls_of ms) → Every Fit (remaining tag_machine clean (log_of b ms))
remaining-fit b ms h = calls-fit (staying tag_machine clean (log_of b ms)) (having-fit is_stays (fates tag_machine clean (log_of b ms)) (log_of b ms) (log-fit b ms h))

module _ (b : Buffers) (sound : Sound b) (ms again : List Made) (turn : InTurn b ms) (turn' : InTurn b again) (fit : Every Fit (calls_of ms))
    (stay : calls_of again ≡ remaining tag_machine clean (log_of b ms)) where
  run : log_of b ms ≡ log tag_machine (held b) (calls_of ms)
  run = log-run b ms sound turn fit

  fit' : Every Fit (calls_of again)
  fit' = subst (Every Fit) (sym stay) (remaining-fit b ms fit)

  stays : calls_of again ≡ remaining tag_machine clean (log tag_machine (held b) (calls_of ms))
  stays = stay ∙ ap (λ (es : List (Entry tag_machine)). remaining tag_machine clean es) run

  forgotten : Forgets tag_machine (held b) (calls_of ms) → Forgotten b ms again
  forgotten f = record {
    same =
        log-run b again sound turn' fit' ∙ ap (log tag_machine (held b)) stays ∙ f.again
        ∙ ap (λ (es : List (Entry tag_machine)). staying tag_machine clean es) (sym run);
    silent = subst (λ (es : List (Entry tag_machine)). Every (λ (e : Entry tag_machine). e.said ≡ quiet) (behind_others tag_machine clean es)) (sym run) f.silent;
    ended =
        ap stored_of (last-run b again sound turn' fit' ∙ ap (end tag_machine (held b)) stays) ∙ f.ended
        ∙ ap stored_of (sym (last-run b ms sound turn fit));
  }

pub calls-forget : CallsForget
calls-forget l l' e e' file h ms turn fit again turn' stay =
    let same = same-buffers l l' e e' file in
    let claim = subst (λ (b : Box). Forgets tag_machine b (calls_of ms)) (sym (loaded-held l e h))
    (damage-forgotten l.file.now l.store.now h (loaded-zero l e) (calls_of ms) fit) in
    (same, forgotten (buffers_of l) (loaded-sound l e h) ms again turn (subst (λ (b : Buffers). InTurn b again) same turn') fit stay claim)

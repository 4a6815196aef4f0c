-- Demand 1 of the calls that firmware makes, and request E6, by their `ensures` alone.
--
--   LoadsRefused, SavesRefused
--                     a refused `kz_load` and `kz_save`
--   EventsKeep        `kz_power` and `kz_select`
--   FramesNumbered, FramesRefused, FramesKeep
--                     `kz_frame`: its numbers; what a refusal leaves; 1 and 10 change no buffer
--   FramesSayWhy      why a WRITE was refused
--
-- Assumes nothing.
use mathlib.Core.Path.{◌≡◌, refl, sym, ap, subst, ◌∙◌}
use mathlib.Core.Logic.{◌⊎◌, inl, inr}
use mathlib.Core.List.{List, [], ◌∷◌, ◌++◌}
use mathlib.Core.Bool.{Bool, true, false, not, ◌&&◌, cond}
use Prim.Native.Nat.{ℕ, ◌+◌, ◌^◌, ◌≤◌, ◌<◌}
use native.Mathlib.Omega.{arith}
use native.Mathlib.Decide.{ℕ_discrete}
use borrow.Author.Tests.{ne_eqb}
use lib.Dec.{eqb}
use lib.ListN.{length, get_or, take, drop}
use contract.Lifetimes.{Lfts}
use Rattle.model.specs.declared.Tag.{Tag}
use Rattle.model.specs.declared.State.{State}
use Rattle.model.specs.declared.State.TheVariants.{Waiting, Active}
use Rattle.model.specs.declared.Command.TheVariants.{Write}
use Rattle.model.specs.declared.Decision.{Decision}
use Rattle.model.specs.Map.{mf0aes20}
use Rattle.model.specs.Settings.{auth_limit}
use Rattle.model.specs.Record.{zeros, exists, possible, zero_tag}
use Rattle.model.specs.declared.Reply.TheVariants.{Silence, Nibble}
use Rattle.model.specs.Counters.{low_first}
use Rattle.model.specs.Numbers.{nibble_of, kept}
use Rattle.model.specs.Writing.{barred_place}
use Rattle.model.specs.ReasonClaims.{first_rule, rule_at}
use Rattle.model.specs.Telling.{code_of}
use Rattle.model.specs.Frame.{misfit, data4, Outcome, frame, reply_of, laid_over}
use Rattle.model.specs.Image as tag-image
use Rattle.model.specs.Demand1.{Ended}
use Rattle.model.specs.Calls.{Bytes}
use Rattle.model.proofs.Image.{bounded}
use Rattle.model.proofs.Misfit.{fits-possible}
use Rattle.model.proofs.Stages.{decide-misfit}
use Rattle.model.proofs.Demand1.{number-in-table, refusal-ends, keeps-all, load-refused, save-refused}
use Rattle.model.proofs.Reasons.{first-rule-told, no-other-reason, place-tells-rule}
use Rattle.runs.specs.Heard.{heard}
use Rattle.runs.proofs.Heard.{said_fits, heard-said}
use Rattle.runs.proofs.Made.{Slice, MutSlice}
use Rattle.c_record.specs.Record.{record_size, state_byte, record_of, head_of, bytes_of, keeps, handed_back}
use Rattle.c_record.specs.Claims.{Holds}
use Rattle.c_record.proofs.Laws.{event-bytes, ended-bytes, bytes-hold, decode-after-encode, handed-kept, handed-written}
use Rattle.c_answer.specs.Answer.{packed, answer_of, number_in, kind_in, reason_in, reply_in}
use Rattle.tag_c.specs.Calls as c-form
use Rattle.tag_c.proofs.Calls.{power-fits, power-other, select-fits, select-other, frame-fits, frame-other, load_fits, load-other, save-fits, save-other}
use Rattle.tag_c.proofs.kz_power.Reads as power-call
use Rattle.tag_c.proofs.kz_select.Reads as select-call
use Rattle.runs_c.proofs.Made.{Loading, Saving, FrameMet}
use Rattle.runs_c.proofs.Answers.{number_read, reason-read, reply-read}

-- a loading that is refused: 10 changes no buffer; 12 writes the zero record, 48 zero bytes, and leaves the store
abbrev pub LoadRefused : Loading → Type 0
LoadRefused l =
    (l.store'.now ≡ l.store.now)
    × (((l.number ≡ 10) × (l.bytes'.now ≡ l.bytes.now)) ⊎ ((l.number ≡ 12) × (l.bytes'.now ≡ zeros ++ zeros ++ zeros)))

abbrev pub LoadsRefused : Type 0
LoadsRefused = (l : Loading) → (l.number ≡ 0 → ⊥) → LoadRefused l

zero-bytes : bytes_of zero_tag ≡ zeros ++ zeros ++ zeros
unfolding bytes_of head_of
zero-bytes = refl

module _ (l : Loading) (h : l.number ≡ 0 → ⊥) where
  abbrev b : List ℕ
  b = l.bytes.now

  abbrev s : List ℕ
  s = l.store.now

  abbrev i : List ℕ
  i = l.file.now

  abbrev v : tag-image.Loaded
  v = tag-image.load i s

  -- what the tag's own refusal leaves in the record buffer
  left-bytes : (v.number ≡ 10) ⊎ (v.number ≡ 12) → v.tag ≡ zero_tag → l.number ≡ v.number → l.bytes'.now ≡ handed_back v.number v.tag b
      → ((l.number ≡ 10) × (l.bytes'.now ≡ b)) ⊎ ((l.number ≡ 12) × (l.bytes'.now ≡ zeros ++ zeros ++ zeros))
  unfolding keeps
  left-bytes (inl e) t n bytes = inl (n ∙ e, bytes ∙ handed-kept v.number v.tag b (ap keeps e))
  left-bytes (inr e) t n bytes = inr (n ∙ e, bytes ∙ handed-written v.number v.tag b (ap keeps e) ∙ ap bytes_of t ∙ zero-bytes)

  by_length : Dec (length b ≡ record_size) → LoadRefused l
  by_length (yes long) =
      let here = load_fits b long s i in
      let n : l.number ≡ v.number = l.met.0 ∙ ap (λ (x : c-form.Loaded). x.number) here in
      let d = load-refused i s (λ z. h (n ∙ z)) in
      let bytes = l.met.1.0 ∙ ap (λ (x : c-form.Loaded). x.bytes) here in
      (l.met.1.1 ∙ ap (λ (x : c-form.Loaded). x.store) here ∙ d.2, left-bytes d.0 d.1 n bytes)
  by_length (no other) =
      let here = load-other b other s i in (
        l.met.1.1 ∙ ap (λ (x : c-form.Loaded). x.store) here,
        inl (l.met.0 ∙ ap (λ (x : c-form.Loaded). x.number) here, l.met.1.0 ∙ ap (λ (x : c-form.Loaded). x.bytes) here),
      )

pub loads-refused : LoadsRefused
loads-refused l h = by_length l h (ℕ_discrete (length l.bytes.now) record_size)

-- a saving that is refused is answered 10 and leaves the buffer; record and store are only lent to it
abbrev pub SavesRefused : Type 0
SavesRefused = (v : Saving) → (v.number ≡ 0 → ⊥) → (v.number ≡ 10) × (v.file'.now ≡ v.file.now)

pub saves-refused : SavesRefused
saves-refused v h = by (ℕ_discrete (length v.bytes.now) record_size)
  where
    by : Dec (length v.bytes.now ≡ record_size) → (v.number ≡ 10) × (v.file'.now ≡ v.file.now)
    by (yes long) =
        let b = v.bytes.now in
        let here = save-fits b long v.store.now v.file.now in
        let n = v.met.0 ∙ ap (λ (x : c-form.Saved). x.number) here in
        let d = save-refused (record_of b) v.store.now v.file.now (λ z. h (n ∙ z)) in
        (n ∙ d.0, v.met.1 ∙ ap (λ (x : c-form.Saved). x.file) here ∙ d.1)
    by (no other) =
        let here = save-other v.bytes.now other v.store.now v.file.now in
        (v.met.0 ∙ ap (λ (x : c-form.Saved). x.number) here, v.met.1 ∙ ap (λ (x : c-form.Saved). x.file) here)

-- `kz_power` and `kz_select`, whatever 48 bytes they are given: 0, the stored bytes as they were, the state, no key number and no challenge. Another
-- length is 10 and changes no byte.
abbrev pub Kept : List ℕ → State → ℕ → List ℕ → Type 0
Kept b st n b' =
    (length b ≡ record_size → (n ≡ 0) × (b' ≡ take 14 b ++ (state_byte st ∷ 0 ∷ []) ++ take 16 (drop 16 b) ++ zeros))
    × ((length b ≡ record_size → ⊥) → (n ≡ 10) × (b' ≡ b))

abbrev pub EventsKeep : Type 0
EventsKeep =
    (κs : Lfts 1) (bytes : MutSlice) (n : ℕ) (bytes' : MutSlice) → Bytes bytes.now
    → (power-call.Learnt κs (bytes, tt) n (bytes', tt) → Kept bytes.now Waiting n bytes'.now)
    × (select-call.Learnt κs (bytes, tt) n (bytes', tt) → Kept bytes.now Active n bytes'.now)

pub events-keep : EventsKeep
events-keep κs bytes n bytes' ok = (
  λ h. (
    λ long. let e = power-fits bytes.now long in
        (h.0 ∙ ap (λ (v : c-form.Evented). v.number) e, h.1 ∙ ap (λ (v : c-form.Evented). v.bytes) e ∙ event-bytes bytes.now long ok Waiting),
    λ other. let e = power-other bytes.now other in
        (h.0 ∙ ap (λ (v : c-form.Evented). v.number) e, h.1 ∙ ap (λ (v : c-form.Evented). v.bytes) e),
  ),
  λ h. (
    λ long. let e = select-fits bytes.now long in
        (h.0 ∙ ap (λ (v : c-form.Evented). v.number) e, h.1 ∙ ap (λ (v : c-form.Evented). v.bytes) e ∙ event-bytes bytes.now long ok Active),
    λ other. let e = select-other bytes.now other in
        (h.0 ∙ ap (λ (v : c-form.Evented). v.number) e, h.1 ∙ ap (λ (v : c-form.Evented). v.bytes) e),
  ),
)

-- a frame, any 48 bytes, store, frame, random bytes and reply buffer, that met the `ensures` of `kz_frame`
module _ (κs : Lfts 5) (bytes store : MutSlice) (f random : Slice) (reply : MutSlice) (a : ℕ) (bytes' store' reply' : MutSlice)
    (met : FrameMet κs bytes store f random reply a bytes' store' reply') where
  -- what came back, as an outcome of the definition
  abbrev back : Outcome
  back = record {
    number = number_in a;
    said = heard (reply_in a) reply'.now;
    reason = rule_at (reason_in a);
    tag = record_of bytes'.now;
    store = store'.now;
  }

  abbrev t : Tag
  t = record_of bytes.now

  abbrev o : Outcome
  o = frame t store.now f.now random.now (length reply.now)

  -- no buffer is changed, nothing said, and no reason told
  abbrev Same : Type 0
  Same = (bytes'.now ≡ bytes.now) × (store'.now ≡ store.now) × (reply'.now ≡ reply.now) × (reply_in a ≡ Silence) × (reason_in a ≡ 0)

  -- every number is in document 01's table, and another length than the record's is 10
  abbrev pub FramesNumbered : Type 0
  FramesNumbered = (number_in a ≤ 11) × ((length bytes.now ≡ record_size → ⊥) → (number_in a ≡ 10) × Same)

  -- the record's bytes behind a refusal: counters and originality key as they were, WAITING, no key number and no challenge
  abbrev EndedBytes : Type 0
  EndedBytes = bytes'.now ≡ take 12 bytes.now ++ low_first 2 (record_of bytes'.now).failed ++ (0 ∷ 0 ∷ []) ++ take 16 (drop 16 bytes.now) ++ zeros

  -- 2 to 9 and 11: a nibble, no byte of the reply buffer written, and what Demand1.antt's Ended says, the count among it
  abbrev pub FramesRefused : Type 0
  FramesRefused =
      Bytes bytes.now → (number_in a ≡ 0 → ⊥) → (number_in a ≡ 1 → ⊥) → (number_in a ≡ 10 → ⊥)
      → Ended t store.now back × EndedBytes × (reply_in a ≡ Nibble (nibble_of (number_in a))) × (reply'.now ≡ reply.now)

  -- 1 and 10: every buffer as it came, with silence
  abbrev pub FramesKeep : Type 0
  FramesKeep = (number_in a ≡ 1) ⊎ (number_in a ≡ 10) → Same

  ten-read : (number_in (answer_of 10 0 Silence) ≡ 10) × (reply_in (answer_of 10 0 Silence) ≡ Silence) × (reason_in (answer_of 10 0 Silence) ≡ 0)
  unfolding packed number_in reply_in kind_in reason_in
  ten-read = (refl, refl, refl)

  other_length : (length bytes.now ≡ record_size → ⊥) → (number_in a ≡ 10) × Same
  other_length other =
      let here = frame-other bytes.now other store.now f.now random.now reply.now in
      let answer = met.0 ∙ ap (λ (v : c-form.Framed). v.answer) here in (
        ap number_in answer ∙ ten-read.0,
        (
          met.1.0 ∙ ap (λ (v : c-form.Framed). v.bytes) here,
          met.1.1.0 ∙ ap (λ (v : c-form.Framed). v.store) here,
          met.1.1.1 ∙ ap (λ (v : c-form.Framed). v.reply) here,
          ap reply_in answer ∙ ten-read.1,
          ap reason_in answer ∙ ten-read.2,
        ),
      )

  -- with the record's length
  module _ (long : length bytes.now ≡ record_size) where
    here : c-form.frame bytes.now store.now f.now random.now reply.now ≡ c-form.framed bytes.now store.now f.now random.now reply.now
    here = frame-fits bytes.now long store.now f.now random.now reply.now

    answer : a ≡ answer_of o.number (barred_place o.reason) (reply_of o.said)
    answer = met.0 ∙ ap (λ (v : c-form.Framed). v.answer) here

    number : number_in a ≡ o.number
    number = ap number_in answer ∙ number_read t store.now f.now random.now (length reply.now)

    place : reason_in a ≡ barred_place o.reason
    place = ap reason_in answer ∙ reason-read t store.now f.now random.now (length reply.now)

    spoken : reply_in a ≡ reply_of o.said
    spoken = ap reply_in answer ∙ reply-read t store.now f.now random.now (length reply.now)

    laid : reply'.now ≡ laid_over reply.now o.said
    laid = met.1.1.1 ∙ ap (λ (v : c-form.Framed). v.reply) here

    handed : bytes'.now ≡ handed_back o.number o.tag bytes.now
    handed = met.1.0 ∙ ap (λ (v : c-form.Framed). v.bytes) here

    pages : store'.now ≡ o.store
    pages = met.1.1.0 ∙ ap (λ (v : c-form.Framed). v.store) here

    kept_same : (o.number ≡ 1) ⊎ (o.number ≡ 10) → keeps o.number ≡ true → Same
    kept_same n k =
        let u = keeps-all t store.now f.now random.now (length reply.now) n in (
          handed ∙ handed-kept o.number o.tag bytes.now k,
          pages ∙ u.pages,
          laid ∙ ap (laid_over reply.now) u.silent,
          spoken ∙ ap reply_of u.silent,
          place ∙ ap barred_place u.unstopped,
        )

    -- number 10 is answered where anything is amiss, so a frame refused otherwise had a record that a tag can have
    no-misfit : (t' : Bool) → misfit mf0aes20 t store.now random.now (length reply.now) ≡ t' → (o.number ≡ 10 → ⊥) → possible t ≡ true
    unfolding frame kept
    no-misfit true e n = absurd (n (ap (λ (d : Decision). d.number) (decide-misfit mf0aes20 t store.now f.now random.now (length reply.now) e)))
    no-misfit false e n = fits-possible mf0aes20 t store.now random.now (length reply.now) e

    module _ (e : Ended t store.now o) (p : possible t ≡ true) (h : Holds t) where
      -- a refused frame raises the count by at most one
      count_low : (x : Bool) → cond x (t.failed + 1) t.failed < 2 ^ 16
      count_low true = omega (arith, (bounded t p).failed)
      count_low false = omega (arith, (bounded t p).failed)

      ended-holds : Holds o.tag
      ended-holds = record {
        three = ap length e.counters ∙ h.three;
        counters = λ n. subst (λ (cs : List ℕ). get_or cs n 0 < 2 ^ 32) (sym e.counters) (h.counters n);
        failed = subst (λ (c : ℕ). c < 2 ^ 16) (sym e.count) (count_low (eqb o.number 8 && not (eqb (auth_limit mf0aes20 store.now) 0)));
        original = ap length e.originality ∙ h.original;
        challenge = ap length e.forgotten;
      }

      ended-known : exists o.tag.state ≡ true
      unfolding exists
      ended-known = rw e.waiting

      ended-back : keeps o.number ≡ false → back ≡ o
      ended-back k =
          let said : heard (reply_in a) reply'.now ≡ o.said =
          (λ i. heard (spoken i) (laid i)) ∙ heard-said reply.now o.said (said_fits t store.now f.now random.now (length reply.now)) in
          let tag : record_of bytes'.now ≡ o.tag =
          ap record_of (handed ∙ handed-written o.number o.tag bytes.now k) ∙ decode-after-encode o.tag ended-holds ended-known in
          let reason : rule_at (reason_in a) ≡ o.reason = ap rule_at place ∙ place-tells-rule o.reason in
          λ i. record { number = number i; said = said i; reason = reason i; tag = tag i; store = pages i }

    keeps-not : (n : ℕ) → (n ≡ 1 → ⊥) → (n ≡ 10 → ⊥) → keeps n ≡ false
    unfolding keeps
    keeps-not n h1 h10 = rw (ne_eqb n 1 h1, ne_eqb n 10 h10)

    refused-so : FramesRefused
    refused-so ok n0 n1 n10 =
        let m1 : o.number ≡ 1 → ⊥ = λ z. n1 (number ∙ z) in
        let m10 : o.number ≡ 10 → ⊥ = λ z. n10 (number ∙ z) in
        let e = refusal-ends t store.now f.now random.now (length reply.now) (λ z. n0 (number ∙ z)) m1 m10 in
        let p = no-misfit (misfit mf0aes20 t store.now random.now (length reply.now)) refl m10 in
        let k = keeps-not o.number m1 m10 in
        let same = ended-back e p (bytes-hold bytes.now ok) k in (
          subst (Ended t store.now) (sym same) e,
          handed ∙ handed-written o.number o.tag bytes.now k
              ∙ ended-bytes bytes.now long ok back.tag.failed o.tag e.counters (ap (λ (x : Outcome). x.tag.failed) (sym same)) e.originality e.waiting e.forgotten,
          spoken ∙ ap reply_of e.nak ∙ ap (λ (n : ℕ). Nibble (nibble_of n)) (sym number),
          laid ∙ e.unwritten reply.now,
        )

    keeps-so : (n : ℕ) → (n ≡ 1) ⊎ (n ≡ 10) → keeps n ≡ true
    unfolding keeps
    keeps-so n (inl e) = rw e
    keeps-so n (inr e) = rw e

  pub frames-numbered : FramesNumbered
  frames-numbered = (by (ℕ_discrete (length bytes.now) record_size), other_length)
    where
      by : Dec (length bytes.now ≡ record_size) → number_in a ≤ 11
      by (yes long) = omega (arith, number long, number-in-table t store.now f.now random.now (length reply.now))
      by (no other) = omega (arith, (other_length other).0)

  pub frames-keep : FramesKeep
  frames-keep n = by (ℕ_discrete (length bytes.now) record_size)
    where
      by : Dec (length bytes.now ≡ record_size) → Same
      by (yes long) =
          let n' = subst (λ (k : ℕ). (k ≡ 1) ⊎ (k ≡ 10)) (number long) n in
          kept_same long n' (keeps-so long o.number n')
      by (no other) = (other_length other).1

  pub frames-refused : FramesRefused
  frames-refused ok n0 n1 n10 = by (ℕ_discrete (length bytes.now) record_size)
    where
      by : Dec (length bytes.now ≡ record_size)
          → Ended t store.now back × EndedBytes × (reply_in a ≡ Nibble (nibble_of (number_in a))) × (reply'.now ≡ reply.now)
      by (yes long) = refused-so long ok n0 n1 n10
      by (no other) = absurd (n10 (other_length other).0)

  -- request E6: at a WRITE answered 6 or 7 the place of the first rule that applies, and 0 at every other answer
  abbrev pub FramesSayWhy : Type 0
  FramesSayWhy =
      (get_or f.now 0 0 ≡ code_of Write → (number_in a ≡ 6) ⊎ (number_in a ≡ 7)
      → (reason_in a ≡ first_rule mf0aes20 t.state store.now (get_or f.now 1 0) (data4 f.now)) × (1 ≤ reason_in a))
      × ((get_or f.now 0 0 ≡ code_of Write → ⊥) ⊎ ((number_in a ≡ 6 → ⊥) × (number_in a ≡ 7 → ⊥)) → reason_in a ≡ 0)

  no-ten : (number_in a ≡ 6) ⊎ (number_in a ≡ 7) → number_in a ≡ 10 → ⊥
  no-ten (inl h) e = omega arith
  no-ten (inr h) e = omega arith

  pub frames-say-why : FramesSayWhy
  frames-say-why = by (ℕ_discrete (length bytes.now) record_size)
    where
      by : Dec (length bytes.now ≡ record_size) → FramesSayWhy
      by (yes long) = (
        λ code n. let w =
            first-rule-told t store.now f.now random.now (length reply.now) code (subst (λ (k : ℕ). (k ≡ 6) ⊎ (k ≡ 7)) (number long) n) in
            (place long ∙ w.rule, subst (λ (k : ℕ). 1 ≤ k) (sym (place long)) w.placed),
        λ other. place long
            ∙ no-other-reason t store.now f.now random.now (length reply.now)
            (subst (λ (k : ℕ). (get_or f.now 0 0 ≡ code_of Write → ⊥) ⊎ ((k ≡ 6 → ⊥) × (k ≡ 7 → ⊥))) (number long) other),
      )
      by (no other) = (λ code n. absurd (no-ten n (other_length other).0), λ _. (other_length other).1.4)

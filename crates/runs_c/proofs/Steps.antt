-- What comes back from a call of the C form is what the definition gives, and so for a list of calls.
--
--   Sound b        the record buffer has its length, and a tag can be in what the buffers hold
--   valid-holds    the record of such a tag can be written as bytes
--   loaded-held, loaded-sound
--                  a loading answered 0 leaves the definition's record and store, and sound buffers
--   got-step       a call gives the step of demand 3's machine
--   sound-left     and leaves sound buffers
--   log-run        the log of calls made in turn is the machine's
--   last-run       and so is what the buffers hold in the end
--   can-be-made, calls-can-be-made, load-can-be-made
--                  there is a result that meets the contract, for every call at any buffers, for every list of calls in turn, and for a loading
--   load-answered  some loading is answered 0
--
-- Assumes nothing.
use mathlib.Core.Path.{◌≡◌, refl, sym, ap, subst, ◌∙◌}
use mathlib.Core.Logic.{◌⊎◌, inl, inr}
use mathlib.Core.List.{List, [], ◌∷◌}
use mathlib.Core.Bool.{Bool, true, false, ◌||◌}
use Prim.Native.Nat.{ℕ}
use native.Mathlib.Omega.{arith}
use native.Mathlib.Decide.{ℕ_discrete}
use borrow.Author.Tests.{eqb-true}
use lib.Dec.{eqb}
use lib.ListN.{length, replicate, length-replicate}
use contract.Lifetimes.{Lfts}
use Rattle.forget.specs.Machine.{Given, Every, entry, log, end}
use Rattle.model.specs.Record as event
use Rattle.model.specs.Frame as tag-frame
use Rattle.model.specs.Writing.{barred_place}
use Rattle.model.specs.Frame.{Outcome, reply_of, laid_over}
use Rattle.model.specs.Map.{mf0aes20, store_size}
use Rattle.model.specs.CaseImages.{base}
use Rattle.model.specs.Image as tag-image
use Rattle.model.specs.Calls as call
use Rattle.model.specs.Calls.{Box, Call, Bytes, Fit, power, select, Report, quiet, step, tag_machine, loaded_box}
use Rattle.model.proofs.Valid.{Valid}
use Rattle.model.proofs.Sound.{valid-step}
use Rattle.model.proofs.Claims.{loaded-valid}
use Rattle.model.proofs.Image.{load-zero}
use Rattle.model.proofs.Demand1.{keeps-all}
use Rattle.runs.specs.Heard.{heard}
use Rattle.runs.proofs.Made.{Slice, MutSlice}
use Rattle.runs.proofs.Heard.{said_fits, heard-said}
use Rattle.c_record.specs.Record.{record_size, record_of, bytes_of, keeps, handed_back}
use Rattle.c_record.specs.Claims.{Holds}
use Rattle.c_record.proofs.Laws.{bytes-long, decode-after-encode, handed-kept, handed-written}
use Rattle.c_answer.specs.Answer.{answer_of, number_in, reason_in, reply_in}
use Rattle.tag_c.specs.Calls as c-form
use Rattle.tag_c.proofs.Calls.{power-fits, select-fits, frame-fits, load_fits, load-other}
use Rattle.runs_c.proofs.Answers.{number_read, reason-read, reply-read}
use Rattle.runs_c.proofs.Made.{Buffers, held, Loading, buffers_of, Made, powered, selected, framed, call_of, left, got, Handed, InTurn, log_of, last, calls_of}

pub record Sound (b : Buffers) : Type 0 where
  pub long : length b.bytes ≡ record_size
  pub valid : Valid (held b)

pub valid-holds : (b : Box) → Valid b → Holds b.tag
valid-holds b v = record {
  three = v.three;
  counters = λ n. omega (arith, v.low n);
  failed = omega (arith, v.count);
  original = v.original.sixteen;
  challenge = v.challenge.sixteen;
}

-- the bytes of a valid box's record hold that record
read_back : (b : Box) → Valid b → record_of (bytes_of b.tag) ≡ b.tag
read_back b v = decode-after-encode b.tag (valid-holds b v) v.known

written-long : (b : Box) → Valid b → length (bytes_of b.tag) ≡ record_size
written-long b v = bytes-long b.tag v.original.sixteen v.challenge.sixteen

-- ---- a frame

pub keeps-one : (n : ℕ) → keeps n ≡ true → (n ≡ 1) ⊎ (n ≡ 10)
unfolding keeps
keeps-one n = by (eqb n 1) (eqb n 10) refl refl
  where
    by : (x y : Bool) → eqb n 1 ≡ x → eqb n 10 ≡ y → x || y ≡ true → (n ≡ 1) ⊎ (n ≡ 10)
    by true y e e' h = inl (eqb-true n 1 e)
    by false y e e' h = inr (eqb-true n 10 (e' ∙ h))

module _ (b : Buffers) (sound : Sound b) (f random : List ℕ) (room : ℕ) (fit : Fit (call.frame f random room)) where
  abbrev o : Outcome
  o = tag-frame.frame (record_of b.bytes) b.store f random room

  abbrev after : Box
  after = record { tag = o.tag; store = o.store }

  valid-after : Valid after
  unfolding step
  valid-after = valid-step (held b) (call.frame f random room) sound.valid fit

  by-keeps : (t : Bool) → keeps o.number ≡ t
      → (record_of (handed_back o.number o.tag b.bytes) ≡ o.tag) × (length (handed_back o.number o.tag b.bytes) ≡ record_size)
  by-keeps true e =
      rw (handed-kept o.number o.tag b.bytes e)
      (sym (keeps-all (record_of b.bytes) b.store f random room (keeps-one o.number e)).record', sound.long)
  by-keeps false e = rw (handed-written o.number o.tag b.bytes e) (read_back after valid-after, written-long after valid-after)

  -- the buffers behind the frame hold what the definition leaves
  pub frame_back : (record_of (handed_back o.number o.tag b.bytes) ≡ o.tag) × (length (handed_back o.number o.tag b.bytes) ≡ record_size)
  frame_back = by-keeps (keeps o.number) refl

-- ---- a call

-- an event's bytes hold the record behind it
module _ (b : Buffers) (sound : Sound b) where
  power-back : record_of (bytes_of (event.power (record_of b.bytes))) ≡ event.power (record_of b.bytes)
  unfolding step
  power-back = read_back (step (held b) power).next (valid-step (held b) power sound.valid (tt, tt))

  power-long : length (bytes_of (event.power (record_of b.bytes))) ≡ record_size
  unfolding step
  power-long = written-long (step (held b) power).next (valid-step (held b) power sound.valid (tt, tt))

  select-back : record_of (bytes_of (event.select (record_of b.bytes))) ≡ event.select (record_of b.bytes)
  unfolding step
  select-back = read_back (step (held b) select).next (valid-step (held b) select sound.valid (tt, tt))

  select-long : length (bytes_of (event.select (record_of b.bytes))) ≡ record_size
  unfolding step
  select-long = written-long (step (held b) select).next (valid-step (held b) select sound.valid (tt, tt))

-- the bytes behind each call, by its `ensures`
module _ (b : Buffers) (sound : Sound b) where
  powered-bytes : (x x' : List ℕ) → x ≡ b.bytes → x' ≡ (c-form.power x).bytes → x' ≡ bytes_of (event.power (record_of b.bytes))
  powered-bytes x x' e h = h ∙ ap (λ (y : List ℕ). (c-form.power y).bytes) e ∙ ap (λ (v : c-form.Evented). v.bytes) (power-fits b.bytes sound.long)

  selected-bytes : (x x' : List ℕ) → x ≡ b.bytes → x' ≡ (c-form.select x).bytes → x' ≡ bytes_of (event.select (record_of b.bytes))
  selected-bytes x x' e h = h ∙ ap (λ (y : List ℕ). (c-form.select y).bytes) e ∙ ap (λ (v : c-form.Evented). v.bytes) (select-fits b.bytes sound.long)

  -- what a frame gives, with the buffers as the calls before it left them
  abbrev framed_here : List ℕ → List ℕ → List ℕ → c-form.Framed
  framed_here f random reply = c-form.framed b.bytes b.store f random reply

  framed-here : (x s f random reply : List ℕ) → x ≡ b.bytes → s ≡ b.store → c-form.frame x s f random reply ≡ framed_here f random reply
  framed-here x s f random reply e e' = (λ i. c-form.frame (e i) (e' i) f random reply) ∙ frame-fits b.bytes sound.long b.store f random reply

pub got-step : (b : Buffers) (m : Made) → Sound b → Handed b m → Fit (call_of m) → got b m ≡ step (held b) (call_of m)
unfolding step
got-step b (powered κs bytes n bytes' h) sound e fit =
    let n0 : n ≡ 0 = h.0 ∙ ap (λ (y : List ℕ). (c-form.power y).number) e ∙ ap (λ (v : c-form.Evented). v.number) (power-fits b.bytes sound.long) in
    let t = ap record_of (powered-bytes b sound bytes.now bytes'.now e h.1) ∙ power-back b sound in
    λ i. record { number = n0 i; said = quiet; next = record { tag = t i; store = b.store } }
got-step b (selected κs bytes n bytes' h) sound e fit =
    let n0 : n ≡ 0 = h.0 ∙ ap (λ (y : List ℕ). (c-form.select y).number) e ∙ ap (λ (v : c-form.Evented). v.number) (select-fits b.bytes sound.long) in
    let t = ap record_of (selected-bytes b sound bytes.now bytes'.now e h.1) ∙ select-back b sound in
    λ i. record { number = n0 i; said = quiet; next = record { tag = t i; store = b.store } }
got-step b (framed κs bytes store f random reply a bytes' store' reply' h) sound e fit =
    let tag = record_of b.bytes in
    let room = length reply.now in
    let o = tag-frame.frame tag b.store f.now random.now room in
    let here = framed-here b sound bytes.now store.now f.now random.now reply.now e.0 e.1 in
    let answer : a ≡ answer_of o.number (barred_place o.reason) (reply_of o.said) = h.0 ∙ ap (λ (v : c-form.Framed). v.answer) here in
    let number : number_in a ≡ o.number = ap number_in answer ∙ number_read tag b.store f.now random.now room in
    let place : reason_in a ≡ barred_place o.reason = ap reason_in answer ∙ reason-read tag b.store f.now random.now room in
    let spoken : reply_in a ≡ reply_of o.said = ap reply_in answer ∙ reply-read tag b.store f.now random.now room in
    let laid : reply'.now ≡ laid_over reply.now o.said = h.1.1.1 ∙ ap (λ (v : c-form.Framed). v.reply) here in
    let said : heard (reply_in a) reply'.now ≡ o.said =
    (λ i. heard (spoken i) (laid i)) ∙ heard-said reply.now o.said (said_fits tag b.store f.now random.now room) in
    let t : record_of bytes'.now ≡ o.tag =
    ap record_of (h.1.0 ∙ ap (λ (v : c-form.Framed). v.bytes) here) ∙ (frame_back b sound f.now random.now room fit).0 in
    let s : store'.now ≡ o.store = h.1.1.0 ∙ ap (λ (v : c-form.Framed). v.store) here in
    λ i. record { number = number i; said = record { reply = said i; place = place i }; next = record { tag = t i; store = s i } }

left-long : (b : Buffers) (m : Made) → Sound b → Handed b m → Fit (call_of m) → length (left b m).bytes ≡ record_size
left-long b (powered κs bytes n bytes' h) sound e fit = ap length (powered-bytes b sound bytes.now bytes'.now e h.1) ∙ power-long b sound
left-long b (selected κs bytes n bytes' h) sound e fit =
    ap length (selected-bytes b sound bytes.now bytes'.now e h.1) ∙ select-long b sound
left-long b (framed κs bytes store f random reply a bytes' store' reply' h) sound e fit =
    let here = framed-here b sound bytes.now store.now f.now random.now reply.now e.0 e.1 in
    ap length (h.1.0 ∙ ap (λ (v : c-form.Framed). v.bytes) here) ∙ (frame_back b sound f.now random.now (length reply.now) fit).1

held-left : (b : Buffers) (m : Made) → held (left b m) ≡ (got b m).next
held-left b (powered κs bytes n bytes' h) = refl
held-left b (selected κs bytes n bytes' h) = refl
held-left b (framed κs bytes store f random reply a bytes' store' reply' h) = refl

-- what the buffers hold behind a call
pub held-step : (b : Buffers) (m : Made) → Sound b → Handed b m → Fit (call_of m) → held (left b m) ≡ (step (held b) (call_of m)).next
held-step b m sound e fit = held-left b m ∙ ap (λ (g : Given Box Report). g.next) (got-step b m sound e fit)

pub sound-left : (b : Buffers) (m : Made) → Sound b → Handed b m → Fit (call_of m) → Sound (left b m)
sound-left b m sound e fit = record {
  long = left-long b m sound e fit;
  valid = subst Valid (sym (held-step b m sound e fit)) (valid-step (held b) (call_of m) sound.valid fit);
}

-- ---- lists of calls

pub log-run : (b : Buffers) (ms : List Made) → Sound b → InTurn b ms → Every Fit (calls_of ms) → log_of b ms ≡ log tag_machine (held b) (calls_of ms)
unfolding log
log-run b [] sound h fit = refl
log-run b (m ∷ ms) sound h fit =
    let rest = log-run (left b m) ms (sound-left b m sound h.0 fit.0) h.1 fit.1 in
    let next = held-step b m sound h.0 fit.0 in
    let g = got-step b m sound h.0 fit.0 in
    λ i. entry tag_machine (call_of m) (g i) ∷ (rest ∙ ap (λ (x : Box). log tag_machine x (calls_of ms)) next) i

pub last-run : (b : Buffers) (ms : List Made) → Sound b → InTurn b ms → Every Fit (calls_of ms) → held (last b ms) ≡ end tag_machine (held b) (calls_of ms)
unfolding end
last-run b [] sound h fit = refl
last-run b (m ∷ ms) sound h fit =
    last-run (left b m) ms (sound-left b m sound h.0 fit.0) h.1 fit.1
    ∙ ap (λ (x : Box). end tag_machine x (calls_of ms)) (held-step b m sound h.0 fit.0)

-- ---- a loading

module _ (l : Loading) (zero : l.number ≡ 0) where
  abbrev i : List ℕ
  i = l.file.now

  abbrev loaded : tag-image.Loaded
  loaded = tag-image.load i l.store.now

  -- another length is answered 10
  right-long : length l.bytes.now ≡ record_size
  right-long = by (ℕ_discrete (length l.bytes.now) record_size)
    where
      by : Dec (length l.bytes.now ≡ record_size) → length l.bytes.now ≡ record_size
      by (yes h) = h
      by (no h) =
          let ten : l.number ≡ 10 = l.met.0 ∙ ap (λ (v : c-form.Loaded). v.number) (load-other l.bytes.now h l.store.now i) in
          absurd (omega arith)

  here : c-form.load l.bytes.now l.store.now i ≡ c-form.loaded l.bytes.now l.store.now i
  here = load_fits l.bytes.now right-long l.store.now i

  pub loaded-zero : loaded.number ≡ 0
  loaded-zero = sym (l.met.0 ∙ ap (λ (v : c-form.Loaded). v.number) here) ∙ zero

  pub loaded_bytes : l.bytes'.now ≡ bytes_of loaded.tag
  unfolding keeps
  loaded_bytes =
      l.met.1.0 ∙ ap (λ (v : c-form.Loaded). v.bytes) here
      ∙ handed-written loaded.number loaded.tag l.bytes.now (ap keeps loaded-zero)

  pub loaded-store : l.store'.now ≡ loaded.store
  loaded-store = l.met.1.1 ∙ ap (λ (v : c-form.Loaded). v.store) here

  module _ (h : Bytes i) where
    valid-box : Valid (loaded_box i l.store.now)
    valid-box = loaded-valid i l.store.now h loaded-zero

    pub loaded-held : held (buffers_of l) ≡ loaded_box i l.store.now
    loaded-held =
        let t = ap record_of loaded_bytes ∙ read_back (loaded_box i l.store.now) valid-box in
        λ k. record { tag = t k; store = loaded-store k }

    pub loaded-sound : Sound (buffers_of l)
    loaded-sound = record {
      long = ap length loaded_bytes ∙ written-long (loaded_box i l.store.now) valid-box;
      valid = subst Valid (sym loaded-held) valid-box;
    }

-- ---- the premises can be met

-- a slice that holds the list xs
abbrev slice : List ℕ → Slice
slice xs = record { ref_ptr = (0, 0); now = xs }

abbrev mut_slice : List ℕ → MutSlice
mut_slice xs = record { ref_ptr = (0, 0); ghost_name = 0; now = xs }

pub can-be-made : (κ : Lfts 1) (κs : Lfts 5) (b : Buffers) (c : Call) → (m : Made) × Handed b m × (call_of m ≡ c)
can-be-made κ κs b power = let v = c-form.power b.bytes in (powered κ (mut_slice b.bytes) v.number (mut_slice v.bytes) (refl, refl), refl, refl)
can-be-made κ κs b select = let v = c-form.select b.bytes in (selected κ (mut_slice b.bytes) v.number (mut_slice v.bytes) (refl, refl), refl, refl)
can-be-made κ κs b (call.frame f random room) =
    let buffer : List ℕ = replicate room 0 in
    let v = c-form.frame b.bytes b.store f random buffer in (
      framed κs (mut_slice b.bytes) (mut_slice b.store) (slice f) (slice random) (mut_slice buffer) v.answer (mut_slice v.bytes) (mut_slice v.store)
          (mut_slice v.reply)
          (refl, (refl, (refl, refl))),
      (refl, refl),
      ap (λ (n : ℕ). call.frame f random n) (length-replicate room 0),
    )

pub calls-can-be-made : (κ : Lfts 1) (κs : Lfts 5) (b : Buffers) (cs : List Call) → (ms : List Made) × InTurn b ms × (calls_of ms ≡ cs)
calls-can-be-made κ κs b [] = ([], tt, refl)
calls-can-be-made κ κs b (c ∷ cs) =
    let one = can-be-made κ κs b c in
    let rest = calls-can-be-made κ κs (left b one.0) cs in
    (one.0 ∷ rest.0, (one.1, rest.1), λ i. one.2 i ∷ rest.2 i)

pub load-can-be-made : (κs : Lfts 3) (b s i : List ℕ) → (l : Loading) × (l.bytes.now ≡ b) × (l.store.now ≡ s) × (l.file.now ≡ i)
load-can-be-made κs b s i =
    let v = c-form.load b s i in (
      record {
        κs = κs;
        bytes = mut_slice b;
        store = mut_slice s;
        file = slice i;
        number = v.number;
        bytes' = mut_slice v.bytes;
        store' = mut_slice v.store;
        met = (refl, (refl, refl));
      },
      refl,
      refl,
      refl,
    )

-- a loading answered 0: the image that the bench cases start from, into zero buffers
base-right : tag-image.image_right mf0aes20 base ≡ true
unfolding tag-image.check_bytes_right tag-image.image_right mf0aes20 base
base-right = refl

pub load-answered : (κs : Lfts 3) → (l : Loading) × (l.number ≡ 0)
unfolding mf0aes20
load-answered κs =
    let b : List ℕ = replicate record_size 0 in
    let s : List ℕ = replicate (store_size mf0aes20) 0 in
    let m = load-can-be-made κs b s base in (
      m.0,
      m.0.met.0 ∙ (λ i. (c-form.load (m.1 i) (m.2 i) (m.3 i)).number)
          ∙ ap (λ (v : c-form.Loaded). v.number) (load_fits b refl s base)
          ∙ load-zero base s refl base-right,
    )

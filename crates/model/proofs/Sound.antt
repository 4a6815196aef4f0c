-- Every call that fits leads from a valid box to a valid box.
--
--   zeros-block       sixteen zero bytes are a block
--   limit-low         AUTH_LIM is at most 1,023
--   command-sound     a command that is carried out comes to a sound decision
--   decision-sound    so does every frame that fits
--   fits-valid        a frame that fits is no misfit in a valid box
--   valid-step        the step
--   valid-end         a list of calls that fit ends in a valid box
--
-- Assumes nothing.
use mathlib.Core.Path.{◌≡◌, refl, sym, subst}
use mathlib.Core.List.{List, [], ◌∷◌}
use mathlib.Core.Bool.{Bool, true, false, not, ◌&&◌, ◌||◌, cond}
use Prim.Native.Nat.{ℕ, zero, suc, ◌+◌, ◌-◌, ◌*◌, ◌≤◌, ◌<◌}
use native.Mathlib.Nat.{lt_of_le_of_lt}
use native.Mathlib.Decide.{ℕ_discrete}
use native.Mathlib.Omega.{arith}
use borrow.Author.Tests.{ltb-false, leb-false, eqb-true, le-leb, le-ltb, eq-eqb}
use lib.Bits.{and_le_l}
use lib.Dec.{leb, eqb, lit<}
use lib.ListN.{length, get_or}
use Rattle.bits.proofs.OneWay.{one_way-byte}
use Rattle.fips197.specs.State.{IsBlock}
use Rattle.fips197.proofs.State.{state-block}
use Rattle.forget.specs.Machine.{Every, end}
use Rattle.model.specs.declared.Map.{Map}
use Rattle.model.specs.declared.Tag.{Tag}
use Rattle.model.specs.declared.State.TheVariants.{Challenged}
use Rattle.model.specs.declared.Command.{Command}
use Rattle.model.specs.declared.Command.TheVariants.{Read, FastRead, Write, ReadCnt, IncrCnt, Authenticate, Proof, Halt}
use Rattle.model.specs.declared.Barred.{Barred}
use Rattle.model.specs.declared.Effect.TheVariants.{Keep, Failed}
use Rattle.model.specs.Map.{mf0aes20, reply_size, byte_of}
use Rattle.model.specs.Settings.{auth_limit}
use Rattle.model.specs.Record.{zeros, exists, key_number, counter, highest_counter, highest_failed, possible}
use Rattle.model.specs.Numbers.{kept, refused, answered, acknowledged}
use Rattle.model.specs.Writing.{merged, keep_of, opened_of, written}
use Rattle.model.specs.Counters.{increment, incr_cnt_number}
use Rattle.model.specs.Authentication.{limit_reached, raised, lowered, challenge_number, challenged, logged_in, proved}
use Rattle.model.specs.Frame.{misfit, data4, command_number, halted, command_done, not_done, decide, frame}
use Rattle.model.specs.Calls as calls
use Rattle.model.specs.Calls.{Box, Call, power, select, tag_machine, Bytes, Fit, step}
use Rattle.model.proofs.Parts.{frame_number, frame_reason}
use Rattle.model.proofs.Numbers.{decide-not}
use Rattle.model.proofs.Carried.{first-zero, number_if-zero, carried, eight-open}
use Rattle.model.proofs.Valid.{Valid, EffectSound, Sound, valid-after}

pub zeros-block : IsBlock zeros
zeros-block = state-block (λ r c. 0) (λ r c hr hc. lit< tt)

-- ---- commands that are carried out

merged-byte : (keep opened old new : ℕ) → old < 256 → new < 256 → merged keep opened old new < 256
unfolding merged
merged-byte keep opened old new ho hn = one_way-byte opened (lt_of_le_of_lt (and_le_l old keep) ho) hn

quad-bytes : (x y z w : ℕ) → x < 256 → y < 256 → z < 256 → w < 256 → Bytes (x ∷ y ∷ z ∷ w ∷ [])
quad-bytes x y z w hx hy hz hw zero = hx
quad-bytes x y z w hx hy hz hw (suc zero) = hy
quad-bytes x y z w hx hy hz hw (suc (suc zero)) = hz
quad-bytes x y z w hx hy hz hw (suc (suc (suc zero))) = hw
quad-bytes x y z w hx hy hz hw (suc (suc (suc (suc i)))) = lit< tt

written-bytes : (m : Map) (s : List ℕ) (p : ℕ) (f : List ℕ) → Bytes s → Bytes f → let q = written m s p (data4 f) in
    Bytes (q.a ∷ q.b ∷ q.c ∷ q.d ∷ [])
unfolding written
written-bytes m s p f hs hf =
    let k = keep_of m p in
    let o = opened_of m s p in
    quad-bytes _ _ _ _ (merged-byte k.a o.a (byte_of s p 0) (get_or f 2 0) (hs (4 * p + 0)) (hf 2))
    (merged-byte k.b o.b (byte_of s p 1) (get_or f 3 0) (hs (4 * p + 1)) (hf 3))
    (merged-byte k.c o.c (byte_of s p 2) (get_or f 4 0) (hs (4 * p + 2)) (hf 4))
    (merged-byte k.d o.d (byte_of s p 3) (get_or f 5 0) (hs (4 * p + 3)) (hf 5))

-- INCR_CNT is carried out only where the sum is within the counter's bound
pub increment-low : (m : Map) (tag : Tag) (s f : List ℕ) → command_number IncrCnt m tag s f ≡ 0
    → counter tag (get_or f 1 0) + increment (data4 f) ≤ highest_counter
unfolding command_number incr_cnt_number
increment-low m tag s f h =
    ltb-false highest_counter (counter tag (get_or f 1 0) + increment (data4 f)) (number_if-zero _ 8 (first-zero _ _ (first-zero _ _ h).1).1)

-- AUTHENTICATE is carried out only with a key number that exists
key-low : (m : Map) (tag : Tag) (s f : List ℕ) → command_number Authenticate m tag s f ≡ 0 → get_or f 1 0 ≤ 2
unfolding command_number challenge_number
key-low m tag s f h = ltb-false 2 (get_or f 1 0) (number_if-zero _ 4 (first-zero _ _ h).0)

challenged-known : (k : ℕ) → k ≤ 2 → exists (Challenged k) ≡ true
unfolding exists
challenged-known k h = le-leb k 2 h

logged-in-known : (k : ℕ) → exists (logged_in k) ≡ true
unfolding exists
logged-in-known zero = refl
logged-in-known (suc zero) = refl
logged-in-known (suc (suc k)) = refl

lowered-sound : (m : Map) (tag : Tag) (s : List ℕ) → tag.failed ≤ highest_failed → EffectSound (lowered m tag s)
unfolding lowered
lowered-sound m tag s h = pick (eqb (auth_limit m s) 0)
  where
    pick : (t : Bool) → EffectSound (cond t Keep (Failed (tag.failed - 16)))
    pick true = tt
    pick false = omega arith

pub command-sound : (b : Box) (f random : List ℕ) → Valid b → Bytes f → IsBlock random → (c : Command)
    → command_number c mf0aes20 b.tag b.store f ≡ 0 → Sound (command_done c mf0aes20 b.tag b.store f random)
unfolding command_done answered acknowledged challenged proved halted exists
command-sound b f random v hf hr Read h = record { effect = tt; known = v.known; challenge = zeros-block }
command-sound b f random v hf hr FastRead h = record { effect = tt; known = v.known; challenge = zeros-block }
command-sound b f random v hf hr Write h = record {
  effect = written-bytes mf0aes20 b.store (get_or f 1 0) f v.bytes hf;
  known = v.known;
  challenge = zeros-block;
}
command-sound b f random v hf hr ReadCnt h = record { effect = tt; known = v.known; challenge = zeros-block }
command-sound b f random v hf hr IncrCnt h = record {
  effect = increment-low mf0aes20 b.tag b.store f h;
  known = v.known;
  challenge = zeros-block;
}
command-sound b f random v hf hr Authenticate h = record {
  effect = tt;
  known = challenged-known (get_or f 1 0) (key-low mf0aes20 b.tag b.store f h);
  challenge = hr;
}
command-sound b f random v hf hr Proof h = record {
  effect = lowered-sound mf0aes20 b.tag b.store v.count;
  known = logged-in-known (key_number b.tag.state);
  challenge = zeros-block;
}
command-sound b f random v hf hr Halt h = record { effect = tt; known = refl; challenge = zeros-block }

-- ---- frames that are refused

limit-low : (m : Map) (s : List ℕ) → Bytes s → auth_limit m s ≤ highest_failed
unfolding auth_limit
limit-low m s h = omega (arith, h (4 * m.cfg1 + 2))

raised-sound : (m : Map) (tag : Tag) (s : List ℕ) → Bytes s → limit_reached m tag s ≡ false → EffectSound (raised m tag s)
unfolding raised limit_reached
raised-sound m tag s hs h = pick (eqb (auth_limit m s) 0) h
  where
    pick : (t : Bool) → not t && leb (auth_limit m s) tag.failed ≡ false → EffectSound (cond t Keep (Failed (tag.failed + 1)))
    pick true e = tt
    pick false e = omega (arith, leb-false (auth_limit m s) tag.failed e, limit-low m s hs)

not-done-sound : (b : Box) → Valid b → (n : ℕ) (why : Barred) → (n ≡ 8 → limit_reached mf0aes20 b.tag b.store ≡ false)
    → Sound (not_done mf0aes20 b.tag b.store n why)
unfolding not_done kept refused exists
not-done-sound b v n why open8 = pick (eqb n 1 || eqb n 10) (eqb n 8) (λ e. open8 (eqb-true n 8 e))
  where
    m : Map
    m = mf0aes20

    pick : (keep eight : Bool) → (eight ≡ true → limit_reached m b.tag b.store ≡ false)
        → Sound (cond keep (kept n b.tag) (refused n why (cond eight (raised m b.tag b.store) Keep)))
    pick true eight h = record { effect = tt; known = v.known; challenge = v.challenge }
    pick false true h = record { effect = raised-sound m b.tag b.store v.bytes (h refl); known = refl; challenge = zeros-block }
    pick false false h = record { effect = tt; known = refl; challenge = zeros-block }

pub decision-sound : (b : Box) (f random : List ℕ) (room : ℕ) → Valid b → Bytes f → IsBlock random
    → Sound (decide mf0aes20 b.tag b.store f random room)
decision-sound b f random room v hf hr = pick (ℕ_discrete (frame_number m tag s f random room) 0)
  where
    m : Map
    m = mf0aes20

    tag : Tag
    tag = b.tag

    s : List ℕ
    s = b.store

    pick : Dec (frame_number m tag s f random room ≡ 0) → Sound (decide m tag s f random room)
    pick (yes zero') =
        let c = carried m tag s f random room zero' in
        subst Sound (sym c.decided) (command-sound b f random v hf hr c.command c.own)
    pick (no other) =
        subst Sound (sym (decide-not m tag s f random room other))
        (not-done-sound b v (frame_number m tag s f random room) (frame_reason m tag s f random room) (eight-open m tag s f random room))

-- ---- the step

pub possible-valid : (b : Box) → Valid b → possible b.tag ≡ true
unfolding possible
possible-valid b v =
    simp (le-leb _ _ (v.low 0), le-leb _ _ (v.low 1), le-leb _ _ (v.low 2), le-leb _ _ v.count, v.known)

pub fits-valid : (b : Box) (random : List ℕ) (room : ℕ) → Valid b → length random ≡ 16 → reply_size mf0aes20 ≤ room
    → misfit mf0aes20 b.tag b.store random room ≡ false
unfolding misfit
fits-valid b random room v hr room' =
    simp (eq-eqb _ _ v.size, le-ltb room (reply_size mf0aes20) room', eq-eqb _ _ hr, possible-valid b v)

pub valid-step : (b : Box) (c : Call) → Valid b → Fit c → Valid (step b c).next
unfolding step frame exists
valid-step b power v h = record {
  size = v.size;
  bytes = v.bytes;
  three = v.three;
  low = v.low;
  count = v.count;
  known = refl;
  original = v.original;
  challenge = zeros-block;
}
valid-step b select v h = record {
  size = v.size;
  bytes = v.bytes;
  three = v.three;
  low = v.low;
  count = v.count;
  known = refl;
  original = v.original;
  challenge = zeros-block;
}
valid-step b (calls.frame f random room) v h =
    valid-after b (decide mf0aes20 b.tag b.store f random room) v
    (decision-sound b f random room v h.1.0 (record { sixteen = h.0.0; bytes = h.1.1 }))

pub valid-end : (b : Box) → Valid b → (list : List Call) → Every Fit list → Valid (end tag_machine b list)
unfolding end
valid-end b v [] h = v
valid-end b v (c ∷ list) h = valid-end (step b c).next (valid-step b c v h.0) list h.1

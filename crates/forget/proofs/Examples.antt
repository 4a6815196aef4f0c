-- The small machines of specs/Examples.antt: the laws of those that forget, and for each fault a list of calls that shows it.
--
--   toy-forgets, box-forgets   by the list theorem
--   wrong-refuted              the claim computed
--   toy-fates, box-fates       the fates of some calls, computed
--
-- Assumes nothing.
use mathlib.Core.Path.{◌≡◌, refl, ap}
use mathlib.Core.Bool.{true, false, false≢true, true≢false}
use mathlib.Core.List.{List, [], ◌∷◌, foldr}
use Prim.Native.Nat.{ℕ, ◌+◌}
use native.Mathlib.Omega.{arith}
use Rattle.forget.specs.Machine.{Machine, Entry, log, end, Every}
use Rattle.forget.specs.Striking.{clean, Fate, stays, first, behind, wakes_ahead, judge, fates, having}
use Rattle.forget.specs.Claim.{Ignored, Left, Laws}
use Rattle.forget.specs.Examples.{refusal, Reply, none, nak, ack, shown, answered, garbage, read, login, write, Call, power, select, frame, is_boundary, Tag, waiting, session, memory, toy, ToyForgets, WrongRefuted}
use Rattle.forget.specs.Examples.{wake, store, BoxCall, power_on, sent, is_power_on, is_wake, Box, up, off, held, recovered, box, BoxForgets}
use Rattle.forget.proofs.Forgets.{forgets-always}

-- every call is fit
abbrev Fit : {A : Type 0} → A → Type 0
Fit c = Unit {0}

fit : {A : Type 0} (cs : List A) → Every Fit cs
fit [] = tt
fit (c ∷ cs) = (tt, fit cs)

abbrev right : Machine
right = toy false false false false

abbrev Waits : Tag → Type 0
Waits (waiting n) = Unit {0}
Waits (session l n) = ⊥

toy-resets : (s t : Tag) (c : Call) → is_boundary c ≡ true → memory s ≡ memory t → right.step s c ≡ right.step t c
toy-resets s t power hb e = rw e
toy-resets s t select hb e = rw e
toy-resets s t (frame c) hb e = absurd (false≢true hb)

toy-ends : (s : Tag) (c : Call) → is_boundary c ≡ false → refusal (right.step s c).number ≡ true
    → (memory (right.step s c).next ≡ memory s) × Waits (right.step s c).next
toy-ends s power hb hr = absurd (true≢false hb)
toy-ends s select hb hr = absurd (true≢false hb)
toy-ends (waiting n) (frame c) hb hr = (refl, tt)
toy-ends (session l n) (frame garbage) hb hr = (refl, tt)
toy-ends (session l n) (frame read) hb hr = absurd (false≢true hr)
toy-ends (session l n) (frame (login true)) hb hr = absurd (false≢true hr)
toy-ends (session l n) (frame (login false)) hb hr = absurd (false≢true hr)
toy-ends (session true n) (frame (write k)) hb hr = absurd (false≢true hr)
toy-ends (session false n) (frame (write k)) hb hr = (refl, tt)

toy-sleeps : (s : Tag) (c : Call) → Waits s → is_boundary c ≡ false → Ignored right s (right.step s c)
toy-sleeps s power w hb = absurd (true≢false hb)
toy-sleeps s select w hb = absurd (true≢false hb)
toy-sleeps (waiting n) (frame c) w hb = record { uncut = refl; silent = refl; kept = refl }
toy-sleeps (session l n) (frame c) w hb = absurd w

toy-laws : Laws right Fit (λ s. Unit {0}) (λ s. ⊥) Waits ℕ memory
toy-laws =
    record {
      shows = λ s t e. e;
      runs = λ s c u f. tt;
      restarts = λ s c d. absurd d;
      resets = λ s t c us ut f. toy-resets s t c;
      ends = λ s c u f hb hx. toy-ends s c hb;
      sleeps = λ s c u w f hb hw. toy-sleeps s c w hb;
      off = λ s c d. absurd d;
    }

pub toy-forgets : ToyForgets
toy-forgets t calls = forgets-always right Fit (λ s. Unit {0}) (λ s. ⊥) Waits ℕ memory toy-laws t tt calls (fit calls)

-- a number for a reply, and the sum of those of a log
abbrev worth : Reply → ℕ
worth none = 0
worth nak = 1
worth ack = 2
worth (shown n) = 3 + n

abbrev sum : {m : Machine} → (m.Said → ℕ) → List (Entry m) → ℕ
sum f = foldr (λ e n. f e.said + n) 0

pub wrong-refuted : WrongRefuted
unfolding log end fates having judge wakes_ahead
wrong-refuted =
    record {
      garbage-keeps =
          (waiting 0, select ∷ frame (login true) ∷ frame garbage ∷ frame (write 1) ∷ [], λ h. omega (arith, ap worth h.silent.0));
      refused-stores = (waiting 0, select ∷ frame (write 1) ∷ [], λ h. omega (arith, h.ended));
      six-for-eight = (waiting 0, select ∷ frame (login false) ∷ [], λ h. omega (arith, h.ended));
      select-keeps =
          (waiting 1, select ∷ frame (login true) ∷ frame garbage ∷ select ∷ frame read ∷ [], λ h. omega (arith, ap (sum worth) h.again));
    }

abbrev Powered : Box → Type 0
Powered (up a n) = Unit {0}
Powered (off old new) = ⊥

abbrev Unpowered : Box → Type 0
Unpowered (up a n) = ⊥
Unpowered (off old new) = Unit {0}

abbrev Idle : Box → Type 0
Idle (up true n) = ⊥
Idle (up false n) = Unit {0}
Idle (off old new) = ⊥

abbrev lasting : Box → ℕ × ℕ
lasting b = (held b, recovered b)

box-runs : (s : Box) (c : BoxCall) → Powered s → Left box Powered Unpowered (box.step s c)
box-runs s (power_on true) u = tt
box-runs s (power_on false) u = tt
box-runs (up false n) (sent wake) u = tt
box-runs (up false n) (sent (store x k)) u = tt
box-runs (up true n) (sent wake) u = tt
box-runs (up true n) (sent (store true k)) u = tt
box-runs (up true n) (sent (store false k)) u = tt
box-runs (off old new) (sent c) u = absurd u

box-restarts : (s : Box) (c : BoxCall) → is_power_on c ≡ true → Left box Powered Unpowered (box.step s c)
box-restarts s (power_on true) hb = tt
box-restarts s (power_on false) hb = tt
box-restarts s (sent c) hb = absurd (false≢true hb)

box-resets : (s t : Box) (c : BoxCall) → is_power_on c ≡ true → lasting s ≡ lasting t → box.step s c ≡ box.step t c
box-resets s t (power_on true) hb e = ap (λ (l : ℕ × ℕ). answered 14 none (off l.0 l.1)) e
box-resets s t (power_on false) hb e = ap (λ (l : ℕ × ℕ). answered 0 none (up false l.1)) e
box-resets s t (sent c) hb e = absurd (false≢true hb)

box-ends : (s : Box) (c : BoxCall) → Powered s → is_power_on c ≡ false → box.cut (box.step s c).number ≡ false
    → refusal (box.step s c).number ≡ true → (lasting (box.step s c).next ≡ lasting s) × Idle (box.step s c).next
box-ends s (power_on x) u hb hx hr = absurd (true≢false hb)
box-ends (up false n) (sent wake) u hb hx hr = absurd (false≢true hr)
box-ends (up false n) (sent (store x k)) u hb hx hr = (refl, tt)
box-ends (up true n) (sent wake) u hb hx hr = (refl, tt)
box-ends (up true n) (sent (store true k)) u hb hx hr = absurd (true≢false hx)
box-ends (up true n) (sent (store false k)) u hb hx hr = absurd (false≢true hr)
box-ends (off old new) (sent c) u hb hx hr = absurd u

box-sleeps : (s : Box) (c : BoxCall) → Idle s → is_power_on c ≡ false → is_wake c ≡ false → Ignored box s (box.step s c)
box-sleeps s (power_on x) w hb hw = absurd (true≢false hb)
box-sleeps s (sent wake) w hb hw = absurd (true≢false hw)
box-sleeps (up true n) (sent (store x k)) w hb hw = absurd w
box-sleeps (up false n) (sent (store x k)) w hb hw = record { uncut = refl; silent = refl; kept = refl }
box-sleeps (off old new) (sent (store x k)) w hb hw = absurd w

box-off : (s : Box) (c : BoxCall) → Unpowered s → is_power_on c ≡ false → Ignored box s (box.step s c)
box-off s (power_on x) d hb = absurd (true≢false hb)
box-off (up a n) (sent c) d hb = absurd d
box-off (off old new) (sent c) d hb = record { uncut = refl; silent = refl; kept = refl }

box_laws : Laws box Fit Powered Unpowered Idle (ℕ × ℕ) lasting
box_laws =
    record {
      shows = λ s t e. ap (λ (l : ℕ × ℕ). l.0) e;
      runs = λ s c u f. box-runs s c u;
      restarts = λ s c d f. box-restarts s c;
      resets = λ s t c us ut f. box-resets s t c;
      ends = λ s c u f. box-ends s c u;
      sleeps = λ s c u w f. box-sleeps s c w;
      off = λ s c d f. box-off s c d;
    }

pub box-forgets : BoxForgets
box-forgets a n calls = forgets-always box Fit Powered Unpowered Idle (ℕ × ℕ) lasting box_laws (up a n) tt calls (fit calls)

abbrev toy_fates : List Call → List Fate
toy_fates calls = fates right clean (log right (waiting 0) calls)

abbrev box_fates : List BoxCall → List Fate
box_fates calls = fates box clean (log box (up false 0) calls)

-- a 1 right after the loading; garbage; a false proof, which stays, and the frame after it
pub toy-fates : toy_fates
    (frame read ∷ frame read
    ∷ select ∷ frame read ∷ frame garbage ∷ frame read
    ∷ select ∷ frame (login false) ∷ frame read ∷ power ∷ [])
    ≡ first ∷ behind
    ∷ stays ∷ stays ∷ first ∷ behind
    ∷ stays ∷ stays ∷ first ∷ stays ∷ []
unfolding log fates judge wakes_ahead
toy-fates = refl

-- a refused frame with no waking one after it; with one, then a cut write and a frame without power; a cut power-on
pub box-fates : box_fates
    (sent wake ∷ sent wake ∷ sent (store false 1)
    ∷ power_on false ∷ sent wake ∷ sent wake ∷ sent wake ∷ sent (store true 2) ∷ sent wake
    ∷ power_on true ∷ sent wake ∷ [])
    ≡ stays ∷ first ∷ behind
    ∷ stays ∷ stays ∷ stays ∷ stays ∷ stays ∷ behind
    ∷ stays ∷ behind ∷ []
unfolding log fates judge wakes_ahead
box-fates = refl

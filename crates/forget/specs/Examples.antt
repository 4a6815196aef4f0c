-- Small machines: two that forget damage, and four, each with one fault, that do not (proved in proofs/Examples.antt).
--
--   refusal        any number but 0 and 8
--   toy            a tag with a login and one stored number, with the faults it is told to have
--   box            a tag that a frame wakes, and whose power may go during a call
--   ToyForgets, BoxForgets
--                  the claim holds of the toy with no fault, and of the box
--   WrongRefuted   with any one fault it fails of the toy
--
-- Assumes nothing.
use Rattle.std.specs.Prelude.{Bool, true, false, not, cond, ◌&&◌, ◌||◌, List, ℕ, suc, eqb}
use Rattle.forget.specs.Machine.{Given, Machine}
use Rattle.forget.specs.Claim.{Forgets}

abbrev pub refusal : ℕ → Bool
refusal n = not (eqb n 0 || eqb n 8)

pub data Reply : Type 0 where
  none nak ack : Reply
  shown : ℕ → Reply

abbrev pub answered : {State : Type 0} → ℕ → Reply → State → Given State Reply
answered n r s = record { number = n; said = r; next = s }

-- a login has a right proof or a false one
pub data Command : Type 0 where
  garbage read : Command
  login : Bool → Command
  write : ℕ → Command

pub data Call : Type 0 where
  power select : Call
  frame : Command → Call

abbrev pub is_boundary : Call → Bool
is_boundary power = true
is_boundary select = true
is_boundary (frame c) = false

-- waiting, or in a session, logged in or not; and the stored number
pub data Tag : Type 0 where
  waiting : ℕ → Tag
  session : Bool → ℕ → Tag

abbrev pub memory : Tag → ℕ
memory (waiting n) = n
memory (session l n) = n

abbrev pub is_logged_in : Tag → Bool
is_logged_in (waiting n) = false
is_logged_in (session l n) = l

-- the faults: garbage leaves it logged in; a refused write is stored; a false proof is answered 6; a selection keeps the login
module _ (garbageKeeps refusedStores sixForEight selectKeeps : Bool) where
  -- only one who is logged in is shown the number and may write it; a false proof raises it by one
  abbrev pub call : Tag → Call → Given Tag Reply
  call t power = answered 0 none (waiting (memory t))
  call t select = answered 0 none (session (selectKeeps && is_logged_in t) (memory t))
  call (waiting n) (frame c) = answered 1 none (waiting n)
  call (session l n) (frame garbage) = answered 2 nak (cond garbageKeeps (session l n) (waiting n))
  call (session l n) (frame read) = answered 0 (shown (cond l n 0)) (session l n)
  call (session l n) (frame (login true)) = answered 0 ack (session true n)
  call (session l n) (frame (login false)) = answered (cond sixForEight 6 8) nak (waiting (suc n))
  call (session true n) (frame (write k)) = answered 0 ack (session true k)
  call (session false n) (frame (write k)) = answered 6 nak (waiting (cond refusedStores k n))

  abbrev pub toy : Machine
  toy =
      record {
        Call = Call;
        State = Tag;
        Said = Reply;
        Stored = ℕ;
        step = call;
        silence = none;
        stored = memory;
        boundary = is_boundary;
        refuses = refusal;
        wakes = λ c. false;
        cut = λ n. false;
      }

  abbrev Refuted : Type 0
  Refuted = (t : Tag) × (calls : List Call) × ¬ Forgets toy t calls

abbrev pub ToyForgets : Type 0
ToyForgets = (t : Tag) (calls : List Call) → Forgets (toy false false false false) t calls

pub record WrongRefuted : Type 0 where
  pub garbage-keeps : Refuted true false false false
  pub refused-stores : Refuted false true false false
  pub six-for-eight : Refuted false false true false
  pub select-keeps : Refuted false false false true

-- a write and a power-on are told whether the power goes during them
pub data BoxCommand : Type 0 where
  wake : BoxCommand
  store : Bool → ℕ → BoxCommand

pub data BoxCall : Type 0 where
  power_on : Bool → BoxCall
  sent : BoxCommand → BoxCall

abbrev pub is_power_on : BoxCall → Bool
is_power_on (power_on x) = true
is_power_on (sent c) = false

abbrev pub is_wake : BoxCall → Bool
is_wake (power_on x) = false
is_wake (sent wake) = true
is_wake (sent (store x k)) = false

-- with power, awake or not; without, the stored number and the one that the next power-on puts in its place
pub data Box : Type 0 where
  up : Bool → ℕ → Box
  off : ℕ → ℕ → Box

abbrev pub held : Box → ℕ
held (up a n) = n
held (off old new) = old

abbrev pub recovered : Box → ℕ
recovered (up a n) = n
recovered (off old new) = new

abbrev pub box_call : Box → BoxCall → Given Box Reply
box_call b (power_on false) = answered 0 none (up false (recovered b))
box_call b (power_on true) = answered 14 none (off (held b) (recovered b))
box_call (up false n) (sent wake) = answered 0 ack (up true n)
box_call (up false n) (sent (store x k)) = answered 1 none (up false n)
box_call (up true n) (sent wake) = answered 3 nak (up false n)
box_call (up true n) (sent (store false k)) = answered 0 ack (up true k)
box_call (up true n) (sent (store true k)) = answered 14 none (off n k)
box_call (off old new) (sent c) = answered 10 none (off old new)

abbrev pub box : Machine
box =
    record {
      Call = BoxCall;
      State = Box;
      Said = Reply;
      Stored = ℕ;
      step = box_call;
      silence = none;
      stored = held;
      boundary = is_power_on;
      refuses = refusal;
      wakes = is_wake;
      cut = λ n. eqb n 14;
    }

abbrev pub BoxForgets : Type 0
BoxForgets = (a : Bool) (n : ℕ) (calls : List BoxCall) → Forgets box (up a n) calls

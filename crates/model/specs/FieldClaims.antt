-- Claims over all lists of calls from any image that loads: counters, one-way bits, the serial number, logins, the failed count.
--
--     CountersAddUp      a counter is its loaded value plus the increments answered 0
--     SetBitsStay        a set OTP or lock bit stays set
--     SerialStays        the serial number, its check bytes and the internal byte stay as they were loaded
--     LoginsAreProved    AUTHENTICATED and TRACEABLE are held only after a part 2 answered 0 with that key, and nothing that ends a session since
--     CountInBounds      the failed count is at most 1,023
--
-- proofs/CountersAddUp.antt, SetBitsStay.antt, SerialStays.antt and Logins.antt have the laws of single calls and of lists, proofs/Claims.antt the
-- claims. Assumes nothing.
use Rattle.std.specs.Prelude.{◌≡◌, List, [], ◌∷◌, ◌&&◌, ◌||◌, cond, ℕ, zero, suc, ◌+◌, ◌*◌, ◌≤◌, ◌<◌, ltb, leb, eqb, get_or}
use Rattle.bits.specs.Bits.{bit_of}
use Rattle.forget.specs.Machine.{Entry, Every, log, end}
use Rattle.model.specs.declared.State.{State}
use Rattle.model.specs.declared.State.TheVariants.{Waiting, Active, Traceable, Authenticated, Challenged, Unknown}
use Rattle.model.specs.declared.Command.TheVariants.{IncrCnt, Authenticate, Proof, Halt}
use Rattle.model.specs.Record.{counter}
use Rattle.model.specs.Telling.{code_of}
use Rattle.model.specs.Image.{load}
use Rattle.model.specs.Calls.{Box, Call, power, select, frame, tag_machine, Bytes, Fit, loaded_box}

-- a claim P about the box b that a list of calls starts from and the list, for every loading and every list with well-sized buffers
abbrev pub FromEveryImage : (Box → List Call → Type 0) → Type 0
FromEveryImage P = (i s : List ℕ) → Bytes i → (load i s).number ≡ 0 → (calls : List Call) → Every Fit calls → P (loaded_box i s) calls

-- ---- counters

-- what a call answered with the number k adds to counter n: an INCR_CNT of that counter answered 0 adds its first three value bytes, low first
unfoldable pub added : ℕ → Call → ℕ → ℕ
added n power k = 0
added n select k = 0
added n (frame f random room) k =
    cond (eqb k 0 && eqb (get_or f 0 0) (code_of IncrCnt) && eqb (get_or f 1 0) n) (get_or f 2 0 + 256 * get_or f 3 0 + 65536 * get_or f 4 0) 0

unfoldable pub added_in : ℕ → List (Entry tag_machine) → ℕ
added_in n [] = 0
added_in n (e ∷ es) = added n e.call e.number + added_in n es

abbrev pub CountersAddUp : Type 0
CountersAddUp =
    FromEveryImage (λ b calls. (n : ℕ) → counter (end tag_machine b calls).tag n ≡ counter b.tag n + added_in n (log tag_machine b calls))

-- ---- one-way bits

-- the one-way bits at offset i of the store: lock bytes 0 and 1 and OTP, lock bytes 2 to 4, LOCK_USR_CFG, the three bits of LOCK_KEYS
unfoldable pub one_way_bits : ℕ → ℕ
one_way_bits i =
    cond (leb 10 i && ltb i 16 || leb 160 i && ltb i 163) 0xff (cond (eqb i 168) 0x40 (cond (eqb i 180) 0xe0 0x00))

abbrev pub SetBitsStay : Type 0
SetBitsStay =
    FromEveryImage (λ b calls. (i k : ℕ) → bit_of k (one_way_bits i) ≡ 1 → bit_of k (get_or b.store i 0) ≡ 1
    → bit_of k (get_or (end tag_machine b calls).store i 0) ≡ 1)

-- ---- the serial number

-- pages 00h and 01h and the first two bytes of page 02h (009 8.5.1): seven bytes of the serial number, BCC0, BCC1 and the internal byte
abbrev pub SerialStays : Type 0
SerialStays = FromEveryImage (λ b calls. (i : ℕ) → i < 10 → get_or (end tag_machine b calls).store i 0 ≡ get_or b.store i 0)

-- ---- logins

-- what has been proved, by the calls and their numbers alone: nothing; a challenge with key k is out; key k was proved
pub data Session : Type 0 where
  unproven : Session
  asked proven : ℕ → Session

-- part 2 answered 0 proves the key that was asked for
abbrev pub answers : Session → Session
answers unproven = unproven
answers (asked k) = proven k
answers (proven k) = unproven

-- a frame answered 0: part 1 begins anew, part 2 proves, HLTA ends, every other command leaves the session
abbrev pub carried_on : Session → List ℕ → Session
carried_on x f =
    cond (eqb (get_or f 0 0) (code_of Authenticate)) (asked (get_or f 1 0))
    (cond (eqb (get_or f 0 0) (code_of Proof)) (answers x) (cond (eqb (get_or f 0 0) (code_of Halt)) unproven x))

-- a power-on, a selection and every other number end it
unfoldable pub followed : Session → Call → ℕ → Session
followed x power k = unproven
followed x select k = unproven
followed x (frame f random room) zero = carried_on x f
followed x (frame f random room) (suc k) = unproven

unfoldable pub session_after : Session → List (Entry tag_machine) → Session
session_after x [] = x
session_after x (e ∷ es) = session_after (followed x e.call e.number) es

-- what a state says of the session
abbrev pub Holds : State → Session → Type 0
Holds Waiting x = Unit {0}
Holds Active x = Unit {0}
Holds Traceable x = x ≡ proven 1
Holds Authenticated x = x ≡ proven 0
Holds (Challenged k) x = x ≡ asked k
Holds (Unknown n) x = Unit {0}

abbrev pub LoginsAreProved : Type 0
LoginsAreProved =
    FromEveryImage (λ b calls. Holds (end tag_machine b calls).tag.state (session_after unproven (log tag_machine b calls)))

-- ---- the failed count

abbrev pub CountInBounds : Type 0
CountInBounds = FromEveryImage (λ b calls. (end tag_machine b calls).tag.failed ≤ 1023)

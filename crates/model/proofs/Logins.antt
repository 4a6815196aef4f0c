-- A login is held only after its proof: the state and the calls' numbers agree, after one call and then after the list.
--
--   proof-holds       part 2 proves the key that was asked for
--   session-step      a call leaves state and session in agreement
--   session-list      so does a list of calls
--
-- Assumes nothing.
use mathlib.Core.Path.{◌≡◌, refl, sym, subst, subst₂, ap}
use mathlib.Core.List.{List, [], ◌∷◌}
use mathlib.Core.Bool.{true, false, true≢false}
use Prim.Native.Nat.{ℕ, zero, suc}
use lib.Dec.{eqb}
use lib.ListN.{get_or}
use Rattle.forget.specs.Machine.{Every, log, end}
use Rattle.model.specs.declared.Tag.{Tag}
use Rattle.model.specs.declared.State.{State}
use Rattle.model.specs.declared.State.TheVariants.{Waiting, Active, Traceable, Authenticated, Challenged, Unknown}
use Rattle.model.specs.declared.Command.{Command}
use Rattle.model.specs.declared.Command.TheVariants.{Read, FastRead, Write, ReadCnt, IncrCnt, Authenticate, Proof, Halt}
use Rattle.model.specs.Map.{mf0aes20}
use Rattle.model.specs.Record.{is_waiting, key_number}
use Rattle.model.specs.Numbers.{answered, acknowledged}
use Rattle.model.specs.Telling.{code_of, allowed}
use Rattle.model.specs.Authentication.{challenged, logged_in, proved}
use Rattle.model.specs.Frame.{halted, command_done, tag_after, frame}
use Rattle.model.specs.Calls as calls
use Rattle.model.specs.Calls.{Box, Call, power, select, tag_machine, Fit, step}
use Rattle.model.specs.FieldClaims.{Session, answers, carried_on, followed, session_after, Holds}
use Rattle.model.proofs.Valid.{Valid}
use Rattle.model.proofs.Sound.{valid-step}
use Rattle.model.proofs.Telling.{told-code, Answered, done, refused, ignored, answered-so}

-- a command other than part 1, part 2 and HLTA leaves the session
carried_same : (x : Session) (f : List ℕ) (c : Command) → get_or f 0 0 ≡ code_of c → eqb (code_of c) (code_of Authenticate) ≡ false
    → eqb (code_of c) (code_of Proof) ≡ false → eqb (code_of c) (code_of Halt) ≡ false → carried_on x f ≡ x
carried_same x f c code a p h = rw (code, a, p, h)

waiting-holds : (st : State) (x : Session) → is_waiting st ≡ true → Holds st x
waiting-holds Waiting x h = tt
waiting-holds Active x h = tt
waiting-holds Traceable x h = absurd (true≢false (sym h))
waiting-holds Authenticated x h = absurd (true≢false (sym h))
waiting-holds (Challenged k) x h = absurd (true≢false (sym h))
waiting-holds (Unknown n) x h = tt

-- part 2 is allowed only while CHALLENGED, and proves the key that was asked for
proof-holds : (st : State) (x : Session) → allowed st Proof ≡ true → Holds st x → Holds (logged_in (key_number st)) (answers x)
unfolding allowed
proof-holds Waiting x a h = absurd (true≢false (sym a))
proof-holds Active x a h = absurd (true≢false (sym a))
proof-holds Traceable x a h = absurd (true≢false (sym a))
proof-holds Authenticated x a h = absurd (true≢false (sym a))
proof-holds (Challenged zero) x a h = ap answers h
proof-holds (Challenged (suc zero)) x a h = ap answers h
proof-holds (Challenged (suc (suc k))) x a h = tt
proof-holds (Unknown n) x a h = absurd (true≢false (sym a))

module _ (b : Box) (f random : List ℕ) (room : ℕ) (x : Session) (held : Holds b.tag.state x) where
  session-done : (c : Command) → get_or f 0 0 ≡ code_of c → allowed b.tag.state c ≡ true
      → Holds (command_done c mf0aes20 b.tag b.store f random).state (carried_on x f)
  unfolding command_done answered acknowledged challenged proved halted
  session-done Read code a = rw (carried_same x f Read code refl refl refl) held
  session-done FastRead code a = rw (carried_same x f FastRead code refl refl refl) held
  session-done Write code a = rw (carried_same x f Write code refl refl refl) held
  session-done ReadCnt code a = rw (carried_same x f ReadCnt code refl refl refl) held
  session-done IncrCnt code a = rw (carried_same x f IncrCnt code refl refl refl) held
  session-done Authenticate code a = rw code
  session-done Proof code a = rw code (proof-holds b.tag.state x a held)
  session-done Halt code a = tt

  session-frame : Answered b f random room → let o = frame b.tag b.store f random room in
      Holds o.tag.state (followed x (calls.frame f random room) o.number)
  unfolding frame tag_after followed
  session-frame (done c zero') =
      subst₂ (λ (st : State) (n : ℕ). Holds st (followed x (calls.frame f random room) n)) (ap (λ d. d.state) (sym c.decided))
      (sym zero')
      (session-done c.command (told-code (get_or f 0 0) c.command c.size c.known) c.permitted)
  session-frame (refused nz no1 e) = subst (λ (st : State). Holds st (followed x (calls.frame f random room) (frame b.tag b.store f random room).number)) (sym e.waiting) tt
  session-frame (ignored one w u) =
      subst (λ (t : Tag). Holds t.state (followed x (calls.frame f random room) (frame b.tag b.store f random room).number)) (sym u.record') (waiting-holds b.tag.state _ w)

pub session-step : (b : Box) (c : Call) (x : Session) → Valid b → Fit c → Holds b.tag.state x
    → Holds (step b c).next.tag.state (followed x c (step b c).number)
unfolding step
session-step b power x v h held = tt
session-step b select x v h held = tt
session-step b (calls.frame f random room) x v h held = session-frame b f random room x held (answered-so b f random room v h)

pub session-list : (b : Box) → Valid b → (list : List Call) → Every Fit list → (x : Session) → Holds b.tag.state x
    → Holds (end tag_machine b list).tag.state (session_after x (log tag_machine b list))
unfolding end log session_after
session-list b v [] h x held = held
session-list b v (c ∷ list) h x held =
    session-list (step b c).next (valid-step b c v h.0) list h.1 (followed x c (step b c).number) (session-step b c x v h.0 held)

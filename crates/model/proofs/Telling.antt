-- What a frame's answer tells of it.
--
--   told-code        a code that tells a command is that command's
--   Answered         how a frame that fits is answered in a valid box: carried out, refused, or ignored while WAITING
--   answered-so      one of the three
--
-- Assumes nothing.
use mathlib.Core.Path.{◌≡◌, refl, sym, subst, ◌∙◌}
use mathlib.Core.List.{List}
use mathlib.Core.Bool.{Bool, true, false, cond, true≢false}
use mathlib.Core.Logic.{inl}
use Prim.Native.Nat.{ℕ}
use native.Mathlib.Decide.{ℕ_discrete}
use borrow.Author.Tests.{eqb-true}
use lib.Dec.{eqb}
use Rattle.model.specs.declared.Command.{Command}
use Rattle.model.specs.declared.Command.TheVariants.{Read, FastRead, Write, ReadCnt, IncrCnt, Authenticate, Proof, Halt}
use Rattle.std.specs.Prelude.{Option, Some, None}
use Rattle.model.specs.Map.{mf0aes20}
use Rattle.model.specs.Record.{is_waiting}
use Rattle.model.specs.Telling.{code_of, told}
use Rattle.model.specs.Frame.{frame}
use Rattle.model.specs.Calls as calls
use Rattle.model.specs.Calls.{Box, Fit}
use Rattle.model.specs.Demand1.{Ended, Unchanged}
use Rattle.model.proofs.Parts.{frame_number}
use Rattle.model.proofs.Numbers.{decide-number}
use Rattle.model.proofs.Demand1.{refusal-ends, keeps-all}
use Rattle.model.proofs.Carried.{Carried, carried, one-waiting, ten-misfit}
use Rattle.model.proofs.Valid.{Valid}
use Rattle.model.proofs.Sound.{fits-valid}

-- what is told of the byte b is right
abbrev ToldRight : ℕ → Option (Command × ℕ) → Type 0
ToldRight b (Some (c, k)) = b ≡ code_of c
ToldRight b None = Unit {0}

by-test : (b n : ℕ) (t u : Option (Command × ℕ)) → (b ≡ n → ToldRight b t) → ToldRight b u → ToldRight b (cond (eqb b n) t u)
by-test b n t u yes' no' = pick (eqb b n) refl
  where
    pick : (x : Bool) → eqb b n ≡ x → ToldRight b (cond x t u)
    pick true e = yes' (eqb-true b n e)
    pick false e = no'

told-right : (b : ℕ) → ToldRight b (told b)
unfolding told
told-right b =
    by-test b (code_of Read) (Some (Read, 2)) _ (λ e. e)
    (by-test b (code_of FastRead) (Some (FastRead, 3)) _ (λ e. e)
    (by-test b (code_of Write) (Some (Write, 6)) _ (λ e. e)
    (by-test b (code_of ReadCnt) (Some (ReadCnt, 2)) _ (λ e. e)
    (by-test b (code_of IncrCnt) (Some (IncrCnt, 6)) _ (λ e. e)
    (by-test b (code_of Authenticate) (Some (Authenticate, 2)) _ (λ e. e)
    (by-test b (code_of Proof) (Some (Proof, 33)) _ (λ e. e) (by-test b (code_of Halt) (Some (Halt, 2)) None (λ e. e) tt)))))))

pub told-code : (b : ℕ) (c : Command) (k : ℕ) → told b ≡ Some (c, k) → b ≡ code_of c
told-code b c k h = subst (ToldRight b) h (told-right b)

-- a frame's number in a run is the frame's
pub frame-number : (b : Box) (f random : List ℕ) (room : ℕ)
    → (frame b.tag b.store f random room).number ≡ frame_number mf0aes20 b.tag b.store f random room
unfolding frame
frame-number b f random room = decide-number mf0aes20 b.tag b.store f random room

-- how a frame is answered
pub data Answered (b : Box) (f random : List ℕ) (room : ℕ) : Type 0 where
  done : Carried mf0aes20 b.tag b.store f random room → (frame b.tag b.store f random room).number ≡ 0 → Answered b f random room
  refused : ((frame b.tag b.store f random room).number ≡ 0 → ⊥) → ((frame b.tag b.store f random room).number ≡ 1 → ⊥)
      → Ended b.tag b.store (frame b.tag b.store f random room) → Answered b f random room
  ignored : (frame b.tag b.store f random room).number ≡ 1 → is_waiting b.tag.state ≡ true
      → Unchanged b.tag b.store (frame b.tag b.store f random room) → Answered b f random room

pub answered-so : (b : Box) (f random : List ℕ) (room : ℕ) → Valid b → Fit (calls.frame f random room) → Answered b f random room
answered-so b f random room v h = by_zero (ℕ_discrete n 0)
  where
    n : ℕ
    n = (frame b.tag b.store f random room).number

    same : n ≡ frame_number mf0aes20 b.tag b.store f random room
    same = frame-number b f random room

    ten : n ≡ 10 → ⊥
    ten p =
        true≢false
        (sym (ten-misfit mf0aes20 b.tag b.store f random room (sym same ∙ p)) ∙ fits-valid b random room v h.0.0 h.0.1)

    by_one : (n ≡ 0 → ⊥) → Dec (n ≡ 1) → Answered b f random room
    by_one nz (yes one) =
        ignored one (one-waiting mf0aes20 b.tag b.store f random room (sym same ∙ one)) (keeps-all b.tag b.store f random room (inl one))
    by_one nz (no other) = refused nz other (refusal-ends b.tag b.store f random room nz other ten)

    by_zero : Dec (n ≡ 0) → Answered b f random room
    by_zero (yes zero') = done (carried mf0aes20 b.tag b.store f random room (sym same ∙ zero')) zero'
    by_zero (no nz) = by_one nz (ℕ_discrete n 1)

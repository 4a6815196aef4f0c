-- What a WRITE keeps of a byte of the store, every list of calls keeps: no other call stores in it.
--
--   KeptByWrite P i    a WRITE that is carried out keeps P of byte i of the store
--   byte_step          then so does a call
--   byte-list          and a list of calls
--
-- Assumes nothing.
use mathlib.Core.Path.{◌≡◌, sym, subst}
use mathlib.Core.List.{List, [], ◌∷◌}
use mathlib.Core.Bool.{Bool, true, false, cond}
use Prim.Native.Nat.{ℕ, ◌-◌}
use lib.Dec.{eqb}
use lib.ListN.{get_or}
use Rattle.forget.specs.Machine.{Every, end}
use Rattle.model.specs.declared.Quad.{Quad}
use Rattle.model.specs.declared.Command.{Command}
use Rattle.model.specs.declared.Command.TheVariants.{Read, FastRead, Write, ReadCnt, IncrCnt, Authenticate, Proof, Halt}
use Rattle.model.specs.declared.Effect.TheVariants.{Keep, Page, Failed}
use Rattle.model.specs.Map.{mf0aes20}
use Rattle.model.specs.Settings.{auth_limit}
use Rattle.model.specs.Numbers.{answered, acknowledged}
use Rattle.model.specs.Writing.{page_bars, write_number, written}
use Rattle.model.specs.Authentication.{challenged, lowered, proved}
use Rattle.model.specs.Frame.{data4, halted, command_number, command_done, store_after, frame}
use Rattle.model.specs.Calls as calls
use Rattle.model.specs.Calls.{Box, Call, power, select, tag_machine, Fit, step}
use Rattle.model.proofs.Carried.{first-zero, number_if-zero}
use Rattle.model.proofs.Valid.{Valid}
use Rattle.model.proofs.Sound.{valid-step}
use Rattle.model.proofs.Telling.{Answered, done, refused, ignored, answered-so}

abbrev pub KeptByWrite : (ℕ → Type 0) → ℕ → Type 0
KeptByWrite P i =
    (b : Box) → Valid b → (p : ℕ) (q : Quad) → page_bars mf0aes20 p ≡ false → P (get_or b.store i 0)
    → P (get_or (store_after b.store (Page p (written mf0aes20 b.store p q))) i 0)

-- a WRITE is carried out only for a page that can be written
page-open : (b : Box) (f : List ℕ) → command_number Write mf0aes20 b.tag b.store f ≡ 0 → page_bars mf0aes20 (get_or f 1 0) ≡ false
unfolding command_number write_number
page-open b f h = number_if-zero _ 4 (first-zero _ _ h).0

module _ (P : ℕ → Type 0) (i : ℕ) (write : KeptByWrite P i) where
  abbrev Holds : List ℕ → Type 0
  Holds s = P (get_or s i 0)

  byte-lowered : (b : Box) → Holds b.store → Holds (store_after b.store (lowered mf0aes20 b.tag b.store))
  unfolding lowered store_after
  byte-lowered b old = pick (eqb (auth_limit mf0aes20 b.store) 0)
    where
      pick : (t : Bool) → Holds (store_after b.store (cond t Keep (Failed (b.tag.failed - 16))))
      pick true = old
      pick false = old

  byte-done : (b : Box) (f random : List ℕ) → Valid b → Holds b.store → (c : Command)
      → command_number c mf0aes20 b.tag b.store f ≡ 0
      → Holds (store_after b.store (command_done c mf0aes20 b.tag b.store f random).effect)
  unfolding command_done answered acknowledged challenged proved halted store_after
  byte-done b f random v old Read own = old
  byte-done b f random v old FastRead own = old
  byte-done b f random v old Write own = write b v (get_or f 1 0) (data4 f) (page-open b f own) old
  byte-done b f random v old ReadCnt own = old
  byte-done b f random v old IncrCnt own = old
  byte-done b f random v old Authenticate own = old
  byte-done b f random v old Proof own = byte-lowered b old
  byte-done b f random v old Halt own = old

  byte-frame : (b : Box) (f random : List ℕ) (room : ℕ) → Valid b → Holds b.store → Answered b f random room
      → Holds (frame b.tag b.store f random room).store
  unfolding frame
  byte-frame b f random room v old (done c zero') =
      subst (λ d. Holds (store_after b.store d.effect)) (sym c.decided) (byte-done b f random v old c.command c.own)
  byte-frame b f random room v old (refused nz no1 e) = subst Holds (sym e.pages) old
  byte-frame b f random room v old (ignored one w u) = subst Holds (sym u.pages) old

  pub byte_step : (b : Box) (c : Call) → Valid b → Fit c → Holds b.store → Holds (step b c).next.store
  unfolding step
  byte_step b power v h old = old
  byte_step b select v h old = old
  byte_step b (calls.frame f random room) v h old = byte-frame b f random room v old (answered-so b f random room v h)

  pub byte-list : (b : Box) → Valid b → (list : List Call) → Every Fit list → Holds b.store → Holds (end tag_machine b list).store
  unfolding end
  byte-list b v [] h old = old
  byte-list b v (c ∷ list) h old = byte-list (step b c).next (valid-step b c v h.0) list h.1 (byte_step b c v h.0 old)

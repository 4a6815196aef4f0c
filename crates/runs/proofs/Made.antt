-- Calls of `tag` as a program makes them, one after another, and what it gets.
--
--   Loading        a call of `load`: what it was given, what came back, and that this meets the `ensures` of `load`
--   Saving         the same for a call of `save`
--   Made           the same for a call of `power`, `select` or `frame`
--   call_of m       the call, as demand 3's machine is given it
--   got b m        what came back: number, reply, reason, and the record and store that are left
--   Handed b m     the call was given the record and the store b
--   InTurn b ms    each call of ms was given the record, and the store where it takes one, as the calls before it left them
--   log_of, last    the log of the calls, by what came back, and the record and store that are left in the end
--
-- `Learnt` is the toolchain's reading of a contract: the claims of the `ensures` clauses in tag/src/lib.rt, of the arguments, the result and the
-- references at exit. A list of numbers is what a lent slice holds (`now`). Assumes nothing.
use mathlib.Core.Path.{◌≡◌}
use mathlib.Core.List.{List, [], ◌∷◌, map}
use Prim.Native.Nat.{ℕ}
use lib.ListN.{length}
use contract.Lifetimes.{Lfts}
use denote.Ref.{Bor}
use denote.MutBor.{MutBor}
use Rattle.forget.specs.Machine.{Given, Entry, entry}
use Rattle.model.specs.declared.Tag.{Tag}
use Rattle.model.specs.Writing.{barred_place}
use Rattle.model.specs.Calls.{Box, Call, power, select, frame, Report, tag_machine}
use Rattle.image.specs.declared.Loading as loading
use Rattle.events.specs.declared.Answer.{Answer}
use Rattle.tag.proofs.power.Reads as power-call
use Rattle.tag.proofs.select.Reads as select-call
use Rattle.tag.proofs.frame.Reads as frame-call
use Rattle.tag.proofs.load.Reads as load-call
use Rattle.tag.proofs.save.Reads as save-call
use Rattle.runs.specs.Heard.{heard}

abbrev pub Slice : Type 0
Slice = Bor (List ℕ)

-- a slice that a call may write
abbrev pub MutSlice : Type 0
MutSlice = MutBor (List ℕ)

pub record Loading : Type 0 where
  pub κs : Lfts 2
  pub file : Slice
  pub store : MutSlice
  pub result : loading.Loading
  pub store' : MutSlice
  pub met : load-call.Learnt κs (file, (store, tt)) result (file, (store', tt))

-- the record and the store that a loading leaves
abbrev pub box_of : Loading → Box
box_of l = record { tag = l.result.tag; store = l.store'.now }

-- a call of `save`; the number is its result
pub record Saving : Type 0 where
  pub κs : Lfts 2
  pub tag : Tag
  pub store : Slice
  pub file : MutSlice
  pub number : ℕ
  pub file' : MutSlice
  pub met : save-call.Learnt κs (tag, (store, (file, tt))) number (tag, (store, (file', tt)))

-- the `ensures` of `frame`, of its arguments, its result and the two buffers at exit
abbrev pub FrameMet : Lfts 4 → Tag → (store : MutSlice) (f random : Slice) (reply : MutSlice) → Answer → (store' reply' : MutSlice) → Type 0
FrameMet κs tag store f random reply r store' reply' =
    frame-call.Learnt κs (tag, (store, (f, (random, (reply, tt))))) r (tag, (store', (f, (random, (reply', tt)))))

pub data Made : Type 0 where
  powered : (tag : Tag) (r : Answer) → power-call.Learnt tt (tag, tt) r (tag, tt) → Made
  selected : (tag : Tag) (r : Answer) → select-call.Learnt tt (tag, tt) r (tag, tt) → Made
  framed : (κs : Lfts 4) (tag : Tag) (store : MutSlice) (f random : Slice) (reply : MutSlice) (r : Answer) (store' reply' : MutSlice)
      → FrameMet κs tag store f random reply r store' reply' → Made

abbrev pub call_of : Made → Call
call_of (powered tag r h) = power
call_of (selected tag r h) = select
call_of (framed κs tag store f random reply r store' reply' h) = frame f.now random.now (length reply.now)

-- the reply, and the place of the rule that stopped a WRITE
abbrev pub report_of : Answer → List ℕ → Report
report_of r buffer = record { reply = heard r.reply buffer; place = barred_place r.reason }

-- `power` and `select` take no store, so it stays as it is, and no reply buffer
abbrev pub got : Box → Made → Given Box Report
got b (powered tag r h) = record { number = r.number; said = report_of r []; next = record { tag = r.tag; store = b.store } }
got b (selected tag r h) = record { number = r.number; said = report_of r []; next = record { tag = r.tag; store = b.store } }
got b (framed κs tag store f random reply r store' reply' h) =
    record { number = r.number; said = report_of r reply'.now; next = record { tag = r.tag; store = store'.now } }

abbrev pub Handed : Box → Made → Type 0
Handed b (powered tag r h) = tag ≡ b.tag
Handed b (selected tag r h) = tag ≡ b.tag
Handed b (framed κs tag store f random reply r store' reply' h) = (tag ≡ b.tag) × (store.now ≡ b.store)

abbrev pub InTurn : Box → List Made → Type 0
InTurn b [] = Unit {0}
InTurn b (m ∷ ms) = Handed b m × InTurn (got b m).next ms

abbrev pub log_of : Box → List Made → List (Entry tag_machine)
log_of b [] = []
log_of b (m ∷ ms) = entry tag_machine (call_of m) (got b m) ∷ log_of (got b m).next ms

abbrev pub last : Box → List Made → Box
last b [] = b
last b (m ∷ ms) = last (got b m).next ms

abbrev pub calls_of : List Made → List Call
calls_of ms = map call_of ms

-- Calls of `tag_c` as firmware makes them, one after another, and what it gets.
--
--   Buffers        the record buffer and the store
--   held b         the record and the store that they hold
--   Loading        a call of `kz_load`: what it was given, what came back, and that this meets the `ensures` of `kz_load`
--   Saving         the same for a call of `kz_save`
--   Made           the same for a call of `kz_power`, `kz_select` or `kz_frame`
--   call_of m       the call, as demand 3's machine is given it
--   left b m       the buffers after the call
--   got b m        what came back: number, reply, reason, and what the buffers then hold
--   Handed b m     the call was given the buffers b
--   InTurn b ms    each call of ms was given the buffers as the calls before it left them
--   log_of, last    the log of the calls, by what came back, and the buffers in the end
--
-- `Learnt` is the toolchain's reading of a contract: the claims of the `ensures` clauses in tag_c/src/lib.rt, of the arguments, the result and the
-- references at exit. The number, the reply and the reason of a frame are read out of its answer as the accessors of include/kazdumera.h do. Assumes nothing.
use mathlib.Core.Path.{◌≡◌}
use mathlib.Core.List.{List, [], ◌∷◌, map}
use Prim.Native.Nat.{ℕ}
use lib.ListN.{length}
use contract.Lifetimes.{Lfts}
use Rattle.forget.specs.Machine.{Given, Entry, entry}
use Rattle.model.specs.Calls.{Box, Call, power, select, frame, Report, quiet, tag_machine}
use Rattle.runs.specs.Heard.{heard}
use Rattle.runs.proofs.Made.{Slice, MutSlice}
use Rattle.c_record.specs.Record.{record_of}
use Rattle.c_answer.specs.Answer.{number_in, reason_in, reply_in}
use Rattle.tag_c.proofs.kz_power.Reads as power-call
use Rattle.tag_c.proofs.kz_select.Reads as select-call
use Rattle.tag_c.proofs.kz_frame.Reads as frame-call
use Rattle.tag_c.proofs.kz_load.Reads as load-call
use Rattle.tag_c.proofs.kz_save.Reads as save-call

pub record Buffers : Type 0 where
  pub bytes : List ℕ
  pub store : List ℕ

abbrev pub held : Buffers → Box
held b = record { tag = record_of b.bytes; store = b.store }

pub record Loading : Type 0 where
  pub κs : Lfts 3
  pub bytes : MutSlice
  pub store : MutSlice
  pub file : Slice
  pub number : ℕ
  pub bytes' : MutSlice
  pub store' : MutSlice
  pub met : load-call.Learnt κs (bytes, (store, (file, tt))) number (bytes', (store', (file, tt)))

-- the buffers that a loading leaves
abbrev pub buffers_of : Loading → Buffers
buffers_of l = record { bytes = l.bytes'.now; store = l.store'.now }

pub record Saving : Type 0 where
  pub κs : Lfts 3
  pub bytes : Slice
  pub store : Slice
  pub file : MutSlice
  pub number : ℕ
  pub file' : MutSlice
  pub met : save-call.Learnt κs (bytes, (store, (file, tt))) number (bytes, (store, (file', tt)))

-- the `ensures` of `kz_frame`, of its arguments, its answer and the buffers at exit
abbrev pub FrameMet : Lfts 5 → (bytes store : MutSlice) (f random : Slice) (reply : MutSlice) → ℕ → (bytes' store' reply' : MutSlice) → Type 0
FrameMet κs bytes store f random reply a bytes' store' reply' =
    frame-call.Learnt κs (bytes, (store, (f, (random, (reply, tt))))) a (bytes', (store', (f, (random, (reply', tt)))))

pub data Made : Type 0 where
  powered : (κs : Lfts 1) (bytes : MutSlice) (n : ℕ) (bytes' : MutSlice) → power-call.Learnt κs (bytes, tt) n (bytes', tt) → Made
  selected : (κs : Lfts 1) (bytes : MutSlice) (n : ℕ) (bytes' : MutSlice) → select-call.Learnt κs (bytes, tt) n (bytes', tt) → Made
  framed : (κs : Lfts 5) (bytes store : MutSlice) (f random : Slice) (reply : MutSlice) (a : ℕ) (bytes' store' reply' : MutSlice)
      → FrameMet κs bytes store f random reply a bytes' store' reply' → Made

abbrev pub call_of : Made → Call
call_of (powered κs bytes n bytes' h) = power
call_of (selected κs bytes n bytes' h) = select
call_of (framed κs bytes store f random reply a bytes' store' reply' h) = frame f.now random.now (length reply.now)

-- `kz_power` and `kz_select` take no store, so it stays as it is
abbrev pub left : Buffers → Made → Buffers
left b (powered κs bytes n bytes' h) = record { bytes = bytes'.now; store = b.store }
left b (selected κs bytes n bytes' h) = record { bytes = bytes'.now; store = b.store }
left b (framed κs bytes store f random reply a bytes' store' reply' h) = record { bytes = bytes'.now; store = store'.now }

abbrev pub got : Buffers → Made → Given Box Report
got b (powered κs bytes n bytes' h) = record { number = n; said = quiet; next = record { tag = record_of bytes'.now; store = b.store } }
got b (selected κs bytes n bytes' h) = record { number = n; said = quiet; next = record { tag = record_of bytes'.now; store = b.store } }
got b (framed κs bytes store f random reply a bytes' store' reply' h) =
    record {
      number = number_in a;
      said = record { reply = heard (reply_in a) reply'.now; place = reason_in a };
      next = record { tag = record_of bytes'.now; store = store'.now };
    }

abbrev pub Handed : Buffers → Made → Type 0
Handed b (powered κs bytes n bytes' h) = bytes.now ≡ b.bytes
Handed b (selected κs bytes n bytes' h) = bytes.now ≡ b.bytes
Handed b (framed κs bytes store f random reply a bytes' store' reply' h) = (bytes.now ≡ b.bytes) × (store.now ≡ b.store)

abbrev pub InTurn : Buffers → List Made → Type 0
InTurn b [] = Unit {0}
InTurn b (m ∷ ms) = Handed b m × InTurn (left b m) ms

abbrev pub log_of : Buffers → List Made → List (Entry tag_machine)
log_of b [] = []
log_of b (m ∷ ms) = entry tag_machine (call_of m) (got b m) ∷ log_of (left b m) ms

abbrev pub last : Buffers → List Made → Buffers
last b [] = b
last b (m ∷ ms) = last (left b m) ms

abbrev pub calls_of : List Made → List Call
calls_of ms = map call_of ms

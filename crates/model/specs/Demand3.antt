-- Demand 3 of the request: damage is forgotten. The striking and the three parts of the claim are the crate forget's, for any machine; here they
-- are applied to the tag, from any image that loads and for every list of power-ons, selections and frames with well-sized buffers.
--
--     DamageForgotten       the claim
--     WakesPinned           the machine's frames that wake are those that a waiting tag answers: none
--     NothingLeftOut        a box is its stored and its fleeting part: no stored part is left out of the comparison
--
-- proofs/Demand3.antt and proofs/Claims.antt prove them.
-- Assumes nothing.
use Rattle.std.specs.Prelude.{◌≡◌, List, true, false, ℕ}
use Rattle.forget.specs.Machine.{Every}
use Rattle.forget.specs.Claim.{Forgets}
use Rattle.model.specs.declared.State.{State}
use Rattle.model.specs.Image.{load}
use Rattle.model.specs.Map.{mf0aes20}
use Rattle.model.specs.Record.{is_waiting}
use Rattle.model.specs.Frame.{misfit}
use Rattle.model.specs.Calls.{Box, Call, frame, step, Stored, stored_of, tag_machine, Bytes, Fit, loaded_box}

-- the image i is loaded into a store s with answer 0; then any list of calls
abbrev pub DamageForgotten : Type 0
DamageForgotten =
    (i s : List ℕ) → Bytes i → (load i s).number ≡ 0 → (calls : List Call) → Every Fit calls
    → Forgets tag_machine (loaded_box i s) calls

-- no frame wakes a waiting tag: whatever it is, a frame that fits is answered 1 there, and the machine says that it doesn't wake
abbrev pub WakesPinned : Type 0
WakesPinned =
    (b : Box) (f random : List ℕ) (room : ℕ) → misfit mf0aes20 b.tag b.store random room ≡ false → is_waiting b.tag.state ≡ true
    → ((step b (frame f random room)).number ≡ 1) × (tag_machine.wakes (frame f random room) ≡ false)

-- a box is its stored part, its state and its challenge, and nothing else
abbrev pub rebuilt : Stored → State → List ℕ → Box
rebuilt d st ch = record {
  tag = record { counters = d.counters; failed = d.failed; originality = d.originality; state = st; challenge = ch };
  store = d.pages;
}

abbrev pub NothingLeftOut : Type 0
NothingLeftOut = (b : Box) → rebuilt (stored_of b) b.tag.state b.tag.challenge ≡ b

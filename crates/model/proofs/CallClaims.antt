-- The claims of specs/CallClaims.antt, each under its name in lower case; three of them are proved in ProofExact.antt and Hiding.antt.
--
--   counter-known        READ_CNT is carried out only for a counter that there is
--   counter-bounded      such a record's three counters are within their bound
--   read-cnt-low-first
--   done-dropped         a command that is carried out leaves zeros for the challenge, or CHALLENGED
--   challenge-dropped
--   key-order
--
-- Assumes nothing.
use mathlib.Core.Path.{◌≡◌, refl, sym, ap, ◌∙◌}
use mathlib.Core.List.{List}
use mathlib.Core.Bool.{true, false, true≢false}
use Rattle.std.specs.Prelude.{Option, Some, None}
use Prim.Native.Nat.{ℕ, zero, suc, ◌/◌, ◌%◌, ◌≤◌}
use native.Mathlib.Decide.{ℕ_discrete}
use native.Mathlib.Omega.{arith}
use borrow.Author.Tests.{ltb-false, leb-true}
use lib.Dec.{leb}
use lib.ListN.{get_or}
use Rattle.model.specs.declared.Tag.{Tag}
use Rattle.model.specs.declared.Command.{Command}
use Rattle.model.specs.declared.Command.TheVariants.{Read, FastRead, Write, ReadCnt, IncrCnt, Authenticate, Proof, Halt}
use Rattle.model.specs.Map.{mf0aes20}
use Rattle.model.specs.Record.{zeros, is_challenged, exists, counter, highest_counter, highest_failed, possible}
use Rattle.model.specs.Numbers.{answered, acknowledged}
use Rattle.model.specs.Telling.{told}
use Rattle.model.specs.Counters.{read_cnt_number}
use Rattle.model.specs.Authentication.{page_key, key_of, challenged, proved}
use Rattle.model.specs.Frame.{command_number, halted, command_done, said_of, tag_after, frame}
use Rattle.model.specs.CallClaims.{ReadCntLowFirst, ChallengeDropped, KeyOrder}
use Rattle.model.proofs.Numbers.{decide-number}
use Rattle.model.proofs.Misfit.{fits-possible}
use Rattle.model.proofs.Demand1.{refusal-ends}
use Rattle.model.proofs.Carried.{first-zero, number_if-zero, carried}
use Rattle.std.proofs.lemmas.Bool.{and_parts}
pub use Rattle.model.proofs.ProofExact.{proof-exact}
pub use Rattle.model.proofs.Hiding.{random-id-hides, keys-hidden}

-- ---- READ_CNT

counter-known : (tag : Tag) (s f : List ℕ) → command_number ReadCnt mf0aes20 tag s f ≡ 0 → get_or f 1 0 ≤ 2
unfolding command_number read_cnt_number
counter-known tag s f h = ltb-false 2 (get_or f 1 0) (number_if-zero _ 4 (first-zero _ _ h).0)

counter-bounded : (tag : Tag) → possible tag ≡ true → (n : ℕ) → n ≤ 2 → counter tag n ≤ highest_counter
unfolding possible
counter-bounded tag h n few =
    let all = (and_parts _ (exists tag.state) h).0 in
    let three = (and_parts _ (leb tag.failed highest_failed) all).0 in
    let two = and_parts _ (leb (counter tag 2) highest_counter) three in
    let one = and_parts (leb (counter tag 0) highest_counter) (leb (counter tag 1) highest_counter) two.0 in
    pick n few (leb-true _ _ one.0) (leb-true _ _ one.1) (leb-true _ _ two.1)
  where
    pick : (n : ℕ) → n ≤ 2 → counter tag 0 ≤ highest_counter → counter tag 1 ≤ highest_counter → counter tag 2 ≤ highest_counter
        → counter tag n ≤ highest_counter
    pick zero few c0 c1 c2 = c0
    pick (suc zero) few c0 c1 c2 = c1
    pick (suc (suc zero)) few c0 c1 c2 = c2
    pick (suc (suc (suc n))) few c0 c1 c2 = absurd (omega arith)

-- the command that is told, and any other where none is
command_or : Command → Option (Command × ℕ) → Command
command_or other (Some (c, k)) = c
command_or other None = other

pub read-cnt-low-first : ReadCntLowFirst
unfolding frame told command_done answered said_of command_or
read-cnt-low-first tag s f random room code z =
    let c = carried mf0aes20 tag s f random room (sym (decide-number mf0aes20 tag s f random room) ∙ z) in
    let same : c.command ≡ ReadCnt = ap (command_or ReadCnt) (sym c.known ∙ ap told code) in
    let v : ℕ = counter tag (get_or f 1 0) in
    let known = counter-known tag s f (rw same at c.own) in
    let low : v ≤ highest_counter = counter-bounded tag (fits-possible mf0aes20 tag s random room c.fits) (get_or f 1 0) known in
    record {
      b0 = v % 256;
      b1 = v / 256 % 256;
      b2 = v / 256 / 256 % 256;
      said = rw (c.decided, same);
      value = omega arith;
      small = omega arith;
    }

-- ---- the challenge

-- part 1 leaves CHALLENGED, and every other command zeros
done-dropped : (c : Command) (tag : Tag) (s f random : List ℕ) → let d = command_done c mf0aes20 tag s f random in
    is_challenged d.state ≡ false → d.challenge ≡ zeros
unfolding command_done answered acknowledged challenged proved halted
done-dropped Read tag s f random h = refl
done-dropped FastRead tag s f random h = refl
done-dropped Write tag s f random h = refl
done-dropped ReadCnt tag s f random h = refl
done-dropped IncrCnt tag s f random h = refl
done-dropped Authenticate tag s f random h = absurd (true≢false h)
done-dropped Proof tag s f random h = refl
done-dropped Halt tag s f random h = refl

pub challenge-dropped : ChallengeDropped
unfolding frame tag_after
challenge-dropped tag s f random room no1 no10 = pick (ℕ_discrete (frame tag s f random room).number 0)
  where
    pick : Dec ((frame tag s f random room).number ≡ 0) → is_challenged (frame tag s f random room).tag.state ≡ false
        → (frame tag s f random room).tag.challenge ≡ zeros
    pick (yes zero') =
        let c = carried mf0aes20 tag s f random room (sym (decide-number mf0aes20 tag s f random room) ∙ zero') in
        rw c.decided (done-dropped c.command tag s f random)
    pick (no other) = λ _. (refusal-ends tag s f random room other no1 no10).forgotten

-- ---- keys

pub key-order : KeyOrder
unfolding mf0aes20 page_key key_of
key-order tag = (refl, refl)

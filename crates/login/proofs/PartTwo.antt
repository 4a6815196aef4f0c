-- Part 2 of AUTHENTICATE, as its code goes through it.
--
--   proof-at-limit    the limit is reached: 11
--   proof-refused     the second block is not the challenge rotated: 8, and the count is raised
--   proof-granted     it is: what a login does
--
-- Assumes nothing.
use mathlib.Core.Path.{◌≡◌, sym, ap₂, ◌∙◌}
use mathlib.Core.List.{List}
use mathlib.Core.Bool.{true, false}
use Prim.Native.Nat.{ℕ, ◌-◌}
use native.Mathlib.Omega.{arith}
use lib.ListN.{length, take, drop, length-drop}
use lib.Seq.{take_all}
use Rattle.fips197.specs.Cbc.{cbc_encipher}
use Rattle.aes.specs.declared.TwoBlocks.{TwoBlocks}
use Rattle.cbc.specs.TwoBlocks.{cbc_decipher_two}
use Rattle.model.specs.declared.Barred.TheVariants.{Open}
use Rattle.model.specs.declared.Map.{Map}
use Rattle.model.specs.declared.Tag.{Tag}
use Rattle.model.specs.declared.Command.TheVariants.{Proof}
use Rattle.model.specs.declared.Say.TheVariants.{Block}
use Rattle.model.specs.declared.Decision.{Decision}
use Rattle.model.specs.declared.Effect.TheVariants.{Keep}
use Rattle.model.specs.Record.{zeros, key_number}
use Rattle.model.specs.Numbers.{number_if, first}
use Rattle.model.specs.Authentication.{key_of, rotated, limit_reached, raised, lowered, proof_first, proof_second, same_bytes, proof_number, logged_in, proved}
use Rattle.model.specs.Frame.{command_number, command_done, commanded}
use Rattle.model.proofs.Stages.{commanded-done, proof-false, proof-limited}
use Rattle.std.specs.Prelude.{Ok, Err}
use Rattle.numbers.specs.declared.Refusal.TheVariants.{FalseProof, LimitReached}
use Rattle.refusals.specs.Deciding.{decided}

module _ (m : Map) (tag : Tag) (s f random : List ℕ) where
  limited-number : limit_reached m tag s ≡ true → command_number Proof m tag s f ≡ 11
  unfolding command_number proof_number first number_if
  limited-number h = rw h

  pub proof-at-limit : limit_reached m tag s ≡ true
      → decided tag (Err (record { why = LimitReached; reason = Open; effect = Keep })) ≡ commanded Proof m tag s f random
  unfolding decided
  proof-at-limit h = sym (proof-limited m tag s f random (limited-number h))

  -- a login, from the key and the reader's block
  abbrev pub granted_of : List ℕ → List ℕ → Decision
  granted_of key theirs = record {
    number = 0;
    reason = Open;
    effect = lowered m tag s;
    say = Block 0x00;
    block = cbc_encipher key zeros (rotated theirs);
    state = logged_in (key_number tag.state);
    challenge = zeros;
  }

  module _ (below : limit_reached m tag s ≡ false) where
    false-number : same_bytes (proof_second m tag s f) (rotated tag.challenge) ≡ false → command_number Proof m tag s f ≡ 8
    unfolding command_number proof_number first number_if
    false-number h = rw (below, h)

    true-number : same_bytes (proof_second m tag s f) (rotated tag.challenge) ≡ true → command_number Proof m tag s f ≡ 0
    unfolding command_number proof_number first number_if
    true-number h = rw (below, h)

    -- the key and the two blocks, as code has them
    module _ (key : List ℕ) (answer : TwoBlocks) (keyed : key ≡ key_of m tag s (key_number tag.state))
        (read : answer ≡ cbc_decipher_two key zeros (take (length f - 1) (drop 1 f))) where
      both : answer ≡ cbc_decipher_two (key_of m tag s (key_number tag.state)) zeros (drop 1 f)
      both =
          read ∙ ap₂ (λ (k t : List ℕ). cbc_decipher_two k zeros t) keyed (take_all (length f - 1) (drop 1 f) (rw length-drop (omega arith)))

      second : answer.second ≡ proof_second m tag s f
      unfolding cbc_decipher_two proof_second
      second = λ i. (both i).second

      first_block : answer.first ≡ proof_first m tag s f
      unfolding cbc_decipher_two proof_first
      first_block = λ i. (both i).first

      module _ (expected : List ℕ) (turned : expected ≡ rotated tag.challenge) where
        same : same_bytes answer.second expected ≡ same_bytes (proof_second m tag s f) (rotated tag.challenge)
        same = λ i. same_bytes (second i) (turned i)

        pub proof-refused : same_bytes answer.second expected ≡ false
            → decided tag (Err (record { why = FalseProof; reason = Open; effect = raised m tag s })) ≡ commanded Proof m tag s f random
        unfolding decided
        proof-refused h = sym (proof-false m tag s f random (false-number (sym same ∙ h)))

        done : granted_of key answer.first ≡ command_done Proof m tag s f random
        unfolding command_done proved
        done = λ i. granted_of (keyed i) (first_block i)

        pub proof-granted : same_bytes answer.second expected ≡ true → decided tag (Ok (granted_of key answer.first)) ≡ commanded Proof m tag s f random
        unfolding decided
        proof-granted h = done ∙ sym (commanded-done Proof m tag s f random (true-number (sym same ∙ h)))

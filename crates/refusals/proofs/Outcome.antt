-- What a frame's outcome is shown to come to.
--
--   decided-exit      a refusal at the exit of a `?` on a check
--   by-number         a refusal by its number, which leaves behind what the definition says of that number
--   done-decided      a command without a number: what it does
--   refused-decided   a command with one, but part 2: the refusal of that number, and the reason, and nothing stored
--   refused-exit      the same at the exit of a `?` on a check
--
-- Assumes nothing.
use mathlib.Core.Path.{◌≡◌, sym, ◌∙◌}
use mathlib.Core.List.{List}
use Prim.Native.Nat.{ℕ}
use Rattle.std.specs.Prelude.{Result, Ok, Err}
use Rattle.std.specs.Result.{IsErrAnd}
use Rattle.std.proofs.lemmas.Result.{err_from_is_err_and}
use Rattle.model.specs.declared.Map.{Map}
use Rattle.model.specs.declared.Tag.{Tag}
use Rattle.model.specs.declared.Command.{Command}
use Rattle.model.specs.declared.Command.TheVariants.{Proof}
use Rattle.model.specs.declared.Barred.{Barred}
use Rattle.model.specs.declared.Barred.TheVariants.{Open}
use Rattle.model.specs.declared.Effect.TheVariants.{Keep}
use Rattle.model.specs.declared.Decision.{Decision}
use Rattle.model.specs.Numbers.{refused}
use Rattle.model.specs.Frame.{command_reason, command_number, command_done, not_done}
use Rattle.model.proofs.Stages.{commanded-done, commanded-not, commanded-refused}
use Rattle.numbers.specs.declared.Refusal.{Refusal}
use Rattle.numbers.specs.declared.Refusal.TheVariants.{Waiting, Damaged, Unknown, Length, Argument, Protected, Locked, FalseProof, CounterEnd, Misfit, LimitReached, NoImage}
use Rattle.numbers.specs.Refusals.{number_of}
use Rattle.numbers.proofs.Checks.{positive}
use Rattle.refusals.specs.declared.RefusedFrame.{RefusedFrame}
use Rattle.refusals.specs.declared.asked.Asked.{Asked}
use Rattle.refusals.specs.Deciding.{decided, commanded_of}

-- the exit of a `?` on a check
pub decided-exit : (tag : Tag) (r : Refusal) (o : Result Decision RefusedFrame)
    → IsErrAnd o (λ x. x ≡ record { why = r; reason = Open; effect = Keep })
    → decided tag o ≡ decided tag (Err (record { why = r; reason = Open; effect = Keep }))
decided-exit tag r o exit = let e = err_from_is_err_and o exit in rw (e.1, e.2)

module _ (m : Map) (tag : Tag) (s : List ℕ) (d : Decision) where
  -- by what a number leaves behind, and by the end of the session where it does nothing else
  pub by-number : (r : Refusal) (b : Barred) → d ≡ not_done m tag s (number_of r) b → d ≡ refused (number_of r) b Keep
      → decided tag (Err (record { why = r; reason = b; effect = Keep })) ≡ d
  unfolding decided not_done
  by-number Waiting b k e = sym k
  by-number Damaged b k e = sym e
  by-number Unknown b k e = sym e
  by-number Length b k e = sym e
  by-number Argument b k e = sym e
  by-number Protected b k e = sym e
  by-number Locked b k e = sym e
  by-number FalseProof b k e = sym e
  by-number CounterEnd b k e = sym e
  by-number Misfit b k e = sym k
  by-number LimitReached b k e = sym e
  by-number NoImage b k e = sym e

module _ (c : Command) (a : Asked) where
  pub refused-decided : (c ≡ Proof → ⊥) → (r : Refusal) (b : Barred)
      → number_of r ≡ command_number c a.pages.map a.tag a.pages.bytes.now a.frame.now
      → command_reason c a.pages.map a.tag a.pages.bytes.now a.frame.now ≡ b
      → decided a.tag (Err (record { why = r; reason = b; effect = Keep })) ≡ commanded_of c a
  refused-decided other r b own why =
      let m = a.pages.map in
      let s = a.pages.bytes.now in
      let f = a.frame.now in
      let some : command_number c m a.tag s f ≡ 0 → ⊥ = λ z. positive r (own ∙ z) in
      by-number m a.tag s _ r b (commanded-not c m a.tag s f a.random.now some ∙ (λ i. not_done m a.tag s (sym own i) (why i)))
      (commanded-refused c other m a.tag s f a.random.now some ∙ (λ i. refused (sym own i) (why i) Keep))

  pub refused-exit : (c ≡ Proof → ⊥) → (r : Refusal) (o : Result Decision RefusedFrame)
      → IsErrAnd o (λ x. x ≡ record { why = r; reason = Open; effect = Keep })
      → number_of r ≡ command_number c a.pages.map a.tag a.pages.bytes.now a.frame.now
      → command_reason c a.pages.map a.tag a.pages.bytes.now a.frame.now ≡ Open → decided a.tag o ≡ commanded_of c a
  refused-exit other r o exit own why = decided-exit a.tag r o exit ∙ refused-decided other r Open own why

  pub done-decided : (d : Decision) → command_number c a.pages.map a.tag a.pages.bytes.now a.frame.now ≡ 0
      → d ≡ command_done c a.pages.map a.tag a.pages.bytes.now a.frame.now a.random.now → decided a.tag (Ok d) ≡ commanded_of c a
  unfolding decided
  done-decided d own e = e ∙ sym (commanded-done c a.pages.map a.tag a.pages.bytes.now a.frame.now a.random.now own)

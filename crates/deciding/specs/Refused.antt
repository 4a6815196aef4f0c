-- A refusal by one of the first checks.
--
--     refused_for r       the outcome of a frame that is refused for r: no rule, and nothing stored
--
-- Assumes nothing.
use Rattle.std.specs.Prelude.{Result, Err}
use Rattle.model.specs.declared.Barred.TheVariants.{Open}
use Rattle.model.specs.declared.Effect.TheVariants.{Keep}
use Rattle.model.specs.declared.Decision.{Decision}
use Rattle.numbers.specs.declared.Refusal.{Refusal}
use Rattle.refusals.specs.declared.RefusedFrame.{RefusedFrame}

abbrev pub refused_for : Refusal → Result Decision RefusedFrame
refused_for r = Err (record { why = r; reason = Open; effect = Keep })

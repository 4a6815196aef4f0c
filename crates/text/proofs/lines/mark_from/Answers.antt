-- `text::lines::mark_from` meets its contract: the mark stands where `position` finds it.
-- Assumes nothing.
use Rattle.std.proofs.Common.{sym, ◌∙◌}
use Rattle.text.proofs.Pieces.{mark_found, mark_none}
use Rattle.text.proofs.lines.mark_from.Goals as goal

pub returns-in-Some-clause-value : goal.returns-in-Some-clause-value
returns-in-Some-clause-value c = mark_found _ _ c.requires _ _ (sym c.place_of.ensures ∙ c.in-Some.is)

pub returns-in-None-clause-value : goal.returns-in-None-clause-value
returns-in-None-clause-value c = mark_none _ _ c.requires _ (sym c.place_of.ensures ∙ c.in-None.is)

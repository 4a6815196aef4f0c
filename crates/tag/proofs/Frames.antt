-- The call `frame`, as its code goes through it.
--
--   decided        what was decided is the definition's, for this tag's map
--   decided-room   what is said then fits the reply buffer
--   framed         what is decided makes the outcome
--
-- Assumes nothing.
use mathlib.Core.Path.{◌≡◌, sym, ap, subst, ◌∙◌}
use mathlib.Core.List.{List}
use Prim.Native.Nat.{ℕ, ◌≤◌}
use Rattle.model.specs.declared.Map.{Map}
use Rattle.model.specs.declared.Tag.{Tag}
use Rattle.model.specs.declared.Decision.{Decision}
use Rattle.model.specs.Map.{mf0aes20}
use Rattle.model.specs.Frame.{decide, outcome, frame}
use Rattle.reply.specs.Speaking.{said_size}
use Rattle.reply.proofs.Room.{ours-fits}

module _ (m : Map) (tag : Tag) (s f random : List ℕ) (room : ℕ) (d : Decision) (ours : m ≡ mf0aes20)
    (e : d ≡ decide m tag s f random room) where
  decided : d ≡ decide mf0aes20 tag s f random room
  decided = e ∙ ap (λ (k : Map). decide k tag s f random room) ours

  pub decided-room : said_size d.say ≤ room
  decided-room = subst (λ (k : Decision). said_size k.say ≤ room) (sym decided) (ours-fits tag s f random room)

  pub framed : outcome mf0aes20 tag s d ≡ frame tag s f random room
  unfolding frame
  framed = ap (outcome mf0aes20 tag s) decided

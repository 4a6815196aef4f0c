-- What functions say that lay bytes over the start of a buffer.
--
--     Laid before after n bs    the bytes bs were laid over the start of a buffer, and n is how many they are
--
-- Assumes nothing.
use Rattle.std.specs.Prelude.{◌≡◌, List, ℕ, length}
use Rattle.std.proofs.lemmas.List.Edits.{sets}

pub record Laid (before after : List ℕ) (n : ℕ) (bs : List ℕ) : Type 0 where
  pub count : n ≡ length bs
  pub bytes : after ≡ sets before 0 bs

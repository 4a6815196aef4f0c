-- A frame that is not answered 10: what number 10's row asks holds.
--
--   fits-room        the reply buffer has its size
--   fits-random      there are 16 random bytes
--   fits-possible    the record is one that a tag can have
--
-- Assumes nothing.
use mathlib.Core.Path.{◌≡◌}
use mathlib.Core.List.{List}
use mathlib.Core.Bool.{Bool, true, false, not, ◌||◌}
use Prim.Native.Nat.{ℕ, ◌≤◌}
use Rattle.std.proofs.lemmas.Bool.{or_parts}
use borrow.Author.Tests.{ltb-false, eqb-true, not-false}
use lib.Dec.{ltb, eqb}
use lib.ListN.{length}
use Rattle.model.specs.declared.Map.{Map}
use Rattle.model.specs.declared.Tag.{Tag}
use Rattle.model.specs.Map.{store_size, reply_size}
use Rattle.model.specs.Record.{possible}
use Rattle.model.specs.Frame.{misfit}

module _ (m : Map) (tag : Tag) (s random : List ℕ) (room : ℕ) (fits : misfit m tag s random room ≡ false) where
  -- the four reasons of a frame
  abbrev size : Bool
  size = not (eqb (length s) (store_size m))

  abbrev short : Bool
  short = ltb room (reply_size m)

  abbrev few : Bool
  few = not (eqb (length random) 16)

  abbrev odd : Bool
  odd = not (possible tag)

  none : size || short || few || odd ≡ false
  unfolding misfit
  none = fits

  pub fits-room : reply_size m ≤ room
  fits-room = ltb-false _ _ (or_parts size short (or_parts (size || short) few (or_parts _ odd none).0).0).1

  pub fits-random : length random ≡ 16
  fits-random = eqb-true _ _ (not-false _ (or_parts (size || short) few (or_parts _ odd none).0).1)

  pub fits-possible : possible tag ≡ true
  fits-possible = not-false _ (or_parts (size || short || few) odd none).1

-- The reply that a text tells.
--
--     reply_of l      no digit is silence, one digit is a nibble, more are bytes
--
-- Assumes nothing.
use Rattle.std.specs.Prelude.{List, cond, ℕ, ◌/◌, ◌%◌, eqb, length, get_or}
use Rattle.model.specs.declared.Reply.{Reply}
use Rattle.model.specs.declared.Reply.TheVariants.{Silence, Nibble, Bytes}
use Rattle.text.specs.Digits.{digit_of}

unfoldable pub reply_of : List ℕ → Reply
reply_of l = cond (eqb (length l) 0) Silence (cond (eqb (length l) 1) (Nibble (digit_of (get_or l 0 0) % 16)) (Bytes (length l / 2)))

-- The reply that a caller finds: the answer's reply, and the reply buffer after the call.
--
--     heard r buffer     the reply with its bytes, which are the first in the buffer
--
-- Assumes nothing.
use Rattle.std.specs.Prelude.{List, ℕ, take}
use Rattle.model.specs.declared.Reply.{Reply}
use Rattle.model.specs.declared.Reply.TheVariants.{Silence, Nibble, Bytes}
use Rattle.model.specs.Frame.{Said, silence, nibble, bytes}

abbrev pub heard : Reply → List ℕ → Said
heard Silence buffer = silence
heard (Nibble n) buffer = nibble n
heard (Bytes n) buffer = bytes (take n buffer)

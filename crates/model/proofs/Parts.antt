-- What a frame comes to, taken apart: its number, its reason and what it does, each by itself.
--
--   frame_number, frame_reason     the number of a frame, and the rule that stopped a WRITE
--   told_done                     what the command that is told does
--   decide-parts                 what a frame comes to is these three together
--
-- Assumes nothing.
use mathlib.Core.Path.{◌≡◌, refl}
use mathlib.Core.List.{List}
use Prim.Native.Nat.{ℕ, zero, suc}
use lib.ListN.{get_or}
use Rattle.model.specs.declared.Map.{Map}
use Rattle.model.specs.declared.Tag.{Tag}
use Rattle.model.specs.declared.Barred.{Barred}
use Rattle.model.specs.declared.Barred.TheVariants.{Open}
use Rattle.std.specs.Prelude.{Option, Some, None}
use Rattle.model.specs.declared.Command.{Command}
use Rattle.model.specs.declared.Decision.{Decision}
use Rattle.model.specs.Numbers.{first}
use Rattle.model.specs.Telling.{told}
use Rattle.model.specs.Frame.{command_reason, command_number, command_done, halted, concluded, commanded, told_commanded, earlier_number, decide}

abbrev pub told_command_number : Option (Command × ℕ) → Map → Tag → List ℕ → List ℕ → ℕ
told_command_number (Some (c, k)) m tag s f = command_number c m tag s f
told_command_number None m tag s f = 0

abbrev pub told_command_reason : Option (Command × ℕ) → Map → Tag → List ℕ → List ℕ → Barred
told_command_reason (Some (c, k)) m tag s f = command_reason c m tag s f
told_command_reason None m tag s f = Open

abbrev pub told_done : Option (Command × ℕ) → Map → Tag → List ℕ → List ℕ → List ℕ → Decision
told_done (Some (c, k)) m tag s f random = command_done c m tag s f random
told_done None m tag s f random = halted

unfoldable pub frame_number : Map → Tag → List ℕ → List ℕ → List ℕ → ℕ → ℕ
frame_number m tag s f random room = first (earlier_number m tag s f random room) (told_command_number (told (get_or f 0 0)) m tag s f)

-- a frame that an earlier check refuses has no reason
abbrev pub reason_behind : ℕ → Barred → Barred
reason_behind zero b = b
reason_behind (suc n) b = Open

unfoldable pub frame_reason : Map → Tag → List ℕ → List ℕ → List ℕ → ℕ → Barred
frame_reason m tag s f random room = reason_behind (earlier_number m tag s f random room) (told_command_reason (told (get_or f 0 0)) m tag s f)

-- an earlier check, or none and what is told
parts : (m : Map) (tag : Tag) (s f random : List ℕ) (n : ℕ) (t : Option (Command × ℕ))
    → concluded n Open m tag s (told_commanded t m tag s f random)
    ≡ concluded (first n (told_command_number t m tag s f)) (reason_behind n (told_command_reason t m tag s f)) m tag s (told_done t m tag s f random)
unfolding first commanded
parts m tag s f random zero (Some (c, k)) = refl
parts m tag s f random zero None = refl
parts m tag s f random (suc n) t = refl

pub decide-parts : (m : Map) (tag : Tag) (s f random : List ℕ) (room : ℕ)
    → decide m tag s f random room
    ≡ concluded (frame_number m tag s f random room) (frame_reason m tag s f random room) m tag s (told_done (told (get_or f 0 0)) m tag s f random)
unfolding decide frame_number frame_reason
decide-parts m tag s f random room = parts m tag s f random (earlier_number m tag s f random room) (told (get_or f 0 0))

-- Document 01, "The numbers a call answers with": checks in their order, the nibble of each number, and what a frame leaves behind.
--
--     number_if t n        n where the check t applies, 0 where it doesn't
--     first a b           a, or b where a is 0: the lowest check wins
--     nibble_of n          the NAK nibble of a number           009 Table 21, docs/DATASHEET.md
--     kept n tag          numbers 1 and 10: nothing changed, silence
--     refused n b e       every other number but 0: session ended, NAK, the rule b that stopped a write, and the effect e
--     answered tag y      number 0 with the data y             acknowledged tag e    number 0 with ACK and the effect e
--
-- Assumes nothing.
use Rattle.std.specs.Prelude.{Bool, true, false, ◌||◌, cond, ℕ, zero, suc, eqb}
use Rattle.model.specs.declared.Tag.{Tag}
use Rattle.model.specs.declared.State.TheVariants.{Waiting}
use Rattle.model.specs.declared.Barred.{Barred}
use Rattle.model.specs.declared.Barred.TheVariants.{Open}
use Rattle.model.specs.declared.Effect.{Effect}
use Rattle.model.specs.declared.Effect.TheVariants.{Keep}
use Rattle.model.specs.declared.Say as say
use Rattle.model.specs.declared.Say.{Say}
use Rattle.model.specs.declared.Decision.{Decision}
use Rattle.model.specs.Record.{zeros}

unfoldable pub number_if : Bool → ℕ → ℕ
number_if true n = n
number_if false n = 0

unfoldable pub first : ℕ → ℕ → ℕ
first zero b = b
first (suc a) b = suc a

-- 1h for a damaged frame, 4h where a count would pass its end, 0h for every other refusal
unfoldable pub nibble_of : ℕ → ℕ
nibble_of n = cond (eqb n 2) 0x1 (cond (eqb n 9 || eqb n 11) 0x4 0x0)

abbrev pub ack : ℕ
ack = 0xa

-- numbers 1 and 10: the record as it came
unfoldable pub kept : ℕ → Tag → Decision
kept n tag = record {
  number = n;
  reason = Open;
  effect = Keep;
  say = say.TheVariants.Silence;
  block = zeros;
  state = tag.state;
  challenge = tag.challenge;
}

-- every number but 0, 1 and 10: document 01's "session ended", which is WAITING
unfoldable pub refused : ℕ → Barred → Effect → Decision
refused n b e = record {
  number = n;
  reason = b;
  effect = e;
  say = say.TheVariants.Nibble (nibble_of n);
  block = zeros;
  state = Waiting;
  challenge = zeros;
}

-- carried out, in the same state
unfoldable pub answered : Tag → Say → Decision
answered tag y = record {
  number = 0;
  reason = Open;
  effect = Keep;
  say = y;
  block = zeros;
  state = tag.state;
  challenge = zeros;
}

unfoldable pub acknowledged : Tag → Effect → Decision
acknowledged tag e = record {
  number = 0;
  reason = Open;
  effect = e;
  say = say.TheVariants.Nibble ack;
  block = zeros;
  state = tag.state;
  challenge = zeros;
}

-- Document 01, "Authentication": AUTHENTICATE and its second part, 009 8.6.1 to 8.6.5, 10.10 and Tables 16 to 19 and 52.
--
--     key_of m tag s k         key number k: 0 DataProtKey, 1 UIDRetrKey, 2 the originality key
--     rotated b               a block rotated left by one byte
--     limit_reached m tag s    the failed-attempt limit is reached                          number 11
--     raised, lowered         the failed count after a false and after a right proof       8.6.5
--     challenge_number, proof_number    5, 11 and 8 of the two parts
--     challenged, proved      what part 1 and part 2 do
--
-- Assumes nothing.
use Rattle.std.specs.Prelude.{List, [], ◌∷◌, Bool, true, false, not, ◌&&◌, cond, ℕ, zero, suc, ◌+◌, ◌-◌, ◌*◌, ◌%◌, ltb, leb, eqb, get_or, drop}
use Rattle.fips197.specs.State.{state}
use Rattle.fips197.specs.Cbc.{block_of, cbc_encipher, cbc_decipher}
use Rattle.model.specs.declared.Map.{Map}
use Rattle.model.specs.declared.Tag.{Tag}
use Rattle.model.specs.declared.State.{State}
use Rattle.model.specs.declared.State.TheVariants.{Active, Traceable, Authenticated, Challenged}
use Rattle.model.specs.declared.Barred.TheVariants.{Open}
use Rattle.model.specs.declared.Effect.{Effect}
use Rattle.model.specs.declared.Effect.TheVariants.{Keep, Failed}
use Rattle.model.specs.declared.Say as say
use Rattle.model.specs.declared.Decision.{Decision}
use Rattle.model.specs.Settings.{auth_limit}
use Rattle.model.specs.Record.{zeros, key_number}
use Rattle.model.specs.Numbers.{number_if, first}

-- the sixteen bytes from offset i on, last byte first: key byte 0 lies in byte 3 of the key's last page (8.6.3's commands)
unfoldable pub page_key : List ℕ → ℕ → List ℕ
page_key s i = state (λ r c. get_or s (i + (15 - (r + 4 * c))) 0)

unfoldable pub key_of : Map → Tag → List ℕ → ℕ → List ℕ
key_of m tag s zero = page_key s (4 * m.key0)
key_of m tag s (suc zero) = page_key s (4 * m.key1)
key_of m tag s (suc (suc k)) = tag.originality

unfoldable pub rotated : List ℕ → List ℕ
rotated b = state (λ r c. get_or b ((r + 4 * c + 1) % 16) 0)

-- AUTH_LIM 0 switches the limit off
unfoldable pub limit_reached : Map → Tag → List ℕ → Bool
limit_reached m tag s = not (eqb (auth_limit m s) 0) && leb (auth_limit m s) tag.failed

unfoldable pub raised : Map → Tag → List ℕ → Effect
raised m tag s = cond (eqb (auth_limit m s) 0) Keep (Failed (tag.failed + 1))

-- 16 are taken off; at 16 or below the count is reset, which the subtraction of natural numbers gives
unfoldable pub lowered : Map → Tag → List ℕ → Effect
lowered m tag s = cond (eqb (auth_limit m s) 0) Keep (Failed (tag.failed - 16))

unfoldable pub challenge_number : Map → Tag → List ℕ → ℕ → ℕ
challenge_number m tag s k = first (number_if (ltb 2 k) 5) (number_if (limit_reached m tag s) 11)

-- part 1: AFh and the random block enciphered; each message starts from a zero IV (Table 17)
unfoldable pub challenged : Map → Tag → List ℕ → ℕ → List ℕ → Decision
challenged m tag s k random = record {
  number = 0;
  reason = Open;
  effect = Keep;
  say = say.TheVariants.Block 0xaf;
  block = cbc_encipher (key_of m tag s k) zeros random;
  state = Challenged k;
  challenge = random;
}

-- the two blocks behind the AFh byte, deciphered
unfoldable pub proof_first : Map → Tag → List ℕ → List ℕ → List ℕ
proof_first m tag s f = cbc_decipher (key_of m tag s (key_number tag.state)) zeros (block_of (drop 1 f) 0)

unfoldable pub proof_second : Map → Tag → List ℕ → List ℕ → List ℕ
proof_second m tag s f = cbc_decipher (key_of m tag s (key_number tag.state)) (block_of (drop 1 f) 0) (block_of (drop 1 f) 16)

-- the same bytes, in the same order
unfoldable pub same_bytes : List ℕ → List ℕ → Bool
same_bytes [] [] = true
same_bytes [] (y ∷ ys) = false
same_bytes (x ∷ xs) [] = false
same_bytes (x ∷ xs) (y ∷ ys) = eqb x y && same_bytes xs ys

unfoldable pub proof_number : Map → Tag → List ℕ → List ℕ → ℕ
proof_number m tag s f =
    first (number_if (limit_reached m tag s) 11) (number_if (not (same_bytes (proof_second m tag s f) (rotated tag.challenge))) 8)

-- the state that a key leads to
abbrev pub logged_in : ℕ → State
logged_in zero = Authenticated
logged_in (suc zero) = Traceable
logged_in (suc (suc k)) = Active

-- part 2: 00h and the first block, rotated, enciphered
unfoldable pub proved : Map → Tag → List ℕ → List ℕ → Decision
proved m tag s f = record {
  number = 0;
  reason = Open;
  effect = lowered m tag s;
  say = say.TheVariants.Block 0x00;
  block = cbc_encipher (key_of m tag s (key_number tag.state)) zeros (rotated (proof_first m tag s f));
  state = logged_in (key_number tag.state);
  challenge = zeros;
}

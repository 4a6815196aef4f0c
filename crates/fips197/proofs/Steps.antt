-- Each step's inverse undoes it, both ways, and every step takes blocks to blocks.
--
--   sub_bytes-inverts, shift_rows-inverts, mix_columns-inverts, add_round_key-inverts
--   steps-invert         the claim StepsInvert
--   sub_bytes-block, ..   the result of a step on a block is a block
--
-- Assumes nothing.
use mathlib.Core.Path.{◌≡◌, ◌∙◌}
use mathlib.Core.List.{List}
use Prim.Native.Nat.{ℕ, ◌+◌, ◌-◌, ◌*◌, ◌%◌, ◌<◌}
use lib.ListN.{get_or}
use Rattle.bits.proofs.Bit.{xor-byte}
use Rattle.bits.proofs.Xor.{xor-cancel}
use Rattle.fips197.specs.Field.{◌xor◌, xtime, product_of, product}
use Rattle.fips197.specs.SBox.{s_box, inv_sbox}
use Rattle.fips197.specs.State.{at, state, IsBlock, sub_bytes, inv_sub_bytes, shift_rows, inv_shift_rows, column_byte, mixing, mix_columns, unmixing, inv_mix_columns, key_byte, add_round_key}
use Rattle.fips197.specs.Claims.{Undoes, Inverses, StepsInvert}
use Rattle.fips197.proofs.Field.{product-byte}
use Rattle.fips197.proofs.SBox.{s_box-byte, inv_sbox-byte, inv_sbox-inverts}
use Rattle.fips197.proofs.State.{at-state, state-cong, state-at, state-block}
use Rattle.fips197.proofs.Columns.{columns-undo}

-- a step that works byte by byte, by f r c in row r and column c
abbrev bytewise : (ℕ → ℕ → ℕ → ℕ) → List ℕ → List ℕ
bytewise f s = state (λ r c. f r c (at s r c))

-- where g undoes f at each byte, the step of g undoes that of f
bytewise-undo : (f g : ℕ → ℕ → ℕ → ℕ) → ((r c b : ℕ) → b < 256 → g r c (f r c b) ≡ b) → Undoes (bytewise g) (bytewise f)
bytewise-undo f g h s block =
    state-cong (λ r c. g r c (at (bytewise f s) r c)) (at s)
    (λ r c hr hc. (λ i. g r c (at-state (λ r c. f r c (at s r c)) r c hr hc i)) ∙ h r c (at s r c) (block.bytes (r + 4 * c)))
    ∙ state-at s block.sixteen

pub sub_bytes-inverts : Inverses sub_bytes inv_sub_bytes
unfolding sub_bytes inv_sub_bytes
sub_bytes-inverts = (
  bytewise-undo (λ r c. s_box) (λ r c. inv_sbox) (λ r c b h. (inv_sbox-inverts b h).0),
  bytewise-undo (λ r c. inv_sbox) (λ r c. s_box) (λ r c b h. (inv_sbox-inverts b h).1),
)

-- a row that moves forth and back; both steps compute to the same places
pub shift_rows-inverts : Inverses shift_rows inv_shift_rows
unfolding shift_rows inv_shift_rows
shift_rows-inverts = (λ s block. state-at s block.sixteen, λ s block. state-at s block.sixteen)

pub mix_columns-inverts : Inverses mix_columns inv_mix_columns
unfolding mix_columns inv_mix_columns product product_of xtime
mix_columns-inverts = (
  columns-undo unmixing mixing tt,
  columns-undo mixing unmixing tt,
)

add_round_key-undoes : (w : List ℕ) (n : ℕ) → Undoes (add_round_key w n) (add_round_key w n)
unfolding add_round_key
add_round_key-undoes w n =
    bytewise-undo (λ r c b. b xor key_byte w (4 * n + c) r) (λ r c b. b xor key_byte w (4 * n + c) r)
    (λ r c b h. xor-cancel b (key_byte w (4 * n + c) r))

pub add_round_key-inverts : (w : List ℕ) (n : ℕ) → Inverses (add_round_key w n) (add_round_key w n)
add_round_key-inverts w n = (add_round_key-undoes w n, add_round_key-undoes w n)

pub steps-invert : StepsInvert
steps-invert = (sub_bytes-inverts, shift_rows-inverts, mix_columns-inverts, add_round_key-inverts)

pub sub_bytes-block : (s : List ℕ) → IsBlock s → IsBlock (sub_bytes s)
unfolding sub_bytes
sub_bytes-block s block = state-block (λ r c. s_box (at s r c)) (λ r c hr hc. s_box-byte (at s r c) (block.bytes (r + 4 * c)))

pub inv_sub_bytes-block : (s : List ℕ) → IsBlock s → IsBlock (inv_sub_bytes s)
unfolding inv_sub_bytes
inv_sub_bytes-block s block =
    state-block (λ r c. inv_sbox (at s r c)) (λ r c hr hc. inv_sbox-byte (at s r c) (block.bytes (r + 4 * c)))

pub shift_rows-block : (s : List ℕ) → IsBlock s → IsBlock (shift_rows s)
unfolding shift_rows
shift_rows-block s block = state-block (λ r c. at s r ((c + r) % 4)) (λ r c hr hc. block.bytes (r + 4 * ((c + r) % 4)))

pub inv_shift_rows-block : (s : List ℕ) → IsBlock s → IsBlock (inv_shift_rows s)
unfolding inv_shift_rows
inv_shift_rows-block s block =
    state-block (λ r c. at s r ((c + 4 - r) % 4)) (λ r c hr hc. block.bytes (r + 4 * ((c + 4 - r) % 4)))

columns-block : (m s : List ℕ) → IsBlock s → IsBlock (state (column_byte m s))
columns-block m s block =
    state-block (column_byte m s)
    (λ r c hr hc.
    xor-byte
    (xor-byte
    (xor-byte
    (product-byte (get_or m (r % 4) 0) (at s 0 c) (block.bytes (0 + 4 * c)))
    (product-byte (get_or m ((r + 3) % 4) 0) (at s 1 c) (block.bytes (1 + 4 * c))))
    (product-byte (get_or m ((r + 2) % 4) 0) (at s 2 c) (block.bytes (2 + 4 * c))))
    (product-byte (get_or m ((r + 1) % 4) 0) (at s 3 c) (block.bytes (3 + 4 * c))))

pub mix_columns-block : (s : List ℕ) → IsBlock s → IsBlock (mix_columns s)
unfolding mix_columns
mix_columns-block = columns-block mixing

pub inv_mix_columns-block : (s : List ℕ) → IsBlock s → IsBlock (inv_mix_columns s)
unfolding inv_mix_columns
inv_mix_columns-block = columns-block unmixing

pub add_round_key-block : (w : List ℕ) → ((i : ℕ) → get_or w i 0 < 256) → (n : ℕ) (s : List ℕ) → IsBlock s → IsBlock (add_round_key w n s)
unfolding add_round_key
add_round_key-block w hw n s block =
    state-block (λ r c. at s r c xor key_byte w (4 * n + c) r)
    (λ r c hr hc. xor-byte (block.bytes (r + 4 * c)) (hw (4 * (4 * n + c) + r)))

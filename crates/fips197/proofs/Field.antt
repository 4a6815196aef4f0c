-- The field: bytes stay bytes, multiplication distributes over addition, and the inverse is one.
--
--   xtime-byte, product-byte            a product of bytes is a byte
--   xtime-additive, product-additive    a factor distributes over xor
--   inverse-inverts                     the claim InverseInverts
--
-- Assumes nothing.
use mathlib.Core.Path.{◌≡◌, refl, sym, ap, ap₂, ◌∙◌}
use Prim.Native.Nat.{ℕ, zero, suc, ◌*◌, ◌/◌, ◌%◌, ◌<◌}
use native.Mathlib.Nat.{add-zero}
use native.Mathlib.Omega.{arith}
use lib.Bits.{bit_xor, xor_mod, xor_shr, xor_block}
use lib.Dec.{lit<}
use Rattle.bits.proofs.Bit.{Digit, off, on, digit-of, xor-byte}
use Rattle.bits.proofs.Xor.{xor-swap}
use Rattle.bits.proofs.Test.{equal-below}
use Rattle.bits.proofs.Additive.{Additive}
use Rattle.fips197.specs.Field.{◌xor◌, xtime, add_if, product_of, product, squares, inverse}
use Rattle.fips197.specs.Claims.{InverseInverts}

pub xtime-byte : (b : ℕ) → xtime b < 256
unfolding xtime
xtime-byte b = xor-byte {a = b * 2 % 256} {b = b / 128 % 2 * 27} (omega arith) (omega arith)

-- doubling keeps xor: the lowest bits of both doubles are 0
double-xor : (a b : ℕ) → bit_xor a b * 2 ≡ bit_xor (a * 2) (b * 2)
double-xor a b =
    sym (ap₂ bit_xor (sym (add-zero (a * 2))) (sym (add-zero (b * 2))) ∙ xor_block 1 a b 0 0 (lit< tt) (lit< tt) ∙ add-zero (bit_xor a b * 2))

-- the multiple {1b} of a digit
digit-times : {x y : ℕ} → Digit x → Digit y → bit_xor x y * 27 ≡ bit_xor (x * 27) (y * 27)
digit-times off off = refl
digit-times off on = refl
digit-times on off = refl
digit-times on on = refl

low-xor : (a b : ℕ) → bit_xor a b * 2 % 256 ≡ bit_xor (a * 2 % 256) (b * 2 % 256)
low-xor a b = ap (λ (x : ℕ). x % 256) (double-xor a b) ∙ xor_mod (a * 2) (b * 2) 8

high-xor : (a b : ℕ) → bit_xor a b / 128 % 2 * 27 ≡ bit_xor (a / 128 % 2 * 27) (b / 128 % 2 * 27)
high-xor a b =
    ap (λ (x : ℕ). x % 2 * 27) (xor_shr a b 7) ∙ ap (λ (x : ℕ). x * 27) (xor_mod (a / 128) (b / 128) 1)
    ∙ digit-times (digit-of (a / 128 % 2) (omega arith)) (digit-of (b / 128 % 2) (omega arith))

pub xtime-additive : Additive xtime
unfolding xtime
xtime-additive a b =
    ap₂ bit_xor (low-xor a b) (high-xor a b) ∙ xor-swap (a * 2 % 256) (b * 2 % 256) (a / 128 % 2 * 27) (b / 128 % 2 * 27)

add_if-additive : (d a b p q : ℕ) → add_if d (a xor b) (p xor q) ≡ add_if d a p xor add_if d b q
add_if-additive zero a b p q = refl
add_if-additive (suc d) a b p q = xor-swap p q a b

product_of-additive : (n k : ℕ) → Additive (product_of n k)
unfolding product_of
product_of-additive zero k a b = refl
product_of-additive (suc n) k a b =
    ap (add_if (k % 2) (a xor b)) (ap (product_of n (k / 2)) (xtime-additive a b) ∙ product_of-additive n (k / 2) (xtime a) (xtime b))
    ∙ add_if-additive (k % 2) a b (product_of n (k / 2) (xtime a)) (product_of n (k / 2) (xtime b))

pub product-additive : (k : ℕ) → Additive (product k)
unfolding product
product-additive k = product_of-additive 8 k

add_if-byte : (d : ℕ) {b r : ℕ} → b < 256 → r < 256 → add_if d b r < 256
add_if-byte zero hb hr = hr
add_if-byte (suc d) hb hr = xor-byte hr hb

product_of-byte : (n k b : ℕ) → b < 256 → product_of n k b < 256
unfolding product_of
product_of-byte zero k b hb = lit< tt
product_of-byte (suc n) k b hb = add_if-byte (k % 2) hb (product_of-byte n (k / 2) (xtime b) (xtime-byte b))

pub product-byte : (k b : ℕ) → b < 256 → product k b < 256
unfolding product
product-byte k b hb = product_of-byte 8 k b hb

-- computed at each of the 255 bytes but 0
after-zero : (b : ℕ) → b < 255 → product (suc b) (inverse (suc b)) ≡ 1
unfolding inverse squares product product_of xtime
after-zero = equal-below (λ b. product (suc b) (inverse (suc b))) (λ b. 1) 255 tt

but-zero : (b : ℕ) → 0 < b → b < 256 → product b (inverse b) ≡ 1
but-zero zero pos h = absurd (omega arith)
but-zero (suc b) pos h = after-zero b (omega arith)

pub inverse-inverts : InverseInverts
unfolding inverse squares product product_of xtime
inverse-inverts = (refl, but-zero)

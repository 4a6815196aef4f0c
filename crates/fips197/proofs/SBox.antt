-- The tables of the substitution: each is computed against its rule at all 256 bytes.
--
--   s_box-is-sub_byte             the claim SBoxIsSubByte
--   inv_sbox-inverts             the claim InvSBoxInverts
--   s_box-byte, inv_sbox-byte     the tables hold bytes
--
-- Assumes nothing.
use Prim.Native.Nat.{ℕ, ◌<◌}
use lib.Dec.{ltb, ltb→lt}
use Rattle.bits.specs.Bits.{bit_of}
use Rattle.bits.proofs.Test.{passes_at, equal-below}
use Rattle.fips197.specs.Field.{xtime, product_of, product, squares, inverse}
use Rattle.fips197.specs.SBox.{affine, sub_byte, s_box_table, s_box, inv_sbox_table, inv_sbox}
use Rattle.fips197.specs.Claims.{SBoxIsSubByte, InvSBoxInverts}

pub s_box-is-sub_byte : SBoxIsSubByte
unfolding s_box s_box_table sub_byte affine bit_of inverse squares product product_of xtime
s_box-is-sub_byte = equal-below s_box sub_byte 256 tt

pub inv_sbox-inverts : InvSBoxInverts
unfolding s_box s_box_table inv_sbox inv_sbox_table
inv_sbox-inverts b h =
    (equal-below (λ k. inv_sbox (s_box k)) (λ k. k) 256 tt b h, equal-below (λ k. s_box (inv_sbox k)) (λ k. k) 256 tt b h)

pub s_box-byte : (b : ℕ) → b < 256 → s_box b < 256
unfolding s_box s_box_table
s_box-byte b h = ltb→lt (s_box b) 256 (passes_at (λ k. ltb (s_box k) 256) 256 tt b h)

pub inv_sbox-byte : (b : ℕ) → b < 256 → inv_sbox b < 256
unfolding inv_sbox inv_sbox_table
inv_sbox-byte b h = ltb→lt (inv_sbox b) 256 (passes_at (λ k. ltb (inv_sbox k) 256) 256 tt b h)

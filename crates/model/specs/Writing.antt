-- Document 01, "Writing" and "One-way bits": WRITE, 009 10.4, 8.5.3 to 8.5.5 and Table 15.
--
--     barred m st s p q        the rule that stops a write of q to page p, the first in document 02's order (E6)
--     barred_number, barred_place   the number of each rule, and its place in that order
--     write_number m p b        5, 6 and 7 of a WRITE to page p that the rule b stops
--     freeze_rows, pair_freeze_rows   the freeze masks, a row for each block-lock bit
--     frozen rows b            the bits that the block-lock bits b freeze
--     merged keep opened old new   a byte after a write: the old bits under keep, and the new bits under opened
--     keep_of m p, opened_of m s p   the two masks for each byte of page p
--     written m s p q          the four bytes of page p after a write of q
--
-- Every one-way bit is an instance of `one_way`. Assumes nothing.
use Rattle.std.specs.Prelude.{List, [], ◌∷◌, Bool, not, ◌&&◌, ◌||◌, cond, ℕ, ◌+◌, ◌-◌, ◌*◌, ◌/◌, ltb, leb, eqb}
use Rattle.std.specs.Bool.{beq}
use Rattle.std.specs.Int.Bits.{bit_and, bit_or}
use Rattle.bits.specs.Bits.{one_way}
use Rattle.model.specs.declared.Map.{Map}
use Rattle.model.specs.declared.State.{State}
use Rattle.model.specs.declared.Quad.{Quad}
use Rattle.model.specs.declared.Masks.{Masks}
use Rattle.model.specs.declared.Barred.{Barred}
use Rattle.model.specs.declared.Barred.TheVariants.{Open, Auth0, RandomId, OwnLock, PairLock, KeyLock, ConfigLock}
use Rattle.model.specs.Map.{byte_of, last_page}
use Rattle.model.specs.Settings.{bit_set, random_id_on, auth0, config_locked, key_lock_bit}
use Rattle.model.specs.Record.{is_active, is_authenticated}
use Rattle.model.specs.Numbers.{number_if, first}

-- pages 02h to 3Bh can be written
unfoldable pub page_bars : Map → ℕ → Bool
page_bars m p = ltb p m.locks || ltb (last_page m) p

-- at or above AUTH0 and not AUTHENTICATED, whatever PROT says
unfoldable pub auth0_bars : Map → State → List ℕ → ℕ → Bool
auth0_bars m st s p = not (is_authenticated st) && leb (auth0 m s) p

-- CFG_0 with another Random ID bit, while ACTIVE
unfoldable pub random_id_bars : Map → State → List ℕ → ℕ → Quad → Bool
random_id_bars m st s p q = eqb p m.cfg0 && is_active st && not (beq (bit_set 0 q.a) (random_id_on m s))

-- lock bytes 0 and 1 as one number: bit p locks page p, from the OTP page to 0Fh (8.5.3)
unfoldable pub own_lock_bars : Map → List ℕ → ℕ → Bool
own_lock_bars m s p = leb m.otp p && bit_set p (byte_of s m.locks 2 + 256 * byte_of s m.locks 3)

-- lock bytes 2 and 3 as one number: bit i locks the two pages 10h + 2i and 11h + 2i (8.5.4)
unfoldable pub pair_lock_bars : Map → List ℕ → ℕ → Bool
pair_lock_bars m s p =
    leb m.pairs p && ltb p m.pairlocks
    && bit_set ((p - m.pairs) / 2) (byte_of s m.pairlocks 0 + 256 * byte_of s m.pairlocks 1)

-- p is one of the four pages from q on
abbrev pub of_key : ℕ → ℕ → Bool
of_key q p = leb q p && ltb p (q + 4)

-- the pages of a locked key, and LOCK_KEYS itself where BLOCK_LOCK_KEY is set
unfoldable pub key_lock_bars : Map → List ℕ → ℕ → Bool
key_lock_bars m s p =
    of_key m.key0 p && key_lock_bit 6 m s || of_key m.key1 p && key_lock_bit 7 m s || eqb p m.keylocks && key_lock_bit 5 m s

-- CFG_0 and CFG_1 under LOCK_USR_CFG
unfoldable pub config_lock_bars : Map → List ℕ → ℕ → Bool
config_lock_bars m s p = (eqb p m.cfg0 || eqb p m.cfg1) && config_locked m s

-- the one answer of the judge of a write; a page that can't be written is 5 before any rule applies
unfoldable pub barred : Map → State → List ℕ → ℕ → Quad → Barred
barred m st s p q =
    cond (page_bars m p) Open
    (cond (auth0_bars m st s p) Auth0
    (cond (random_id_bars m st s p q) RandomId
    (cond (own_lock_bars m s p) OwnLock
    (cond (pair_lock_bars m s p) PairLock (cond (key_lock_bars m s p) KeyLock (cond (config_lock_bars m s p) ConfigLock Open))))))

abbrev pub barred_number : Barred → ℕ
barred_number Open = 0
barred_number Auth0 = 6
barred_number RandomId = 6
barred_number OwnLock = 7
barred_number PairLock = 7
barred_number KeyLock = 7
barred_number ConfigLock = 7

-- the place in document 02's order, 0 where no rule stops a write
abbrev pub barred_place : Barred → ℕ
barred_place Open = 0
barred_place Auth0 = 1
barred_place RandomId = 2
barred_place OwnLock = 3
barred_place PairLock = 4
barred_place KeyLock = 5
barred_place ConfigLock = 6

-- 6 and 7 are the rule's
unfoldable pub write_number : Map → ℕ → Barred → ℕ
write_number m p b = first (number_if (page_bars m p) 5) (barred_number b)

-- document 01's freeze masks: block-lock bits 0, 1 and 2 of lock byte 0, and what they freeze in lock bytes 0 and 1
unfoldable pub freeze_rows : List Masks
freeze_rows =
    record { first = 0x08; second = 0x00 } ∷ record { first = 0xf0; second = 0x03 } ∷ record { first = 0x00; second = 0xfc } ∷ []

-- block-lock bits 0 to 5 of lock byte 4, and what they freeze in lock bytes 2 and 3 (8.5.4)
unfoldable pub pair_freeze_rows : List Masks
pair_freeze_rows =
    record { first = 0x03; second = 0x00 } ∷ record { first = 0x0c; second = 0x00 } ∷ record { first = 0x30; second = 0x00 }
    ∷ record { first = 0xc0; second = 0x00 } ∷ record { first = 0x00; second = 0x03 } ∷ record { first = 0x00; second = 0x0c } ∷ []

-- the masks of the rows whose bit in b is set, together; bit 0 of b is the first row's
unfoldable pub frozen : List Masks → ℕ → Masks
frozen [] b = record { first = 0; second = 0 }
frozen (row ∷ rows) b =
    let rest : Masks = frozen rows (b / 2) in
    record {
      first = bit_or (cond (bit_set 0 b) row.first 0) rest.first;
      second = bit_or (cond (bit_set 0 b) row.second 0) rest.second;
    }

unfoldable pub merged : ℕ → ℕ → ℕ → ℕ → ℕ
merged keep opened old new = one_way opened (bit_and old keep) new

abbrev pub quad : ℕ → ℕ → ℕ → ℕ → Quad
quad x y z w = record { a = x; b = y; c = z; d = w }

-- the one-way bits of each byte of page p, which stay set: the lock pages and OTP whole, LOCK_USR_CFG in CFG_1, three bits of LOCK_KEYS (Table 15).
-- Page 02h's first two bytes and page 28h's last one are kept too
unfoldable pub keep_of : Map → ℕ → Quad
keep_of m p =
    cond (eqb p m.locks || eqb p m.otp || eqb p m.pairlocks) (quad 0xff 0xff 0xff 0xff)
    (cond (eqb p m.cfg1) (quad 0x40 0x00 0x00 0x00) (cond (eqb p m.keylocks) (quad 0xe0 0x00 0x00 0x00) (quad 0x00 0x00 0x00 0x00)))

-- page 02h: data bytes 0 and 1 are ignored; of bytes 2 and 3 a bit counts unless the block-lock bits, as they are before the write, freeze it
abbrev pub lock_opened : Masks → Quad
lock_opened f = quad 0x00 0x00 (0xff - f.first) (0xff - f.second)

-- page 28h: lock bytes 2 and 3 likewise; reserved bits and the reserved byte take nothing
abbrev pub pair_lock_opened : Masks → Quad
pair_lock_opened f = quad (0xff - f.first) (0x0f - f.second) 0x3f 0x00

-- the bits of each data byte that count in a write to page p: all of them, but for the lock pages
unfoldable pub opened_of : Map → List ℕ → ℕ → Quad
opened_of m s p =
    cond (eqb p m.locks) (lock_opened (frozen freeze_rows (byte_of s m.locks 2)))
    (cond (eqb p m.pairlocks) (pair_lock_opened (frozen pair_freeze_rows (byte_of s m.pairlocks 2))) (quad 0xff 0xff 0xff 0xff))

unfoldable pub written : Map → List ℕ → ℕ → Quad → Quad
written m s p q =
    let keep = keep_of m p in
    let opened = opened_of m s p in
    quad (merged keep.a opened.a (byte_of s p 0) q.a) (merged keep.b opened.b (byte_of s p 1) q.b)
    (merged keep.c opened.c (byte_of s p 2) q.c)
    (merged keep.d opened.d (byte_of s p 3) q.d)

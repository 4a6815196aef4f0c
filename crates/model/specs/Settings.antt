-- The settings in the configuration pages, 009 Tables 7 to 15: no check knows their places but through these. (The bits that a write keeps, and the
-- Random ID bit of what is written, are in Writing.antt.)
--
--     random_id_on m s      RID_ACT: Random ID is on                                    Table 8
--     auth0 m s           AUTH0: the first page that needs authentication             Table 9
--     read_protected m s   PROT: reading needs authentication too                      Table 10
--     config_locked m s    LOCK_USR_CFG: the configuration pages are locked            Table 10
--     incr_open m s        CNT_INC_EN: counter 2 may be raised without authentication  Table 10
--     read_open m s        CNT_RD_EN: counter 2 may be read without authentication     Table 10
--     auth_limit m s       AUTH_LIM: the failed-authentication limit, 0 for none       Tables 12 and 13
--     key_lock_bit k m s    bit k of LOCK_KEYS                                          Table 14
--
-- Assumes nothing.
use Rattle.std.specs.Prelude.{List, Bool, ℕ, ◌+◌, ◌*◌, ◌%◌, eqb}
use Rattle.bits.specs.Bits.{bit_of}
use Rattle.model.specs.declared.Map.{Map}
use Rattle.model.specs.Map.{byte_of}

-- bit k of b is 1
abbrev pub bit_set : ℕ → ℕ → Bool
bit_set k b = eqb (bit_of k b) 1

unfoldable pub random_id_on : Map → List ℕ → Bool
random_id_on m s = bit_set 0 (byte_of s m.cfg0 0)

-- seven bits: bit 7 of the byte is not part of it
unfoldable pub auth0 : Map → List ℕ → ℕ
auth0 m s = byte_of s m.cfg0 3 % 128

unfoldable pub read_protected : Map → List ℕ → Bool
read_protected m s = bit_set 7 (byte_of s m.cfg1 0)

unfoldable pub config_locked : Map → List ℕ → Bool
config_locked m s = bit_set 6 (byte_of s m.cfg1 0)

unfoldable pub incr_open : Map → List ℕ → Bool
incr_open m s = bit_set 3 (byte_of s m.cfg1 0)

unfoldable pub read_open : Map → List ℕ → Bool
read_open m s = bit_set 2 (byte_of s m.cfg1 0)

-- ten bits: byte 2, and the two low bits of byte 3 above it
unfoldable pub auth_limit : Map → List ℕ → ℕ
auth_limit m s = byte_of s m.cfg1 2 + 256 * (byte_of s m.cfg1 3 % 4)

-- bit 7 locks the pages of UIDRetrKey, bit 6 those of DataProtKey, and bit 5 this page
unfoldable pub key_lock_bit : ℕ → Map → List ℕ → Bool
key_lock_bit k m s = bit_set k (byte_of s m.keylocks 0)

-- Bench cases: WRITE under AUTH0, the configuration pages, LOCK_KEYS, and the Random ID bit.
--
--     setting_cases     the cases
--
-- tools/cases.py works every value out; Themes.antt joins the lists. Assumes nothing.
use Rattle.std.specs.Prelude.{List, [], ◌∷◌, ◌++◌}
use Rattle.model.specs.declared.State.TheVariants.{Waiting, Active}
use Rattle.model.specs.Frame.{nibble, bytes}
use Rattle.model.specs.CaseImages.{hex, page, patched, base}
use Rattle.model.specs.CaseForm.{Case, selected, to_active, sent, stopped, ack}

-- ---- from here on written by tools/cases.py

-- WRITE 00h, 3Ch and FFh: 5.
abbrev pub write_past_end : Case
write_past_end = record {
  image = base;
  lines =
      to_active ++ (
      sent (hex 8 0xa200_11223344_544e) 5 (nibble 0x0) ∷
      selected ∷ sent (hex 8 0xa23c_11223344_b5ed) 5 (nibble 0x0) ∷
      selected ∷ sent (hex 8 0xa2ff_11223344_0ebb) 5 (nibble 0x0) ∷ []);
  changed = [];
  state = Waiting;
}

-- AUTH0 00h: WRITE 02h is 6; WRITE 00h and 3Ch are 5, which comes first.
abbrev pub auth0_zero : Case
auth0_zero = record {
  image = patched base (page 0x29 (hex 4 0x00000000) ∷ []);
  lines =
      to_active ++ (
      stopped 1 (hex 8 0xa202_00000100_77b0) 6 (nibble 0x0) ∷
      selected ∷ sent (hex 8 0xa200_11223344_544e) 5 (nibble 0x0) ∷
      selected ∷ sent (hex 8 0xa23c_11223344_b5ed) 5 (nibble 0x0) ∷ []);
  changed = [];
  state = Waiting;
}

-- AUTH0 04h with PROT: WRITE 04h is 6, 03h is 0, as without PROT.
abbrev pub auth0_with_prot : Case
auth0_with_prot = record {
  image = patched base (page 0x29 (hex 4 0x00000004) ∷ page 0x2a (hex 4 0x8c050000) ∷ []);
  lines = to_active ++ (stopped 1 (hex 8 0xa204_11223344_4463) 6 (nibble 0x0) ∷ selected ∷ sent (hex 8 0xa203_01020304_a467) 0 ack ∷ []);
  changed = page 0x03 (hex 4 0x01020304) ∷ [];
  state = Active;
}

-- AUTH0 04h and every lock set: WRITE 04h, 10h, 29h, 2Ah, 2Dh, 30h and 34h are 6, which comes before 7.
abbrev pub auth0_before_locks : Case
auth0_before_locks = record {
  image =
      patched base (
      page 0x29 (hex 4 0x00000004) ∷
      page 0x02 (hex 4 0x1048f8ff) ∷
      page 0x28 (hex 4 0xff0f0000) ∷
      page 0x2a (hex 4 0x4c050000) ∷
      page 0x2d (hex 4 0xe0000000) ∷ []);
  lines =
      to_active ++ (
      stopped 1 (hex 8 0xa204_00000004_13d4) 6 (nibble 0x0) ∷
      selected ∷ stopped 1 (hex 8 0xa210_00000004_434d) 6 (nibble 0x0) ∷
      selected ∷ stopped 1 (hex 8 0xa229_00000004_f6c8) 6 (nibble 0x0) ∷
      selected ∷ stopped 1 (hex 8 0xa22a_00000004_3ad5) 6 (nibble 0x0) ∷
      selected ∷ stopped 1 (hex 8 0xa22d_00000004_e6e5) 6 (nibble 0x0) ∷
      selected ∷ stopped 1 (hex 8 0xa230_00000004_d22d) 6 (nibble 0x0) ∷
      selected ∷ stopped 1 (hex 8 0xa234_00000004_c200) 6 (nibble 0x0) ∷ []);
  changed = [];
  state = Waiting;
}

-- AUTH0 3Bh: WRITE 3Bh is 6, 3Ah is 0.
abbrev pub auth0_last_write : Case
auth0_last_write = record {
  image = patched base (page 0x29 (hex 4 0x0000003b) ∷ []);
  lines = to_active ++ (stopped 1 (hex 8 0xa23b_11223344_69dd) 6 (nibble 0x0) ∷ selected ∷ sent (hex 8 0xa23a_11223344_2dd6) 0 ack ∷ []);
  changed = page 0x3a (hex 4 0x11223344) ∷ [];
  state = Active;
}

-- AUTH0 7Fh protects nothing: WRITE 3Bh is 0.
abbrev pub auth0_above : Case
auth0_above = record {
  image = patched base (page 0x29 (hex 4 0x0000007f) ∷ []);
  lines = to_active ++ (sent (hex 8 0xa23b_11223344_69dd) 0 ack ∷ []);
  changed = page 0x3b (hex 4 0x11223344) ∷ [];
  state = Active;
}

-- AUTH0 30h: WRITE 30h and 37h are 6, 2Fh is 0.
abbrev pub auth0_keys : Case
auth0_keys = record {
  image = patched base (page 0x29 (hex 4 0x00000030) ∷ []);
  lines =
      to_active ++ (
      stopped 1 (hex 8 0xa230_11223344_859a) 6 (nibble 0x0) ∷
      selected ∷ stopped 1 (hex 8 0xa237_11223344_59aa) 6 (nibble 0x0) ∷
      selected ∷ sent (hex 8 0xa22f_11223344_3944) 0 ack ∷ []);
  changed = page 0x2f (hex 4 0x11223344) ∷ [];
  state = Active;
}

-- A setting holds from the next frame on: WRITE 29h with AUTH0 04h, then WRITE 04h: 6.
abbrev pub auth0_holds : Case
auth0_holds = record {
  image = base;
  lines = to_active ++ (sent (hex 8 0xa229_00000004_f6c8) 0 ack ∷ stopped 1 (hex 8 0xa204_11223344_4463) 6 (nibble 0x0) ∷ []);
  changed = page 0x29 (hex 4 0x00000004) ∷ [];
  state = Waiting;
}

-- WRITE 29h and 2Ah store the bytes as sent, reserved bits too.
abbrev pub config_as_sent : Case
config_as_sent = record {
  image = base;
  lines = to_active ++ (sent (hex 8 0xa229_fe5aa5fc_864b) 0 ack ∷ sent (hex 8 0xa22a_bf5a12fe_3208) 0 ack ∷ []);
  changed = page 0x29 (hex 4 0xfe5aa5fc) ∷ page 0x2a (hex 4 0xbf5a12fe) ∷ [];
  state = Active;
}

-- WRITE 29h and 2Ah clear bits too: no bit but LOCK_USR_CFG is one-way there.
abbrev pub config_cleared : Case
config_cleared = record {
  image = patched base (page 0x29 (hex 4 0xfefffffc) ∷ page 0x2a (hex 4 0xbffffffc) ∷ []);
  lines = to_active ++ (sent (hex 8 0xa229_0000003c_3d75) 0 ack ∷ sent (hex 8 0xa22a_00000000_1e93) 0 ack ∷ []);
  changed = page 0x29 (hex 4 0x0000003c) ∷ page 0x2a (hex 4 0x00000000) ∷ [];
  state = Active;
}

-- User and reserved pages at FFh, write of zeros: zeros.
abbrev pub plain_cleared : Case
plain_cleared = record {
  image = patched base (page 0x04 (hex 4 0xffffffff) ∷ page 0x2b (hex 4 0xffffffff) ∷ page 0x2e (hex 4 0xffffffff) ∷ []);
  lines =
      to_active ++ (
      sent (hex 8 0xa204_00000000_3792) 0 ack ∷
      sent (hex 8 0xa22b_00000000_5a98) 0 ack ∷
      sent (hex 8 0xa22e_00000000_0ebe) 0 ack ∷ []);
  changed = page 0x04 (hex 4 0x00000000) ∷ page 0x2b (hex 4 0x00000000) ∷ page 0x2e (hex 4 0x00000000) ∷ [];
  state = Active;
}

-- Reserved pages store the bytes as sent.
abbrev pub reserved_pages : Case
reserved_pages = record {
  image = base;
  lines =
      to_active ++ (
      sent (hex 8 0xa22b_ff00a55a_1071) 0 ack ∷
      sent (hex 8 0xa22c_ff00a55a_cc41) 0 ack ∷
      sent (hex 8 0xa22e_ff00a55a_4457) 0 ack ∷
      sent (hex 8 0xa22f_ff00a55a_005c) 0 ack ∷
      sent (hex 8 0xa238_ff00a55a_9cd8) 0 ack ∷
      sent (hex 8 0xa23b_ff00a55a_50c5) 0 ack ∷ []);
  changed =
      page 0x2b (hex 4 0xff00a55a) ∷
      page 0x2c (hex 4 0xff00a55a) ∷
      page 0x2e (hex 4 0xff00a55a) ∷
      page 0x2f (hex 4 0xff00a55a) ∷
      page 0x38 (hex 4 0xff00a55a) ∷
      page 0x3b (hex 4 0xff00a55a) ∷ [];
  state = Active;
}

-- LOCK_KEYS bit 6 set: WRITE 30h and 33h are 7, 2Fh and 34h are 0.
abbrev pub data_prot_key_locked : Case
data_prot_key_locked = record {
  image = patched base (page 0x2d (hex 4 0x40000000) ∷ []);
  lines =
      to_active ++ (
      stopped 5 (hex 8 0xa230_11223344_859a) 7 (nibble 0x0) ∷
      selected ∷ stopped 5 (hex 8 0xa233_11223344_4987) 7 (nibble 0x0) ∷
      selected ∷ sent (hex 8 0xa22f_11223344_3944) 0 ack ∷
      sent (hex 8 0xa234_55667788_bf9b) 0 ack ∷ []);
  changed = page 0x2f (hex 4 0x11223344) ∷ page 0x34 (hex 4 0x55667788) ∷ [];
  state = Active;
}

-- LOCK_KEYS bit 7 set: WRITE 34h and 37h are 7, 33h and 38h are 0.
abbrev pub uid_retr_key_locked : Case
uid_retr_key_locked = record {
  image = patched base (page 0x2d (hex 4 0x80000000) ∷ []);
  lines =
      to_active ++ (
      stopped 5 (hex 8 0xa234_11223344_95b7) 7 (nibble 0x0) ∷
      selected ∷ stopped 5 (hex 8 0xa237_11223344_59aa) 7 (nibble 0x0) ∷
      selected ∷ sent (hex 8 0xa233_11223344_4987) 0 ack ∷
      sent (hex 8 0xa238_55667788_8fec) 0 ack ∷ []);
  changed = page 0x33 (hex 4 0x11223344) ∷ page 0x38 (hex 4 0x55667788) ∷ [];
  state = Active;
}

-- LOCK_KEYS bit 5 set: WRITE 2Dh is 7, whatever it holds; WRITE 30h and 34h are 0.
abbrev pub key_locks_blocked : Case
key_locks_blocked = record {
  image = patched base (page 0x2d (hex 4 0x20000000) ∷ []);
  lines =
      to_active ++ (
      stopped 5 (hex 8 0xa22d_20000000_912c) 7 (nibble 0x0) ∷
      selected ∷ stopped 5 (hex 8 0xa22d_e0000000_4817) 7 (nibble 0x0) ∷
      selected ∷ stopped 5 (hex 8 0xa22d_00000000_c2a3) 7 (nibble 0x0) ∷
      selected ∷ sent (hex 8 0xa230_11223344_859a) 0 ack ∷
      sent (hex 8 0xa234_55667788_bf9b) 0 ack ∷ []);
  changed = page 0x30 (hex 4 0x11223344) ∷ page 0x34 (hex 4 0x55667788) ∷ [];
  state = Active;
}

-- LOCK_KEYS at 1Fh, all but its three bits: WRITE 30h, 34h and 2Dh are 0.
abbrev pub other_bits_lock_no_key : Case
other_bits_lock_no_key = record {
  image = patched base (page 0x2d (hex 4 0x1fffffff) ∷ []);
  lines =
      to_active ++ (
      sent (hex 8 0xa230_11223344_859a) 0 ack ∷
      sent (hex 8 0xa234_55667788_bf9b) 0 ack ∷
      sent (hex 8 0xa22d_00000000_c2a3) 0 ack ∷ []);
  changed = page 0x30 (hex 4 0x11223344) ∷ page 0x34 (hex 4 0x55667788) ∷ page 0x2d (hex 4 0x00000000) ∷ [];
  state = Active;
}

-- LOCK_KEYS bits 5, 6 and 7 set in one write: 0, and all three hold from the next frame on.
abbrev pub key_locks_together : Case
key_locks_together = record {
  image = base;
  lines =
      to_active ++ (
      sent (hex 8 0xa22d_e0123456_14c1) 0 ack ∷
      stopped 5 (hex 8 0xa230_11223344_859a) 7 (nibble 0x0) ∷
      selected ∷ stopped 5 (hex 8 0xa234_11223344_95b7) 7 (nibble 0x0) ∷
      selected ∷ stopped 5 (hex 8 0xa22d_e0123456_14c1) 7 (nibble 0x0) ∷ []);
  changed = page 0x2d (hex 4 0xe0123456) ∷ [];
  state = Waiting;
}

-- LOCK_KEYS bit 6 set, write 00h: bit 6 is kept and all else is as sent. A write of 80h then gives C0h.
abbrev pub key_locks_stay : Case
key_locks_stay = record {
  image = patched base (page 0x2d (hex 4 0x5faabbcc) ∷ []);
  lines =
      to_active ++ (
      sent (hex 8 0xa22d_00112233_106f) 0 ack ∷
      sent (hex 5 0x3a2d2d_6c39) 0 (bytes (hex 6 0x40112233_658c)) ∷
      sent (hex 8 0xa22d_80000000_ac8e) 0 ack ∷
      sent (hex 5 0x3a2d2d_6c39) 0 (bytes (hex 6 0xc0000000_d96d)) ∷
      sent (hex 8 0xa22d_1f000000_9ad2) 0 ack ∷ []);
  changed = page 0x2d (hex 4 0xdf000000) ∷ [];
  state = Active;
}

-- LOCK_USR_CFG set: WRITE 29h and 2Ah are 7, the latter with bit 6 clear too; WRITE 28h, 2Bh and 2Dh are 0.
abbrev pub config_locked : Case
config_locked = record {
  image = patched base (page 0x2a (hex 4 0x4c050000) ∷ []);
  lines =
      to_active ++ (
      stopped 6 (hex 8 0xa229_0000003c_3d75) 7 (nibble 0x0) ∷
      selected ∷ stopped 6 (hex 8 0xa22a_4c050000_202b) 7 (nibble 0x0) ∷
      selected ∷ stopped 6 (hex 8 0xa22a_0c050000_973d) 7 (nibble 0x0) ∷
      selected ∷ sent (hex 8 0xa228_01000000_2d99) 0 ack ∷
      sent (hex 8 0xa22b_11223344_2969) 0 ack ∷
      sent (hex 8 0xa22d_80000000_ac8e) 0 ack ∷ []);
  changed = page 0x28 (hex 4 0x01000000) ∷ page 0x2b (hex 4 0x11223344) ∷ page 0x2d (hex 4 0x80000000) ∷ [];
  state = Active;
}

-- The write that sets LOCK_USR_CFG is carried out in full; the next one is 7.
abbrev pub config_lock_set : Case
config_lock_set = record {
  image = base;
  lines = to_active ++ (sent (hex 8 0xa22a_4c7788fe_bd42) 0 ack ∷ stopped 6 (hex 8 0xa22a_0c050000_973d) 7 (nibble 0x0) ∷ []);
  changed = page 0x2a (hex 4 0x4c7788fe) ∷ [];
  state = Waiting;
}

-- CFG_1 byte 0 at BFh, all but LOCK_USR_CFG: WRITE 29h and 2Ah are 0.
abbrev pub other_bits_no_config_lock : Case
other_bits_no_config_lock = record {
  image = patched base (page 0x2a (hex 4 0xbf050000) ∷ []);
  lines = to_active ++ (sent (hex 8 0xa229_00112233_0042) 0 ack ∷ sent (hex 8 0xa22a_0c050000_973d) 0 ack ∷ []);
  changed = page 0x29 (hex 4 0x00112233) ∷ page 0x2a (hex 4 0x0c050000) ∷ [];
  state = Active;
}

-- A CFG_0 write that sets the Random ID bit in ACTIVE: 6.
abbrev pub random_id_switched_on : Case
random_id_switched_on = record {
  image = base;
  lines = to_active ++ (stopped 2 (hex 8 0xa229_0100003c_8669) 6 (nibble 0x0) ∷ []);
  changed = [];
  state = Waiting;
}

-- A CFG_0 write that clears the Random ID bit in ACTIVE: 6.
abbrev pub random_id_switched_off : Case
random_id_switched_off = record {
  image = patched base (page 0x29 (hex 4 0x0100003c) ∷ []);
  lines = to_active ++ (stopped 2 (hex 8 0xa229_0000003c_3d75) 6 (nibble 0x0) ∷ []);
  changed = [];
  state = Waiting;
}

-- CFG_0 writes in ACTIVE that keep the Random ID bit, set: 0.
abbrev pub random_id_kept : Case
random_id_kept = record {
  image = patched base (page 0x29 (hex 4 0x0100003c) ∷ []);
  lines = to_active ++ (sent (hex 8 0xa229_0311227f_a5ef) 0 ack ∷ []);
  changed = page 0x29 (hex 4 0x0311227f) ∷ [];
  state = Active;
}

-- CFG_0 writes in ACTIVE that keep the Random ID bit, clear: 0.
abbrev pub random_id_kept_off : Case
random_id_kept_off = record {
  image = base;
  lines = to_active ++ (sent (hex 8 0xa229_0211227f_1ef3) 0 ack ∷ []);
  changed = page 0x29 (hex 4 0x0211227f) ∷ [];
  state = Active;
}

-- CFG_0 byte 0 at FEh: a write of 00h there keeps the Random ID bit, 0; one of 01h changes it, 6.
abbrev pub other_bits_switch_nothing : Case
other_bits_switch_nothing = record {
  image = patched base (page 0x29 (hex 4 0xfe00003c) ∷ []);
  lines = to_active ++ (sent (hex 8 0xa229_0000003c_3d75) 0 ack ∷ stopped 2 (hex 8 0xa229_0100003c_8669) 6 (nibble 0x0) ∷ []);
  changed = page 0x29 (hex 4 0x0000003c) ∷ [];
  state = Waiting;
}

-- LOCK_USR_CFG set: a CFG_0 write that changes the Random ID bit in ACTIVE is 6, one that keeps it is 7.
abbrev pub random_id_locked : Case
random_id_locked = record {
  image = patched base (page 0x2a (hex 4 0x4c050000) ∷ []);
  lines =
      to_active ++ (
      stopped 2 (hex 8 0xa229_0100003c_8669) 6 (nibble 0x0) ∷
      selected ∷ stopped 6 (hex 8 0xa229_0000003c_3d75) 7 (nibble 0x0) ∷ []);
  changed = [];
  state = Waiting;
}

-- AUTH0 29h, ACTIVE: a CFG_0 write that changes the Random ID bit is stopped by AUTH0.
abbrev pub auth0_before_random_id : Case
auth0_before_random_id = record {
  image = patched base (page 0x29 (hex 4 0x00000029) ∷ []);
  lines = to_active ++ (stopped 1 (hex 8 0xa229_01000029_aa2e) 6 (nibble 0x0) ∷ []);
  changed = [];
  state = Waiting;
}

-- AUTH0 29h and LOCK_USR_CFG set, ACTIVE: AUTH0 is the first of the three rules that stop a CFG_0 write with another Random ID bit.
abbrev pub auth0_before_both : Case
auth0_before_both = record {
  image = patched base (page 0x29 (hex 4 0x00000029) ∷ page 0x2a (hex 4 0x4c050000) ∷ []);
  lines = to_active ++ (stopped 1 (hex 8 0xa229_01000029_aa2e) 6 (nibble 0x0) ∷ []);
  changed = [];
  state = Waiting;
}

-- Every lock set: WRITE 03h and 0Fh are stopped by their own lock bit, 10h and 27h by their pair's, 2Dh, 30h and 37h by a key lock, 29h and
-- 2Ah by the configuration lock.
abbrev pub lock_reasons : Case
lock_reasons = record {
  image =
      patched base (
      page 0x02 (hex 4 0x1048f8ff) ∷
      page 0x28 (hex 4 0xff0f0000) ∷
      page 0x2a (hex 4 0x4c050000) ∷
      page 0x2d (hex 4 0xe0000000) ∷ []);
  lines =
      to_active ++ (
      stopped 3 (hex 8 0xa203_11223344_9853) 7 (nibble 0x0) ∷
      selected ∷ stopped 3 (hex 8 0xa20f_11223344_a824) 7 (nibble 0x0) ∷
      selected ∷ stopped 4 (hex 8 0xa210_11223344_14fa) 7 (nibble 0x0) ∷
      selected ∷ stopped 4 (hex 8 0xa227_11223344_191e) 7 (nibble 0x0) ∷
      selected ∷ stopped 5 (hex 8 0xa22d_00000000_c2a3) 7 (nibble 0x0) ∷
      selected ∷ stopped 5 (hex 8 0xa230_11223344_859a) 7 (nibble 0x0) ∷
      selected ∷ stopped 5 (hex 8 0xa237_11223344_59aa) 7 (nibble 0x0) ∷
      selected ∷ stopped 6 (hex 8 0xa229_0000003c_3d75) 7 (nibble 0x0) ∷
      selected ∷ stopped 6 (hex 8 0xa22a_0c050000_973d) 7 (nibble 0x0) ∷ []);
  changed = [];
  state = Waiting;
}

-- AUTH0 02h with PROT, LOCK_USR_CFG set, counter 2 closed: READ, FAST_READ, READ_CNT and INCR_CNT are 6, WRITE 01h and 3Ch are 5, and a
-- WRITE with a byte too few is 4, all without a reason; WRITE 04h is stopped by AUTH0.
abbrev pub no_reason : Case
no_reason = record {
  image = patched base (page 0x29 (hex 4 0x00000002) ∷ page 0x2a (hex 4 0xc0050000) ∷ page 0x02 (hex 4 0x1048f8ff) ∷ []);
  lines =
      to_active ++ (
      sent (hex 4 0x3004_26ee) 6 (nibble 0x0) ∷
      selected ∷ sent (hex 5 0x3a0404_8471) 6 (nibble 0x0) ∷
      selected ∷ sent (hex 4 0x3902_085c) 6 (nibble 0x0) ∷
      selected ∷ sent (hex 8 0xa502_01000000_c5a9) 6 (nibble 0x0) ∷
      selected ∷ sent (hex 8 0xa201_11223344_1045) 5 (nibble 0x0) ∷
      selected ∷ sent (hex 8 0xa23c_11223344_b5ed) 5 (nibble 0x0) ∷
      selected ∷ sent (hex 7 0xa204_112233_2442) 4 (nibble 0x0) ∷
      selected ∷ stopped 1 (hex 8 0xa204_11223344_4463) 6 (nibble 0x0) ∷ []);
  changed = [];
  state = Waiting;
}

unfoldable pub setting_cases : List Case
setting_cases =
    write_past_end ∷ auth0_zero ∷ auth0_with_prot ∷ auth0_before_locks ∷ auth0_last_write ∷ auth0_above ∷ auth0_keys ∷ auth0_holds ∷
    config_as_sent ∷ config_cleared ∷ plain_cleared ∷ reserved_pages ∷ data_prot_key_locked ∷ uid_retr_key_locked ∷ key_locks_blocked ∷
    other_bits_lock_no_key ∷ key_locks_together ∷ key_locks_stay ∷ config_locked ∷ config_lock_set ∷ other_bits_no_config_lock ∷
    random_id_switched_on ∷ random_id_switched_off ∷ random_id_kept ∷ random_id_kept_off ∷ other_bits_switch_nothing ∷ random_id_locked ∷
    auth0_before_random_id ∷ auth0_before_both ∷ lock_reasons ∷ no_reason ∷ []

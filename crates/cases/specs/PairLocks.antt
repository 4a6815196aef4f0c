-- Bench cases: lock bytes 2 to 4, of page 28h, a bit for two pages.
--
--     pair_lock_cases     the cases
--
-- tools/cases.py works every value out; Themes.antt joins the lists. Assumes nothing.
use Rattle.std.specs.Prelude.{List, [], ◌∷◌, ◌++◌}
use Rattle.model.specs.declared.State.TheVariants.{Waiting, Active}
use Rattle.model.specs.Frame.{nibble}
use Rattle.model.specs.CaseImages.{hex, page, patched, base}
use Rattle.model.specs.CaseForm.{Case, selected, to_active, sent, stopped, ack}

-- ---- from here on written by tools/cases.py

-- Lock bytes 2 to 4 at 00h, write 81h,0Ah,00h: 81h,0Ah,00h.
abbrev pub pair_locks_set : Case
pair_locks_set = record {
  image = base;
  lines = to_active ++ (sent (hex 8 0xa228_810a0000_39c7) 0 ack ∷ []);
  changed = page 0x28 (hex 4 0x810a0000) ∷ [];
  state = Active;
}

-- Write FFh,FFh,FFh,FFh: FFh,0Fh,3Fh,00h. Reserved bits stay 0, and the block bits just written freeze nothing.
abbrev pub pair_locks_all : Case
pair_locks_all = record {
  image = base;
  lines = to_active ++ (sent (hex 8 0xa228_ffffffff_0f76) 0 ack ∷ []);
  changed = page 0x28 (hex 4 0xff0f3f00) ∷ [];
  state = Active;
}

-- Reserved bits, lock byte 3 at 50h, lock byte 4 at 80h and byte 3 at 5Ah, write FFh,FFh,FFh,FFh: FFh,5Fh,BFh,5Ah.
abbrev pub pair_reserved_kept : Case
pair_reserved_kept = record {
  image = patched base (page 0x28 (hex 4 0x0050805a) ∷ []);
  lines = to_active ++ (sent (hex 8 0xa228_ffffffff_0f76) 0 ack ∷ []);
  changed = page 0x28 (hex 4 0xff5fbf5a) ∷ [];
  state = Active;
}

-- Page 28h at A5h,FAh,EAh,5Ah, write of zeros: nothing is cleared.
abbrev pub pair_locks_stay : Case
pair_locks_stay = record {
  image = patched base (page 0x28 (hex 4 0xa5faea5a) ∷ []);
  lines = to_active ++ (sent (hex 8 0xa228_00000000_9685) 0 ack ∷ []);
  changed = [];
  state = Active;
}

-- Lock bytes 2 to 4 at 81h,09h,00h, write 81h,09h,00h: a bit that is sent again stays.
abbrev pub pair_locks_again : Case
pair_locks_again = record {
  image = patched base (page 0x28 (hex 4 0x81090000) ∷ []);
  lines = to_active ++ (sent (hex 8 0xa228_81090000_5d28) 0 ack ∷ []);
  changed = [];
  state = Active;
}

-- Lock byte 4 at 3Fh, write FFh,FFh,FFh,FFh: every lock bit is frozen, and the write is 0.
abbrev pub pair_block_bits : Case
pair_block_bits = record {
  image = patched base (page 0x28 (hex 4 0x00003f00) ∷ []);
  lines = to_active ++ (sent (hex 8 0xa228_ffffffff_0f76) 0 ack ∷ []);
  changed = [];
  state = Active;
}

-- Lock byte 4 at 01h, write FFh,FFh,FFh,FFh: block bit 0 freezes 03h of lock byte 2.
abbrev pub pair_block_bit0 : Case
pair_block_bit0 = record {
  image = patched base (page 0x28 (hex 4 0x00000100) ∷ []);
  lines = to_active ++ (sent (hex 8 0xa228_ffffffff_0f76) 0 ack ∷ []);
  changed = page 0x28 (hex 4 0xfc0f3f00) ∷ [];
  state = Active;
}

-- Lock byte 4 at 02h, write FFh,FFh,FFh,FFh: block bit 1 freezes 0Ch of lock byte 2.
abbrev pub pair_block_bit1 : Case
pair_block_bit1 = record {
  image = patched base (page 0x28 (hex 4 0x00000200) ∷ []);
  lines = to_active ++ (sent (hex 8 0xa228_ffffffff_0f76) 0 ack ∷ []);
  changed = page 0x28 (hex 4 0xf30f3f00) ∷ [];
  state = Active;
}

-- Lock byte 4 at 04h, write FFh,FFh,FFh,FFh: block bit 2 freezes 30h of lock byte 2.
abbrev pub pair_block_bit2 : Case
pair_block_bit2 = record {
  image = patched base (page 0x28 (hex 4 0x00000400) ∷ []);
  lines = to_active ++ (sent (hex 8 0xa228_ffffffff_0f76) 0 ack ∷ []);
  changed = page 0x28 (hex 4 0xcf0f3f00) ∷ [];
  state = Active;
}

-- Lock byte 4 at 08h, write FFh,FFh,FFh,FFh: block bit 3 freezes C0h of lock byte 2.
abbrev pub pair_block_bit3 : Case
pair_block_bit3 = record {
  image = patched base (page 0x28 (hex 4 0x00000800) ∷ []);
  lines = to_active ++ (sent (hex 8 0xa228_ffffffff_0f76) 0 ack ∷ []);
  changed = page 0x28 (hex 4 0x3f0f3f00) ∷ [];
  state = Active;
}

-- Lock byte 4 at 10h, write FFh,FFh,FFh,FFh: block bit 4 freezes 03h of lock byte 3.
abbrev pub pair_block_bit4 : Case
pair_block_bit4 = record {
  image = patched base (page 0x28 (hex 4 0x00001000) ∷ []);
  lines = to_active ++ (sent (hex 8 0xa228_ffffffff_0f76) 0 ack ∷ []);
  changed = page 0x28 (hex 4 0xff0c3f00) ∷ [];
  state = Active;
}

-- Lock byte 4 at 20h, write FFh,FFh,FFh,FFh: block bit 5 freezes 0Ch of lock byte 3.
abbrev pub pair_block_bit5 : Case
pair_block_bit5 = record {
  image = patched base (page 0x28 (hex 4 0x00002000) ∷ []);
  lines = to_active ++ (sent (hex 8 0xa228_ffffffff_0f76) 0 ack ∷ []);
  changed = page 0x28 (hex 4 0xff033f00) ∷ [];
  state = Active;
}

-- Lock bytes 2 to 4 at 01h,08h,21h, write FFh,FFh,FFh: frozen bits keep their value, set or not: FDh,0Bh,3Fh.
abbrev pub pair_frozen_kept : Case
pair_frozen_kept = record {
  image = patched base (page 0x28 (hex 4 0x01082100) ∷ []);
  lines = to_active ++ (sent (hex 8 0xa228_ffffff00_7779) 0 ack ∷ []);
  changed = page 0x28 (hex 4 0xfd0b3f00) ∷ [];
  state = Active;
}

-- A pair's lock bit holds from the next frame on: WRITE 28h with 02h,00h,00h, then WRITE 13h: 7.
abbrev pub pair_lock_holds : Case
pair_lock_holds = record {
  image = base;
  lines = to_active ++ (sent (hex 8 0xa228_02000000_e0bc) 0 ack ∷ stopped 4 (hex 8 0xa213_11223344_d8e7) 7 (nibble 0x0) ∷ []);
  changed = page 0x28 (hex 4 0x02000000) ∷ [];
  state = Waiting;
}

-- Lock byte 2 at 01h: WRITE 10h and 11h are 7, 0Fh and 12h are 0.
abbrev pub pair_lock10 : Case
pair_lock10 = record {
  image = patched base (page 0x28 (hex 4 0x01000000) ∷ []);
  lines =
      to_active ++ (
      stopped 4 (hex 8 0xa210_11223344_14fa) 7 (nibble 0x0) ∷
      selected ∷ stopped 4 (hex 8 0xa211_11223344_50f1) 7 (nibble 0x0) ∷
      selected ∷ sent (hex 8 0xa20f_11223344_a824) 0 ack ∷
      sent (hex 8 0xa212_55667788_b6c0) 0 ack ∷ []);
  changed = page 0x0f (hex 4 0x11223344) ∷ page 0x12 (hex 4 0x55667788) ∷ [];
  state = Active;
}

-- Lock byte 2 at 80h: WRITE 1Eh and 1Fh are 7, 1Dh and 20h are 0.
abbrev pub pair_lock_1e : Case
pair_lock_1e = record {
  image = patched base (page 0x28 (hex 4 0x80000000) ∷ []);
  lines =
      to_active ++ (
      stopped 4 (hex 8 0xa21e_11223344_ac9b) 7 (nibble 0x0) ∷
      selected ∷ stopped 4 (hex 8 0xa21f_11223344_e890) 7 (nibble 0x0) ∷
      selected ∷ sent (hex 8 0xa21d_11223344_6086) 0 ack ∷
      sent (hex 8 0xa220_55667788_ef02) 0 ack ∷ []);
  changed = page 0x1d (hex 4 0x11223344) ∷ page 0x20 (hex 4 0x55667788) ∷ [];
  state = Active;
}

-- Lock byte 3 at 01h: WRITE 20h and 21h are 7, 1Fh and 22h are 0.
abbrev pub pair_lock20 : Case
pair_lock20 = record {
  image = patched base (page 0x28 (hex 4 0x00010000) ∷ []);
  lines =
      to_active ++ (
      stopped 4 (hex 8 0xa220_11223344_c52e) 7 (nibble 0x0) ∷
      selected ∷ stopped 4 (hex 8 0xa221_11223344_8125) 7 (nibble 0x0) ∷
      selected ∷ sent (hex 8 0xa21f_11223344_e890) 0 ack ∷
      sent (hex 8 0xa222_55667788_6714) 0 ack ∷ []);
  changed = page 0x1f (hex 4 0x11223344) ∷ page 0x22 (hex 4 0x55667788) ∷ [];
  state = Active;
}

-- Lock byte 3 at 08h: WRITE 26h and 27h are 7, 25h is 0, and 28h is not locked.
abbrev pub pair_lock26 : Case
pair_lock26 = record {
  image = patched base (page 0x28 (hex 4 0x00080000) ∷ []);
  lines =
      to_active ++ (
      stopped 4 (hex 8 0xa226_11223344_5d15) 7 (nibble 0x0) ∷
      selected ∷ stopped 4 (hex 8 0xa227_11223344_191e) 7 (nibble 0x0) ∷
      selected ∷ sent (hex 8 0xa225_11223344_9108) 0 ack ∷
      sent (hex 8 0xa228_01000000_2d99) 0 ack ∷ []);
  changed = page 0x25 (hex 4 0x11223344) ∷ page 0x28 (hex 4 0x01080000) ∷ [];
  state = Active;
}

-- Lock bytes 2 and 3 at FFh,0Fh: WRITE 11h, 13h and on to 27h are 7 each.
abbrev pub pair_lock_each : Case
pair_lock_each = record {
  image = patched base (page 0x28 (hex 4 0xff0f0000) ∷ []);
  lines =
      to_active ++ (
      stopped 4 (hex 8 0xa211_11223344_50f1) 7 (nibble 0x0) ∷
      selected ∷ stopped 4 (hex 8 0xa213_11223344_d8e7) 7 (nibble 0x0) ∷
      selected ∷ stopped 4 (hex 8 0xa215_11223344_40dc) 7 (nibble 0x0) ∷
      selected ∷ stopped 4 (hex 8 0xa217_11223344_c8ca) 7 (nibble 0x0) ∷
      selected ∷ stopped 4 (hex 8 0xa219_11223344_70ab) 7 (nibble 0x0) ∷
      selected ∷ stopped 4 (hex 8 0xa21b_11223344_f8bd) 7 (nibble 0x0) ∷
      selected ∷ stopped 4 (hex 8 0xa21d_11223344_6086) 7 (nibble 0x0) ∷
      selected ∷ stopped 4 (hex 8 0xa21f_11223344_e890) 7 (nibble 0x0) ∷
      selected ∷ stopped 4 (hex 8 0xa221_11223344_8125) 7 (nibble 0x0) ∷
      selected ∷ stopped 4 (hex 8 0xa223_11223344_0933) 7 (nibble 0x0) ∷
      selected ∷ stopped 4 (hex 8 0xa225_11223344_9108) 7 (nibble 0x0) ∷
      selected ∷ stopped 4 (hex 8 0xa227_11223344_191e) 7 (nibble 0x0) ∷ []);
  changed = [];
  state = Waiting;
}

-- Lock bytes 2 and 3 at FFh,00h: WRITE 20h, 22h, 24h and 26h are 0.
abbrev pub pair_byte2_only : Case
pair_byte2_only = record {
  image = patched base (page 0x28 (hex 4 0xff000000) ∷ []);
  lines =
      to_active ++ (
      sent (hex 8 0xa220_11223344_c52e) 0 ack ∷
      sent (hex 8 0xa222_11223344_4d38) 0 ack ∷
      sent (hex 8 0xa224_11223344_d503) 0 ack ∷
      sent (hex 8 0xa226_11223344_5d15) 0 ack ∷ []);
  changed = page 0x20 (hex 4 0x11223344) ∷ page 0x22 (hex 4 0x11223344) ∷ page 0x24 (hex 4 0x11223344) ∷ page 0x26 (hex 4 0x11223344) ∷ [];
  state = Active;
}

-- Lock bytes 2 and 3 at 00h,0Fh: WRITE 10h, 12h and on to 1Eh are 0.
abbrev pub pair_byte3_only : Case
pair_byte3_only = record {
  image = patched base (page 0x28 (hex 4 0x000f0000) ∷ []);
  lines =
      to_active ++ (
      sent (hex 8 0xa210_11223344_14fa) 0 ack ∷
      sent (hex 8 0xa212_11223344_9cec) 0 ack ∷
      sent (hex 8 0xa214_11223344_04d7) 0 ack ∷
      sent (hex 8 0xa216_11223344_8cc1) 0 ack ∷
      sent (hex 8 0xa218_11223344_34a0) 0 ack ∷
      sent (hex 8 0xa21a_11223344_bcb6) 0 ack ∷
      sent (hex 8 0xa21c_11223344_248d) 0 ack ∷
      sent (hex 8 0xa21e_11223344_ac9b) 0 ack ∷ []);
  changed =
      page 0x10 (hex 4 0x11223344) ∷
      page 0x12 (hex 4 0x11223344) ∷
      page 0x14 (hex 4 0x11223344) ∷
      page 0x16 (hex 4 0x11223344) ∷
      page 0x18 (hex 4 0x11223344) ∷
      page 0x1a (hex 4 0x11223344) ∷
      page 0x1c (hex 4 0x11223344) ∷
      page 0x1e (hex 4 0x11223344) ∷ [];
  state = Active;
}

-- Reserved and block bits lock nothing, page 28h at 00h,F0h,FFh,FFh: WRITE 10h, 27h, 28h and 2Bh are 0.
abbrev pub reserved_lock_nothing : Case
reserved_lock_nothing = record {
  image = patched base (page 0x28 (hex 4 0x00f0ffff) ∷ []);
  lines =
      to_active ++ (
      sent (hex 8 0xa210_11223344_14fa) 0 ack ∷
      sent (hex 8 0xa227_55667788_3332) 0 ack ∷
      sent (hex 8 0xa228_00000000_9685) 0 ack ∷
      sent (hex 8 0xa22b_99aabbcc_fd21) 0 ack ∷ []);
  changed = page 0x10 (hex 4 0x11223344) ∷ page 0x27 (hex 4 0x55667788) ∷ page 0x2b (hex 4 0x99aabbcc) ∷ [];
  state = Active;
}

unfoldable pub pair_lock_cases : List Case
pair_lock_cases =
    pair_locks_set ∷ pair_locks_all ∷ pair_reserved_kept ∷ pair_locks_stay ∷ pair_locks_again ∷ pair_block_bits ∷ pair_block_bit0 ∷
    pair_block_bit1 ∷ pair_block_bit2 ∷ pair_block_bit3 ∷ pair_block_bit4 ∷ pair_block_bit5 ∷ pair_frozen_kept ∷ pair_lock_holds ∷
    pair_lock10 ∷ pair_lock_1e ∷ pair_lock20 ∷ pair_lock26 ∷ pair_lock_each ∷ pair_byte2_only ∷ pair_byte3_only ∷ reserved_lock_nothing ∷ []

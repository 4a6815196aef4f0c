-- Bench cases: WRITE of user pages and OTP, and lock bytes 0 and 1, of page 02h.
--
--     lock_cases     the cases
--
-- tools/cases.py works every value out; Themes.antt joins the lists. Assumes nothing.
use Rattle.std.specs.Prelude.{List, [], ◌∷◌, ◌++◌}
use Rattle.model.specs.declared.State.TheVariants.{Waiting, Active}
use Rattle.model.specs.Frame.{nibble, bytes}
use Rattle.model.specs.CaseImages.{hex, page, patched, base}
use Rattle.model.specs.CaseForm.{Case, selected, to_active, sent, stopped, ack}

-- ---- from here on written by tools/cases.py

-- WRITE 04h and 27h store the bytes as sent; the next frame reads them.
abbrev pub user_page : Case
user_page = record {
  image = base;
  lines =
      to_active ++ (
      sent (hex 8 0xa204_00ff5aa5_e488) 0 ack ∷
      sent (hex 8 0xa227_80402010_c0f7) 0 ack ∷
      sent (hex 5 0x3a0405_0d60) 0 (bytes (hex 10 0x00ff5aa5_05fa2442_3cca)) ∷ []);
  changed = page 0x04 (hex 4 0x00ff5aa5) ∷ page 0x27 (hex 4 0x80402010) ∷ [];
  state = Active;
}

-- OTP: each of the four bytes is old OR data.
abbrev pub otp_or : Case
otp_or = record {
  image = patched base (page 0x03 (hex 4 0x81422418) ∷ []);
  lines = to_active ++ (sent (hex 8 0xa203_12345678_1bc5) 0 ack ∷ []);
  changed = page 0x03 (hex 4 0x93767678) ∷ [];
  state = Active;
}

-- OTP locked: a write that would change nothing is 7 too.
abbrev pub otp_locked : Case
otp_locked = record {
  image = patched base (page 0x02 (hex 4 0x10480800) ∷ page 0x03 (hex 4 0xff0000ff) ∷ []);
  lines =
      to_active ++ (
      stopped 3 (hex 8 0xa203_00000000_eba2) 7 (nibble 0x0) ∷
      selected ∷ stopped 3 (hex 8 0xa203_ff0000ff_4168) 7 (nibble 0x0) ∷ []);
  changed = [];
  state = Waiting;
}

-- Lock bytes 01h,00h, write FFh,FFh: F7h,FFh. Data bytes 0 and 1, here FFh, are ignored.
abbrev pub block_bit0 : Case
block_bit0 = record {
  image = patched base (page 0x02 (hex 4 0x10480100) ∷ []);
  lines = to_active ++ (sent (hex 8 0xa202_ffffffff_365a) 0 ack ∷ []);
  changed = page 0x02 (hex 4 0x1048f7ff) ∷ [];
  state = Active;
}

-- Lock bytes 02h,00h, write FFh,FFh: 0Fh,FCh. Data bytes 0 and 1, here 00h, are ignored.
abbrev pub block_bit1 : Case
block_bit1 = record {
  image = patched base (page 0x02 (hex 4 0x10480200) ∷ []);
  lines = to_active ++ (sent (hex 8 0xa202_0000ffff_1759) 0 ack ∷ []);
  changed = page 0x02 (hex 4 0x10480ffc) ∷ [];
  state = Active;
}

-- Lock bytes 04h,00h, write FFh,FFh: FFh,03h.
abbrev pub block_bit2 : Case
block_bit2 = record {
  image = patched base (page 0x02 (hex 4 0x10480400) ∷ []);
  lines = to_active ++ (sent (hex 8 0xa202_a55affff_e465) 0 ack ∷ []);
  changed = page 0x02 (hex 4 0x1048ff03) ∷ [];
  state = Active;
}

-- Lock bytes 12h,01h, write FFh,FFh: frozen bits keep their value, set or not: 1Fh,FDh.
abbrev pub frozen_kept : Case
frozen_kept = record {
  image = patched base (page 0x02 (hex 4 0x10481201) ∷ []);
  lines = to_active ++ (sent (hex 8 0xa202_0000ffff_1759) 0 ack ∷ []);
  changed = page 0x02 (hex 4 0x10481ffd) ∷ [];
  state = Active;
}

-- Lock bytes 07h,00h, write F8h,FFh: every bit is frozen, and the write is 0.
abbrev pub all_frozen : Case
all_frozen = record {
  image = patched base (page 0x02 (hex 4 0x10480700) ∷ []);
  lines = to_active ++ (sent (hex 8 0xa202_fffff8ff_3e17) 0 ack ∷ []);
  changed = [];
  state = Active;
}

-- Lock bytes FFh,FFh: page 02h is not locked itself. A write of 00h,00h is 0, and clears nothing.
abbrev pub all_locked : Case
all_locked = record {
  image = patched base (page 0x02 (hex 4 0x1048ffff) ∷ []);
  lines = to_active ++ (sent (hex 8 0xa202_00000000_afa9) 0 ack ∷ []);
  changed = [];
  state = Active;
}

-- Lock bytes 88h,81h, write 88h,81h: a bit that is sent again stays.
abbrev pub lock_bits_again : Case
lock_bits_again = record {
  image = patched base (page 0x02 (hex 4 0x10488881) ∷ []);
  lines = to_active ++ (sent (hex 8 0xa202_00008881_227e) 0 ack ∷ []);
  changed = [];
  state = Active;
}

-- Lock bytes F0h,00h, write 0Fh,FFh: FFh,FFh. Only block bits freeze.
abbrev pub lock_bits_freeze_nothing : Case
lock_bits_freeze_nothing = record {
  image = patched base (page 0x02 (hex 4 0x1048f000) ∷ []);
  lines = to_active ++ (sent (hex 8 0xa202_00000fff_1f25) 0 ack ∷ []);
  changed = page 0x02 (hex 4 0x1048ffff) ∷ [];
  state = Active;
}

-- A lock bit holds from the next frame on: WRITE 02h with 10h,00h, then WRITE 04h: 7.
abbrev pub lock_holds : Case
lock_holds = record {
  image = base;
  lines = to_active ++ (sent (hex 8 0xa202_00001000_3e3c) 0 ack ∷ stopped 3 (hex 8 0xa204_11223344_4463) 7 (nibble 0x0) ∷ []);
  changed = page 0x02 (hex 4 0x10481000) ∷ [];
  state = Waiting;
}

-- Lock bytes 07h,00h: WRITE 03h, 04h and 0Ah are 0.
abbrev pub block_bits_lock_nothing : Case
block_bits_lock_nothing = record {
  image = patched base (page 0x02 (hex 4 0x10480700) ∷ []);
  lines =
      to_active ++ (
      sent (hex 8 0xa203_01020304_a467) 0 ack ∷
      sent (hex 8 0xa204_11223344_4463) 0 ack ∷
      sent (hex 8 0xa20a_55667788_d62e) 0 ack ∷ []);
  changed = page 0x03 (hex 4 0x01020304) ∷ page 0x04 (hex 4 0x11223344) ∷ page 0x0a (hex 4 0x55667788) ∷ [];
  state = Active;
}

-- Lock bytes 10h,00h: WRITE 04h is 7, 03h and 05h are 0.
abbrev pub lock04 : Case
lock04 = record {
  image = patched base (page 0x02 (hex 4 0x10481000) ∷ []);
  lines =
      to_active ++ (
      sent (hex 8 0xa203_01020304_a467) 0 ack ∷
      sent (hex 8 0xa205_11223344_0068) 0 ack ∷
      stopped 3 (hex 8 0xa204_11223344_4463) 7 (nibble 0x0) ∷ []);
  changed = page 0x03 (hex 4 0x01020304) ∷ page 0x05 (hex 4 0x11223344) ∷ [];
  state = Waiting;
}

-- Lock bytes 80h,00h: WRITE 07h is 7, 06h and 08h are 0.
abbrev pub lock07 : Case
lock07 = record {
  image = patched base (page 0x02 (hex 4 0x10488000) ∷ []);
  lines =
      to_active ++ (
      sent (hex 8 0xa206_01020304_f041) 0 ack ∷
      sent (hex 8 0xa208_11223344_7414) 0 ack ∷
      stopped 3 (hex 8 0xa207_11223344_887e) 7 (nibble 0x0) ∷ []);
  changed = page 0x06 (hex 4 0x01020304) ∷ page 0x08 (hex 4 0x11223344) ∷ [];
  state = Waiting;
}

-- Lock bytes 00h,01h: WRITE 08h is 7, 07h and 09h are 0.
abbrev pub lock08 : Case
lock08 = record {
  image = patched base (page 0x02 (hex 4 0x10480001) ∷ []);
  lines =
      to_active ++ (
      sent (hex 8 0xa207_01020304_b44a) 0 ack ∷
      sent (hex 8 0xa209_11223344_301f) 0 ack ∷
      stopped 3 (hex 8 0xa208_11223344_7414) 7 (nibble 0x0) ∷ []);
  changed = page 0x07 (hex 4 0x01020304) ∷ page 0x09 (hex 4 0x11223344) ∷ [];
  state = Waiting;
}

-- Lock bytes 00h,80h: WRITE 0Fh is 7, 0Eh and 10h are 0.
abbrev pub lock_0f : Case
lock_0f = record {
  image = patched base (page 0x02 (hex 4 0x10480080) ∷ []);
  lines =
      to_active ++ (
      sent (hex 8 0xa20e_01020304_d01b) 0 ack ∷
      sent (hex 8 0xa210_11223344_14fa) 0 ack ∷
      stopped 3 (hex 8 0xa20f_11223344_a824) 7 (nibble 0x0) ∷ []);
  changed = page 0x0e (hex 4 0x01020304) ∷ page 0x10 (hex 4 0x11223344) ∷ [];
  state = Waiting;
}

-- Lock bytes F8h,FFh: WRITE 03h to 0Fh are 7 each.
abbrev pub lock_each : Case
lock_each = record {
  image = patched base (page 0x02 (hex 4 0x1048f8ff) ∷ []);
  lines =
      to_active ++ (
      stopped 3 (hex 8 0xa203_11223344_9853) 7 (nibble 0x0) ∷
      selected ∷ stopped 3 (hex 8 0xa204_11223344_4463) 7 (nibble 0x0) ∷
      selected ∷ stopped 3 (hex 8 0xa205_11223344_0068) 7 (nibble 0x0) ∷
      selected ∷ stopped 3 (hex 8 0xa206_11223344_cc75) 7 (nibble 0x0) ∷
      selected ∷ stopped 3 (hex 8 0xa207_11223344_887e) 7 (nibble 0x0) ∷
      selected ∷ stopped 3 (hex 8 0xa208_11223344_7414) 7 (nibble 0x0) ∷
      selected ∷ stopped 3 (hex 8 0xa209_11223344_301f) 7 (nibble 0x0) ∷
      selected ∷ stopped 3 (hex 8 0xa20a_11223344_fc02) 7 (nibble 0x0) ∷
      selected ∷ stopped 3 (hex 8 0xa20b_11223344_b809) 7 (nibble 0x0) ∷
      selected ∷ stopped 3 (hex 8 0xa20c_11223344_6439) 7 (nibble 0x0) ∷
      selected ∷ stopped 3 (hex 8 0xa20d_11223344_2032) 7 (nibble 0x0) ∷
      selected ∷ stopped 3 (hex 8 0xa20e_11223344_ec2f) 7 (nibble 0x0) ∷
      selected ∷ stopped 3 (hex 8 0xa20f_11223344_a824) 7 (nibble 0x0) ∷ []);
  changed = [];
  state = Waiting;
}

-- Lock bytes F8h,00h: WRITE 08h to 0Fh are 0.
abbrev pub lock_byte0_only : Case
lock_byte0_only = record {
  image = patched base (page 0x02 (hex 4 0x1048f800) ∷ []);
  lines =
      to_active ++ (
      sent (hex 8 0xa208_11223344_7414) 0 ack ∷
      sent (hex 8 0xa209_11223344_301f) 0 ack ∷
      sent (hex 8 0xa20a_11223344_fc02) 0 ack ∷
      sent (hex 8 0xa20b_11223344_b809) 0 ack ∷
      sent (hex 8 0xa20c_11223344_6439) 0 ack ∷
      sent (hex 8 0xa20d_11223344_2032) 0 ack ∷
      sent (hex 8 0xa20e_11223344_ec2f) 0 ack ∷
      sent (hex 8 0xa20f_11223344_a824) 0 ack ∷ []);
  changed = page 0x08 (hex 32 0x11223344_11223344_11223344_11223344_11223344_11223344_11223344_11223344) ∷ [];
  state = Active;
}

-- Lock bytes 00h,FFh: WRITE 03h to 07h are 0.
abbrev pub lock_byte1_only : Case
lock_byte1_only = record {
  image = patched base (page 0x02 (hex 4 0x104800ff) ∷ []);
  lines =
      to_active ++ (
      sent (hex 8 0xa203_11223344_9853) 0 ack ∷
      sent (hex 8 0xa204_11223344_4463) 0 ack ∷
      sent (hex 8 0xa205_11223344_0068) 0 ack ∷
      sent (hex 8 0xa206_11223344_cc75) 0 ack ∷
      sent (hex 8 0xa207_11223344_887e) 0 ack ∷ []);
  changed = page 0x03 (hex 20 0x11223344_11223344_11223344_11223344_11223344) ∷ [];
  state = Active;
}

unfoldable pub lock_cases : List Case
lock_cases =
    user_page ∷ otp_or ∷ otp_locked ∷ block_bit0 ∷ block_bit1 ∷ block_bit2 ∷ frozen_kept ∷ all_frozen ∷ all_locked ∷ lock_bits_again ∷
    lock_bits_freeze_nothing ∷ lock_holds ∷ block_bits_lock_nothing ∷ lock04 ∷ lock07 ∷ lock08 ∷ lock_0f ∷ lock_each ∷ lock_byte0_only ∷
    lock_byte1_only ∷ []

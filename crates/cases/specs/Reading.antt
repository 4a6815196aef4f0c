-- Bench cases: READ and FAST_READ, PROT and AUTH0 in reading, what Random ID and the key pages show.
--
--     reading_cases     the cases
--
-- tools/cases.py works every value out; Themes.antt joins the lists. Assumes nothing.
use Rattle.std.specs.Prelude.{List, [], ◌∷◌, ◌++◌}
use Rattle.model.specs.declared.State.TheVariants.{Waiting, Active}
use Rattle.model.specs.Frame.{nibble, bytes}
use Rattle.model.specs.CaseImages.{hex, page, patched, base}
use Rattle.model.specs.CaseForm.{Case, selected, to_active, sent, stopped, ack}

-- ---- from here on written by tools/cases.py

-- READ 00h in ACTIVE without Random ID shows all.
abbrev pub read_serial : Case
read_serial = record {
  image = patched base (page 0x02 (hex 4 0x10481020) ∷ page 0x03 (hex 4 0x0f1e2d3c) ∷ []);
  lines = to_active ++ (sent (hex 4 0x3000_02a8) 0 (bytes (hex 18 0x04512cf1_5a93c71e_10481020_0f1e2d3c_398d)) ∷ []);
  changed = [];
  state = Active;
}

-- READ 3Ch and FFh: 5.
abbrev pub read_past_end : Case
read_past_end = record {
  image = base;
  lines = to_active ++ (sent (hex 4 0x303c_ed53) 5 (nibble 0x0) ∷ selected ∷ sent (hex 4 0x30ff_7aa7) 5 (nibble 0x0) ∷ []);
  changed = [];
  state = Waiting;
}

-- READ 39h, 3Ah and 3Bh continue at page 00h behind page 3Bh.
abbrev pub read_wraps : Case
read_wraps = record {
  image = patched base (page 0x03 (hex 4 0x0f1e2d3c) ∷ page 0x28 (hex 4 0x00000028) ∷ page 0x2d (hex 4 0x0000002d) ∷ []);
  lines =
      to_active ++ (
      sent (hex 4 0x3039_4004) 0 (bytes (hex 18 0x39c69513_3ac59c20_3bc4a32d_04512cf1_65e7)) ∷
      sent (hex 4 0x303a_db36) 0 (bytes (hex 18 0x3ac59c20_3bc4a32d_04512cf1_5a93c71e_c622)) ∷
      sent (hex 4 0x303b_5227) 0 (bytes (hex 18 0x3bc4a32d_04512cf1_5a93c71e_10480000_477e)) ∷ []);
  changed = [];
  state = Active;
}

-- AUTH0 04h with PROT: READ 03h, 02h and 01h continue at page 00h behind page 03h, READ 00h fits, READ 04h is 6.
abbrev pub read_wraps_at_auth0 : Case
read_wraps_at_auth0 = record {
  image =
      patched base (
      page 0x03 (hex 4 0x0f1e2d3c) ∷
      page 0x28 (hex 4 0x00000028) ∷
      page 0x2d (hex 4 0x0000002d) ∷
      page 0x29 (hex 4 0x00000004) ∷
      page 0x2a (hex 4 0x8c050000) ∷ []);
  lines =
      to_active ++ (
      sent (hex 4 0x3003_999a) 0 (bytes (hex 18 0x0f1e2d3c_04512cf1_5a93c71e_10480000_0443)) ∷
      sent (hex 4 0x3002_108b) 0 (bytes (hex 18 0x10480000_0f1e2d3c_04512cf1_5a93c71e_7c49)) ∷
      sent (hex 4 0x3001_8bb9) 0 (bytes (hex 18 0x5a93c71e_10480000_0f1e2d3c_04512cf1_f292)) ∷
      sent (hex 4 0x3000_02a8) 0 (bytes (hex 18 0x04512cf1_5a93c71e_10480000_0f1e2d3c_18af)) ∷
      sent (hex 4 0x3004_26ee) 6 (nibble 0x0) ∷ []);
  changed = [];
  state = Waiting;
}

-- AUTH0 03h with PROT: READ 02h begins again at page 02h.
abbrev pub read_wraps_at03 : Case
read_wraps_at03 = record {
  image =
      patched base (
      page 0x03 (hex 4 0x0f1e2d3c) ∷
      page 0x28 (hex 4 0x00000028) ∷
      page 0x2d (hex 4 0x0000002d) ∷
      page 0x29 (hex 4 0x00000003) ∷
      page 0x2a (hex 4 0x8c050000) ∷ []);
  lines =
      to_active ++ (
      sent (hex 4 0x3002_108b) 0 (bytes (hex 18 0x10480000_04512cf1_5a93c71e_10480000_9392)) ∷
      sent (hex 4 0x3000_02a8) 0 (bytes (hex 18 0x04512cf1_5a93c71e_10480000_04512cf1_8d27)) ∷ []);
  changed = [];
  state = Active;
}

-- AUTH0 02h with PROT: READ 01h continues at page 00h twice, READ 00h once, READ 02h is 6.
abbrev pub read_wraps_twice : Case
read_wraps_twice = record {
  image =
      patched base (
      page 0x03 (hex 4 0x0f1e2d3c) ∷
      page 0x28 (hex 4 0x00000028) ∷
      page 0x2d (hex 4 0x0000002d) ∷
      page 0x29 (hex 4 0x00000002) ∷
      page 0x2a (hex 4 0x8c050000) ∷ []);
  lines =
      to_active ++ (
      sent (hex 4 0x3001_8bb9) 0 (bytes (hex 18 0x5a93c71e_04512cf1_5a93c71e_04512cf1_78d4)) ∷
      sent (hex 4 0x3000_02a8) 0 (bytes (hex 18 0x04512cf1_5a93c71e_04512cf1_5a93c71e_1368)) ∷
      sent (hex 4 0x3002_108b) 6 (nibble 0x0) ∷ []);
  changed = [];
  state = Waiting;
}

-- AUTH0 01h with PROT: READ 00h gives page 00h four times, READ 01h is 6.
abbrev pub read_one_page : Case
read_one_page = record {
  image =
      patched base (
      page 0x03 (hex 4 0x0f1e2d3c) ∷
      page 0x28 (hex 4 0x00000028) ∷
      page 0x2d (hex 4 0x0000002d) ∷
      page 0x29 (hex 4 0x00000001) ∷
      page 0x2a (hex 4 0x8c050000) ∷ []);
  lines =
      to_active ++ (
      sent (hex 4 0x3000_02a8) 0 (bytes (hex 18 0x04512cf1_04512cf1_04512cf1_04512cf1_d504)) ∷
      sent (hex 4 0x3001_8bb9) 6 (nibble 0x0) ∷ []);
  changed = [];
  state = Waiting;
}

-- AUTH0 00h with PROT: READ 00h, 38h and 3Bh are 6.
abbrev pub read_no_page : Case
read_no_page = record {
  image = patched base (page 0x29 (hex 4 0x00000000) ∷ page 0x2a (hex 4 0x8c050000) ∷ []);
  lines =
      to_active ++ (
      sent (hex 4 0x3000_02a8) 6 (nibble 0x0) ∷
      selected ∷ sent (hex 4 0x3038_c915) 6 (nibble 0x0) ∷
      selected ∷ sent (hex 4 0x303b_5227) 6 (nibble 0x0) ∷ []);
  changed = [];
  state = Waiting;
}

-- AUTH0 04h without PROT: READ 03h doesn't end at AUTH0, and READ 3Bh continues behind page 3Bh.
abbrev pub read_wraps_no_prot : Case
read_wraps_no_prot = record {
  image =
      patched base (
      page 0x03 (hex 4 0x0f1e2d3c) ∷
      page 0x28 (hex 4 0x00000028) ∷
      page 0x2d (hex 4 0x0000002d) ∷
      page 0x29 (hex 4 0x00000004) ∷ []);
  lines =
      to_active ++ (
      sent (hex 4 0x3003_999a) 0 (bytes (hex 18 0x0f1e2d3c_04fb1d35_05fa2442_06f92b4f_faa8)) ∷
      sent (hex 4 0x303b_5227) 0 (bytes (hex 18 0x3bc4a32d_04512cf1_5a93c71e_10480000_477e)) ∷ []);
  changed = [];
  state = Active;
}

-- Random ID on, ACTIVE: READ 39h and 3Bh show the nine bytes as zeros behind page 3Bh.
abbrev pub read_wraps_random_id : Case
read_wraps_random_id = record {
  image =
      patched base (
      page 0x03 (hex 4 0x0f1e2d3c) ∷
      page 0x28 (hex 4 0x00000028) ∷
      page 0x2d (hex 4 0x0000002d) ∷
      page 0x29 (hex 4 0x0100003c) ∷
      page 0x02 (hex 4 0x10481020) ∷ []);
  lines =
      to_active ++ (
      sent (hex 4 0x3039_4004) 0 (bytes (hex 18 0x39c69513_3ac59c20_3bc4a32d_00000000_2320)) ∷
      sent (hex 4 0x303b_5227) 0 (bytes (hex 18 0x3bc4a32d_00000000_00000000_00481020_8cba)) ∷ []);
  changed = [];
  state = Active;
}

-- The same before AUTH0 04h with PROT: READ 03h and 02h.
abbrev pub read_wraps_random_id_auth0 : Case
read_wraps_random_id_auth0 = record {
  image =
      patched base (
      page 0x03 (hex 4 0x0f1e2d3c) ∷
      page 0x28 (hex 4 0x00000028) ∷
      page 0x2d (hex 4 0x0000002d) ∷
      page 0x29 (hex 4 0x01000004) ∷
      page 0x2a (hex 4 0x8c050000) ∷
      page 0x02 (hex 4 0x10481020) ∷ []);
  lines =
      to_active ++ (
      sent (hex 4 0x3003_999a) 0 (bytes (hex 18 0x0f1e2d3c_00000000_00000000_00481020_cf87)) ∷
      sent (hex 4 0x3002_108b) 0 (bytes (hex 18 0x00481020_0f1e2d3c_00000000_00000000_c941)) ∷ []);
  changed = [];
  state = Active;
}

-- AUTH0 38h with PROT: READ 36h shows the key pages as zeros, then pages 00h and 01h.
abbrev pub read_wraps_keys : Case
read_wraps_keys = record {
  image =
      patched base (
      page 0x03 (hex 4 0x0f1e2d3c) ∷
      page 0x28 (hex 4 0x00000028) ∷
      page 0x2d (hex 4 0x0000002d) ∷
      page 0x29 (hex 4 0x00000038) ∷
      page 0x2a (hex 4 0x8c050000) ∷ []);
  lines = to_active ++ (sent (hex 4 0x3036_b7fc) 0 (bytes (hex 18 0x00000000_00000000_04512cf1_5a93c71e_7d83)) ∷ []);
  changed = [];
  state = Active;
}

-- FAST_READ 3Bh to 3Ch, 3Ch to 3Ch and 00h to FFh: 5.
abbrev pub fast_read_past_end : Case
fast_read_past_end = record {
  image = base;
  lines =
      to_active ++ (
      sent (hex 5 0x3a3b3c_25f9) 5 (nibble 0x0) ∷
      selected ∷ sent (hex 5 0x3a3c3c_2db4) 5 (nibble 0x0) ∷
      selected ∷ sent (hex 5 0x3a00ff_b85f) 5 (nibble 0x0) ∷ []);
  changed = [];
  state = Waiting;
}

-- FAST_READ 00h to 3Bh: all pages, reserved pages as stored and key pages as zeros.
abbrev pub fast_read_all : Case
fast_read_all = record {
  image = base;
  lines =
      to_active ++ (
      sent (hex 5 0x3a003b_90df) 0 (bytes (
      hex 16 0x04512cf1_5a93c71e_10480000_00000000 ++
      hex 16 0x04fb1d35_05fa2442_06f92b4f_07f8325c ++
      hex 16 0x08f73969_09f64076_0af54783_0bf44e90 ++
      hex 16 0x0cf3559d_0df25caa_0ef163b7_0ff06ac4 ++
      hex 16 0x10ef71d1_11ee78de_12ed7feb_13ec8607 ++
      hex 16 0x14eb8d14_15ea9421_16e99b2e_17e8a23b ++
      hex 16 0x18e7a948_19e6b055_1ae5b762_1be4be6f ++
      hex 16 0x1ce3c57c_1de2cc89_1ee1d396_1fe0daa3 ++
      hex 16 0x20dfe1b0_21dee8bd_22ddefca_23dcf6d7 ++
      hex 16 0x24db02e4_25da09f1_26d9100d_27d8171a ++
      hex 16 0x00000000_0000003c_0c050000_2bd4334e ++
      hex 16 0x2cd33a5b_00000000_2ed14875_2fd04f82 ++
      hex 16 0x00000000_00000000_00000000_00000000 ++
      hex 16 0x00000000_00000000_00000000_00000000 ++
      hex 16 0x38c78e06_39c69513_3ac59c20_3bc4a32d ++
      hex 2 0x8b5a)) ∷ []);
  changed = [];
  state = Active;
}

-- Byte 3 of page 28h reads as stored (D10).
abbrev pub reserved_byte : Case
reserved_byte = record {
  image = patched base (page 0x28 (hex 4 0x0102045a) ∷ []);
  lines = to_active ++ (sent (hex 5 0x3a2828_7910) 0 (bytes (hex 6 0x0102045a_bc65)) ∷ []);
  changed = [];
  state = Active;
}

-- Random ID on, ACTIVE: READ 00h shows nine zero bytes, then the internal byte, the lock bytes and OTP.
abbrev pub random_id : Case
random_id = record {
  image = patched base (page 0x29 (hex 4 0x0100003c) ∷ page 0x02 (hex 4 0x10481020) ∷ page 0x03 (hex 4 0x0f1e2d3c) ∷ []);
  lines = to_active ++ (sent (hex 4 0x3000_02a8) 0 (bytes (hex 18 0x00000000_00000000_00481020_0f1e2d3c_2f3d)) ∷ []);
  changed = [];
  state = Active;
}

-- Random ID on, ACTIVE: the same in FAST_READ, wherever it starts.
abbrev pub random_id_fast_read : Case
random_id_fast_read = record {
  image = patched base (page 0x29 (hex 4 0x0100003c) ∷ page 0x02 (hex 4 0x10481020) ∷ []);
  lines =
      to_active ++ (
      sent (hex 5 0x3a0002_d273) 0 (bytes (hex 14 0x00000000_00000000_00481020_255e)) ∷
      sent (hex 5 0x3a0101_9158) 0 (bytes (hex 6 0x00000000_0056)) ∷
      sent (hex 5 0x3a0202_6240) 0 (bytes (hex 6 0x00481020_2722)) ∷ []);
  changed = [];
  state = Active;
}

-- CFG_0 byte 0 at FEh: Random ID is off, and READ 00h shows all.
abbrev pub other_bits_no_random_id : Case
other_bits_no_random_id = record {
  image = patched base (page 0x29 (hex 4 0xfe00003c) ∷ []);
  lines = to_active ++ (sent (hex 4 0x3000_02a8) 0 (bytes (hex 18 0x04512cf1_5a93c71e_10480000_00000000_cbe0)) ∷ []);
  changed = [];
  state = Active;
}

-- Key pages read as zeros, in READ and in FAST_READ; the pages beside them show.
abbrev pub key_pages : Case
key_pages = record {
  image = base;
  lines =
      to_active ++ (
      sent (hex 4 0x3030_8199) 0 (bytes (hex 18 0x00000000_00000000_00000000_00000000_3749)) ∷
      sent (hex 5 0x3a2f38_f04d) 0
      (bytes (hex 42 0x2fd04f82_00000000_00000000_00000000_00000000_00000000_00000000_00000000_00000000_38c78e06_3ae6)) ∷ []);
  changed = [];
  state = Active;
}

-- AUTH0 10h with PROT: READ 0Ch ends before AUTH0, READ 0Dh and 0Fh continue at page 00h, READ 10h is 6.
abbrev pub read_across_auth0 : Case
read_across_auth0 = record {
  image = patched base (page 0x29 (hex 4 0x00000010) ∷ page 0x2a (hex 4 0x8c050000) ∷ []);
  lines =
      to_active ++ (
      sent (hex 4 0x300c_6e62) 0 (bytes (hex 18 0x0cf3559d_0df25caa_0ef163b7_0ff06ac4_5e83)) ∷
      sent (hex 4 0x300d_e773) 0 (bytes (hex 18 0x0df25caa_0ef163b7_0ff06ac4_04512cf1_5ea9)) ∷
      sent (hex 4 0x300f_f550) 0 (bytes (hex 18 0x0ff06ac4_04512cf1_5a93c71e_10480000_8617)) ∷
      sent (hex 4 0x3010_83b8) 6 (nibble 0x0) ∷ []);
  changed = [];
  state = Waiting;
}

-- AUTH0 10h with PROT: FAST_READ 0Bh to 0Fh is 0, 0Fh to 10h is 6.
abbrev pub fast_read_across_auth0 : Case
fast_read_across_auth0 = record {
  image = patched base (page 0x29 (hex 4 0x00000010) ∷ page 0x2a (hex 4 0x8c050000) ∷ []);
  lines =
      to_active ++ (
      sent (hex 5 0x3a0b0f_9f4c) 0 (bytes (hex 22 0x0bf44e90_0cf3559d_0df25caa_0ef163b7_0ff06ac4_6541)) ∷
      sent (hex 5 0x3a0f10_89c3) 6 (nibble 0x0) ∷ []);
  changed = [];
  state = Waiting;
}

-- AUTH0 04h without PROT: READ 04h and FAST_READ 3Bh to 3Bh are 0.
abbrev pub prot_off : Case
prot_off = record {
  image = patched base (page 0x29 (hex 4 0x00000004) ∷ []);
  lines =
      to_active ++ (
      sent (hex 4 0x3004_26ee) 0 (bytes (hex 18 0x04fb1d35_05fa2442_06f92b4f_07f8325c_8919)) ∷
      sent (hex 5 0x3a3b3b_9a8d) 0 (bytes (hex 6 0x3bc4a32d_6ccc)) ∷ []);
  changed = [];
  state = Active;
}

-- AUTH0 04h and CFG_1 byte 0 at 7Fh, all but PROT: READ 04h and FAST_READ 04h to 04h are 0.
abbrev pub other_bits_no_prot : Case
other_bits_no_prot = record {
  image = patched base (page 0x29 (hex 4 0x00000004) ∷ page 0x2a (hex 4 0x7f050000) ∷ []);
  lines =
      to_active ++ (
      sent (hex 4 0x3004_26ee) 0 (bytes (hex 18 0x04fb1d35_05fa2442_06f92b4f_07f8325c_8919)) ∷
      sent (hex 5 0x3a0404_8471) 0 (bytes (hex 6 0x04fb1d35_b9c2)) ∷ []);
  changed = [];
  state = Active;
}

-- AUTH0 3Bh with PROT: FAST_READ 38h to 3Ah is 0, READ 38h continues at page 00h behind 3Ah, READ 3Bh is 6.
abbrev pub auth0_last_page : Case
auth0_last_page = record {
  image = patched base (page 0x29 (hex 4 0x0000003b) ∷ page 0x2a (hex 4 0x8c050000) ∷ []);
  lines =
      to_active ++ (
      sent (hex 5 0x3a383a_7bb6) 0 (bytes (hex 14 0x38c78e06_39c69513_3ac59c20_acf6)) ∷
      sent (hex 4 0x3038_c915) 0 (bytes (hex 18 0x38c78e06_39c69513_3ac59c20_04512cf1_a2a8)) ∷
      sent (hex 4 0x303b_5227) 6 (nibble 0x0) ∷ []);
  changed = [];
  state = Waiting;
}

-- AUTH0 3Ch with PROT protects nothing: READ 38h is 0, and READ 3Bh continues behind page 3Bh.
abbrev pub auth0_past_end : Case
auth0_past_end = record {
  image = patched base (page 0x2a (hex 4 0x8c050000) ∷ []);
  lines =
      to_active ++ (
      sent (hex 4 0x3038_c915) 0 (bytes (hex 18 0x38c78e06_39c69513_3ac59c20_3bc4a32d_88f5)) ∷
      sent (hex 4 0x303b_5227) 0 (bytes (hex 18 0x3bc4a32d_04512cf1_5a93c71e_10480000_477e)) ∷ []);
  changed = [];
  state = Active;
}

-- BCh in AUTH0's byte is AUTH0 3Ch: with PROT, READ 38h and WRITE 3Bh are 0.
abbrev pub auth0_high_bit : Case
auth0_high_bit = record {
  image = patched base (page 0x29 (hex 4 0x000000bc) ∷ page 0x2a (hex 4 0x8c050000) ∷ []);
  lines =
      to_active ++ (
      sent (hex 4 0x3038_c915) 0 (bytes (hex 18 0x38c78e06_39c69513_3ac59c20_3bc4a32d_88f5)) ∷
      sent (hex 8 0xa23b_11223344_69dd) 0 ack ∷ []);
  changed = page 0x3b (hex 4 0x11223344) ∷ [];
  state = Active;
}

-- 84h in AUTH0's byte is AUTH0 04h: with PROT, READ 01h continues at page 00h, READ 04h and WRITE 04h are 6.
abbrev pub auth0_high_bit_low : Case
auth0_high_bit_low = record {
  image = patched base (page 0x29 (hex 4 0x00000084) ∷ page 0x2a (hex 4 0x8c050000) ∷ page 0x03 (hex 4 0x0f1e2d3c) ∷ []);
  lines =
      to_active ++ (
      sent (hex 4 0x3001_8bb9) 0 (bytes (hex 18 0x5a93c71e_10480000_0f1e2d3c_04512cf1_f292)) ∷
      sent (hex 4 0x3004_26ee) 6 (nibble 0x0) ∷
      selected ∷ stopped 1 (hex 8 0xa204_11223344_4463) 6 (nibble 0x0) ∷ []);
  changed = [];
  state = Waiting;
}

-- AUTH0 00h with PROT: READ 3Ch, FAST_READ 05h to 04h and 00h to 3Ch are 5, READ 00h is 6.
abbrev pub range_before_prot : Case
range_before_prot = record {
  image = patched base (page 0x29 (hex 4 0x00000000) ∷ page 0x2a (hex 4 0x8c050000) ∷ []);
  lines =
      to_active ++ (
      sent (hex 4 0x303c_ed53) 5 (nibble 0x0) ∷
      selected ∷ sent (hex 5 0x3a0504_5c68) 5 (nibble 0x0) ∷
      selected ∷ sent (hex 5 0x3a003c_2fab) 5 (nibble 0x0) ∷
      selected ∷ sent (hex 4 0x3000_02a8) 6 (nibble 0x0) ∷ []);
  changed = [];
  state = Waiting;
}

-- Key pages under PROT, AUTH0 30h: READ 2Ch is 0, READ 30h and FAST_READ 37h to 37h are 6.
abbrev pub key_pages_prot : Case
key_pages_prot = record {
  image = patched base (page 0x29 (hex 4 0x00000030) ∷ page 0x2a (hex 4 0x8c050000) ∷ []);
  lines =
      to_active ++ (
      sent (hex 4 0x302c_6c43) 0 (bytes (hex 18 0x2cd33a5b_00000000_2ed14875_2fd04f82_c9f2)) ∷
      sent (hex 4 0x3030_8199) 6 (nibble 0x0) ∷
      selected ∷ sent (hex 5 0x3a3737_56ee) 6 (nibble 0x0) ∷ []);
  changed = [];
  state = Waiting;
}

unfoldable pub reading_cases : List Case
reading_cases =
    read_serial ∷ read_past_end ∷ read_wraps ∷ read_wraps_at_auth0 ∷ read_wraps_at03 ∷ read_wraps_twice ∷ read_one_page ∷ read_no_page ∷
    read_wraps_no_prot ∷ read_wraps_random_id ∷ read_wraps_random_id_auth0 ∷ read_wraps_keys ∷ fast_read_past_end ∷ fast_read_all ∷
    reserved_byte ∷ random_id ∷ random_id_fast_read ∷ other_bits_no_random_id ∷ key_pages ∷ read_across_auth0 ∷ fast_read_across_auth0 ∷
    prot_off ∷ other_bits_no_prot ∷ auth0_last_page ∷ auth0_past_end ∷ auth0_high_bit ∷ auth0_high_bit_low ∷ range_before_prot ∷
    key_pages_prot ∷ []

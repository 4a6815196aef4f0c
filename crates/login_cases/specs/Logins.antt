-- Bench cases: AUTHENTICATE, 009 Table 17's login, logins after 8.6.3's WRITEs, and the failed count.
--
--     login_cases     the cases
--     LoginsRight    each of them is right
--
-- tools/cases.py works every value out. What a row says and when it is right is in model/specs/CaseForm.antt. proofs/Logins.antt proves the
-- statement by computing. Assumes nothing.
use Rattle.std.specs.Prelude.{List, [], ◌∷◌, ◌++◌, T}
use Rattle.model.specs.declared.State.TheVariants.{Waiting, Active, Traceable, Authenticated}
use Rattle.model.specs.Frame.{silence, nibble, bytes}
use Rattle.model.specs.CaseImages.{hex, page, failed, patched, base}
use Rattle.model.specs.CaseForm.{Case, selected, to_active, sent_with, sent, ack, all_right}

-- ---- from here on written by tools/cases.py

-- 009 Table 17 in full: the login with the key of zeros.
abbrev pub table17 : Case
table17 = record {
  image = patched base (page 0x30 (hex 16 0x00000000_00000000_00000000_00000000) ∷ []);
  lines =
      to_active ++ (
      sent_with (hex 16 0x1ae4174ca173ebbc59165cebe2f20821) (hex 4 0x1a00_4176) 0
      (bytes (hex 19 0xaf_d5a847b84862ff3874a7f07b8ddf351b_87e7)) ∷
      sent (hex 35 0xaf_cdf22c5f7a92f0af0155612b9b236ac7_a424bc5238d41ad041b8165b7d99e524_334a) 0
      (bytes (hex 19 0x00_2c743d6b1e128f8076bd197b76012ce8_6bb3)) ∷ []);
  changed = [];
  state = Authenticated;
}

-- 8.6.3's WRITEs of the key 000102..0F as DataProtKey, and a login with it; the count 20 is lowered by 16.
abbrev pub data_prot_key : Case
data_prot_key = record {
  image = patched base (page 0x2a (hex 4 0x0c052800) ∷ failed (hex 2 0x1400) ∷ []);
  lines =
      to_active ++ (
      sent (hex 8 0xa230_0f0e0d0c_00b3) 0 ack ∷
      sent (hex 8 0xa231_0b0a0908_8d88) 0 ack ∷
      sent (hex 8 0xa232_07060504_1ac4) 0 ack ∷
      sent (hex 8 0xa233_03020100_97ff) 0 ack ∷
      sent_with (hex 16 0x00112233445566778899aabbccddeeff) (hex 4 0x1a00_4176) 0
      (bytes (hex 19 0xaf_69c4e0d86a7b0430d8cdb78070b4c55a_bd17)) ∷
      sent (hex 35 0xaf_d9a6bbd6a82ee3538996b6a5380f7471_a9e3884be8e963b25da88f2e4341416e_58ec) 0
      (bytes (hex 19 0x00_09b1e7e8455112e5d3ebcab3ff8c90dc_df12)) ∷ []);
  changed = page 0x30 (hex 16 0x0f0e0d0c_0b0a0908_07060504_03020100) ∷ failed (hex 2 0x0400) ∷ [];
  state = Authenticated;
}

-- The same as UIDRetrKey, with Random ID on: TRACEABLE shows the serial number. The count 5 is set to 0.
abbrev pub uid_retr_key : Case
uid_retr_key = record {
  image = patched base (page 0x2a (hex 4 0x0c052800) ∷ page 0x29 (hex 4 0x0100003c) ∷ failed (hex 2 0x0500) ∷ []);
  lines =
      to_active ++ (
      sent (hex 8 0xa234_0f0e0d0c_109e) 0 ack ∷
      sent (hex 8 0xa235_0b0a0908_9da5) 0 ack ∷
      sent (hex 8 0xa236_07060504_0ae9) 0 ack ∷
      sent (hex 8 0xa237_03020100_87d2) 0 ack ∷
      sent_with (hex 16 0x00112233445566778899aabbccddeeff) (hex 4 0x1a01_c867) 0
      (bytes (hex 19 0xaf_69c4e0d86a7b0430d8cdb78070b4c55a_bd17)) ∷
      sent (hex 35 0xaf_d9a6bbd6a82ee3538996b6a5380f7471_a9e3884be8e963b25da88f2e4341416e_58ec) 0
      (bytes (hex 19 0x00_09b1e7e8455112e5d3ebcab3ff8c90dc_df12)) ∷
      sent (hex 5 0x3a0002_d273) 0 (bytes (hex 14 0x04512cf1_5a93c71e_10480000_ee9a)) ∷ []);
  changed = page 0x34 (hex 16 0x0f0e0d0c_0b0a0908_07060504_03020100) ∷ failed (hex 2 0x0000) ∷ [];
  state = Traceable;
}

-- A proof whose last bit is wrong, AUTH_LIM 0102h: 8, and the count goes from 0101h to 0102h. The next frame is 1.
abbrev pub false_proof : Case
false_proof = record {
  image =
      patched base (
      page 0x30 (hex 16 0x00000000_00000000_00000000_00000000) ∷
      page 0x2a (hex 4 0x0c050201) ∷
      failed (hex 2 0x0101) ∷ []);
  lines =
      to_active ++ (
      sent_with (hex 16 0x1ae4174ca173ebbc59165cebe2f20821) (hex 4 0x1a00_4176) 0
      (bytes (hex 19 0xaf_d5a847b84862ff3874a7f07b8ddf351b_87e7)) ∷
      sent (hex 35 0xaf_cdf22c5f7a92f0af0155612b9b236ac7_37c3e1ee82f4fc1c007ef3dcbc3d1674_6098) 8 (nibble 0x0) ∷
      sent (hex 4 0x3004_26ee) 1 silence ∷ []);
  changed = failed (hex 2 0x0201) ∷ [];
  state = Waiting;
}

-- AUTH0 04h with PROT: READ 03h continues at page 00h; after a login READ 02h, 03h and 04h don't end at AUTH0.
abbrev pub read_after_login : Case
read_after_login = record {
  image =
      patched base (
      page 0x03 (hex 4 0x0f1e2d3c) ∷
      page 0x28 (hex 4 0x00000028) ∷
      page 0x2d (hex 4 0x0000002d) ∷
      page 0x29 (hex 4 0x00000004) ∷
      page 0x2a (hex 4 0x8c050000) ∷ []);
  lines =
      to_active ++ (
      sent (hex 4 0x3003_999a) 0 (bytes (hex 18 0x0f1e2d3c_04512cf1_5a93c71e_10480000_0443)) ∷
      sent_with (hex 16 0x1ae4174ca173ebbc59165cebe2f20821) (hex 4 0x1a00_4176) 0
      (bytes (hex 19 0xaf_883679599e5ee5f1e70be41b96490f11_63b9)) ∷
      sent (hex 35 0xaf_2dc2aa5890d43381bd4b2a035bbcc062_3944bacffed8494c169d15264159e923_7cf8) 0
      (bytes (hex 19 0x00_f7e413c375ed882ab501f816e221f897_fd6d)) ∷
      sent (hex 4 0x3002_108b) 0 (bytes (hex 18 0x10480000_0f1e2d3c_04fb1d35_05fa2442_8d45)) ∷
      sent (hex 4 0x3003_999a) 0 (bytes (hex 18 0x0f1e2d3c_04fb1d35_05fa2442_06f92b4f_faa8)) ∷
      sent (hex 4 0x3004_26ee) 0 (bytes (hex 18 0x04fb1d35_05fa2442_06f92b4f_07f8325c_8919)) ∷ []);
  changed = [];
  state = Authenticated;
}

-- Table 17's proof with one bit changed and the CRC kept, AUTH_LIM 0102h: 2, and the count stays.
abbrev pub garbled_proof : Case
garbled_proof = record {
  image =
      patched base (
      page 0x30 (hex 16 0x00000000_00000000_00000000_00000000) ∷
      page 0x2a (hex 4 0x0c050201) ∷
      failed (hex 2 0x0101) ∷ []);
  lines =
      to_active ++ (
      sent_with (hex 16 0x1ae4174ca173ebbc59165cebe2f20821) (hex 4 0x1a00_4176) 0
      (bytes (hex 19 0xaf_d5a847b84862ff3874a7f07b8ddf351b_87e7)) ∷
      sent (hex 35 0xaf_cdf22c5f7a92f0af0155612b9b236ac7_a424bc4238d41ad041b8165b7d99e524_334a) 2 (nibble 0x1) ∷ []);
  changed = [];
  state = Waiting;
}

-- The count at AUTH_LIM: 11 at part 1.
abbrev pub count_at_limit : Case
count_at_limit = record {
  image = patched base (page 0x2a (hex 4 0x0c050201) ∷ failed (hex 2 0x0201) ∷ []);
  lines = to_active ++ (sent_with (hex 16 0x1ae4174ca173ebbc59165cebe2f20821) (hex 4 0x1a00_4176) 11 (nibble 0x4) ∷ []);
  changed = [];
  state = Waiting;
}

-- A login with the originality key leaves ACTIVE; with AUTH_LIM 0 the count stays.
abbrev pub originality_key : Case
originality_key = record {
  image = patched base (failed (hex 2 0x0700) ∷ []);
  lines =
      to_active ++ (
      sent_with (hex 16 0x00112233445566778899aabbccddeeff) (hex 4 0x1a02_5355) 0
      (bytes (hex 19 0xaf_8df4e9aac5c7573a27d8d055d6e4d64b_ace3)) ∷
      sent (hex 35 0xaf_4886271e5d6120a3f1f360036fbb4bda_fa8cb0fd86498ca3165d7b7a20053ce0_7cb8) 0
      (bytes (hex 19 0x00_629216a7fb29996c579b4c9da4856562_313f)) ∷ []);
  changed = [];
  state = Active;
}

-- Key number 3: 5, and so is FFh.
abbrev pub key_number3 : Case
key_number3 = record {
  image = base;
  lines = to_active ++ (sent (hex 4 0x1a03_da44) 5 (nibble 0x0) ∷ selected ∷ sent (hex 4 0x1aff_3979) 5 (nibble 0x0) ∷ []);
  changed = [];
  state = Waiting;
}

-- Key number 3 with the count at AUTH_LIM: 5.
abbrev pub key_number_before_limit : Case
key_number_before_limit = record {
  image = patched base (page 0x2a (hex 4 0x0c050201) ∷ failed (hex 2 0x0201) ∷ []);
  lines = to_active ++ (sent (hex 4 0x1a03_da44) 5 (nibble 0x0) ∷ []);
  changed = [];
  state = Waiting;
}

-- The count above AUTH_LIM, whose reserved bits are set: 11 at part 1 with each key.
abbrev pub limit_each_key : Case
limit_each_key = record {
  image = patched base (page 0x2a (hex 4 0x0c0502fd) ∷ failed (hex 2 0x0301) ∷ []);
  lines =
      to_active ++ (
      sent (hex 4 0x1a00_4176) 11 (nibble 0x4) ∷
      selected ∷ sent (hex 4 0x1a01_c867) 11 (nibble 0x4) ∷
      selected ∷ sent (hex 4 0x1a02_5355) 11 (nibble 0x4) ∷ []);
  changed = [];
  state = Waiting;
}

-- READ while CHALLENGED: 3; AUTH_LIM 0102h, and the count stays. The next frame is 1.
abbrev pub read_while_challenged : Case
read_while_challenged = record {
  image =
      patched base (
      page 0x30 (hex 16 0x00000000_00000000_00000000_00000000) ∷
      page 0x2a (hex 4 0x0c050201) ∷
      failed (hex 2 0x0101) ∷ []);
  lines =
      to_active ++ (
      sent_with (hex 16 0x1ae4174ca173ebbc59165cebe2f20821) (hex 4 0x1a00_4176) 0
      (bytes (hex 19 0xaf_d5a847b84862ff3874a7f07b8ddf351b_87e7)) ∷
      sent (hex 4 0x3004_26ee) 3 (nibble 0x0) ∷
      sent (hex 4 0x3004_26ee) 1 silence ∷ []);
  changed = [];
  state = Waiting;
}

-- AFh with a byte too few while CHALLENGED: 4; AUTH_LIM 0102h, and the count stays.
abbrev pub short_proof : Case
short_proof = record {
  image =
      patched base (
      page 0x30 (hex 16 0x00000000_00000000_00000000_00000000) ∷
      page 0x2a (hex 4 0x0c050201) ∷
      failed (hex 2 0x0101) ∷ []);
  lines =
      to_active ++ (
      sent_with (hex 16 0x1ae4174ca173ebbc59165cebe2f20821) (hex 4 0x1a00_4176) 0
      (bytes (hex 19 0xaf_d5a847b84862ff3874a7f07b8ddf351b_87e7)) ∷
      sent (hex 34 0xaf_cdf22c5f7a92f0af0155612b9b236ac7_a424bc5238d41ad041b8165b7d99e5_ec77) 4 (nibble 0x0) ∷ []);
  changed = [];
  state = Waiting;
}

unfoldable pub login_cases : List Case
login_cases =
    table17 ∷ data_prot_key ∷ uid_retr_key ∷ false_proof ∷ read_after_login ∷ garbled_proof ∷ count_at_limit ∷ originality_key ∷
    key_number3 ∷ key_number_before_limit ∷ limit_each_key ∷ read_while_challenged ∷ short_proof ∷ []

abbrev pub LoginsRight : Type 0
LoginsRight = T (all_right login_cases)

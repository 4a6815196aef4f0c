-- Bench cases: WAITING, damaged frames, codes and lengths (numbers 1 to 4), and HLTA.
--
--     frame_cases     the cases
--
-- tools/cases.py works every value out; Themes.antt joins the lists. Assumes nothing.
use Rattle.std.specs.Prelude.{List, [], ◌∷◌, ◌++◌}
use Rattle.model.specs.declared.State.TheVariants.{Waiting}
use Rattle.model.specs.Frame.{silence, nibble}
use Rattle.model.specs.CaseImages.{hex, base}
use Rattle.model.specs.CaseForm.{Case, selected, to_active, sent}

-- ---- from here on written by tools/cases.py

-- Loading an image leaves the tag in WAITING: 1.
abbrev pub waiting_from_loading : Case
waiting_from_loading = record {
  image = base;
  lines = sent (hex 4 0x3004_26ee) 1 silence ∷ [];
  changed = [];
  state = Waiting;
}

-- Two bytes, the CRC of no byte: 2.
abbrev pub two_bytes : Case
two_bytes = record {
  image = base;
  lines = to_active ++ (sent (hex 2 0x6363) 2 (nibble 0x1) ∷ []);
  changed = [];
  state = Waiting;
}

-- 64 bytes with a right CRC are no damaged frame: 4 for READ's code, 3 for an unknown one.
abbrev pub longest_frame : Case
longest_frame = record {
  image = base;
  lines =
      to_active ++ (
      sent (
      hex 16 0x30048081_82838485_86878889_8a8b8c8d ++
      hex 16 0x8e8f9091_92939495_96979899_9a9b9c9d ++
      hex 16 0x9e9fa0a1_a2a3a4a5_a6a7a8a9_aaabacad ++
      hex 16 0xaeafb0b1_b2b3b4b5_b6b7b8b9_babbf36b) 4 (nibble 0x0) ∷
      selected ∷ sent (
      hex 16 0x60048081_82838485_86878889_8a8b8c8d ++
      hex 16 0x8e8f9091_92939495_96979899_9a9b9c9d ++
      hex 16 0x9e9fa0a1_a2a3a4a5_a6a7a8a9_aaabacad ++
      hex 16 0xaeafb0b1_b2b3b4b5_b6b7b8b9_babb6bb7) 3 (nibble 0x0) ∷ []);
  changed = [];
  state = Waiting;
}

-- 65 bytes with a right CRC: 2.
abbrev pub too_long_frame : Case
too_long_frame = record {
  image = base;
  lines =
      to_active ++ (
      sent (
      hex 16 0x30048081_82838485_86878889_8a8b8c8d ++
      hex 16 0x8e8f9091_92939495_96979899_9a9b9c9d ++
      hex 16 0x9e9fa0a1_a2a3a4a5_a6a7a8a9_aaabacad ++
      hex 16 0xaeafb0b1_b2b3b4b5_b6b7b8b9_babbbc98 ++
      hex 1 0xba) 2 (nibble 0x1) ∷ []);
  changed = [];
  state = Waiting;
}

-- READ 04h with a wrong bit in the CRC's low byte, in its high byte and in the page, and with the CRC's high byte first: 2.
abbrev pub wrong_crc : Case
wrong_crc = record {
  image = base;
  lines =
      to_active ++ (
      sent (hex 4 0x3004_27ee) 2 (nibble 0x1) ∷
      selected ∷ sent (hex 4 0x3004_266e) 2 (nibble 0x1) ∷
      selected ∷ sent (hex 4 0x3005_26ee) 2 (nibble 0x1) ∷
      selected ∷ sent (hex 4 0x3004_ee26) 2 (nibble 0x1) ∷ []);
  changed = [];
  state = Waiting;
}

-- An unknown code with a wrong CRC: 2.
abbrev pub crc_before_code : Case
crc_before_code = record {
  image = base;
  lines = to_active ++ (sent (hex 4 0x6000_0000) 2 (nibble 0x1) ∷ []);
  changed = [];
  state = Waiting;
}

-- 60h (GET_VERSION) alone, and with one and with five bytes behind it: 3.
abbrev pub unknown_code : Case
unknown_code = record {
  image = base;
  lines =
      to_active ++ (
      sent (hex 3 0x60_f832) 3 (nibble 0x0) ∷
      selected ∷ sent (hex 4 0x6000_f57b) 3 (nibble 0x0) ∷
      selected ∷ sent (hex 8 0x6004_11223344_616c) 3 (nibble 0x0) ∷ []);
  changed = [];
  state = Waiting;
}

-- The other codes of 009 that are not in the base, 26h, 3Ch, 4Bh, 52h, 93h, 95h, A9h and ACh: 3.
abbrev pub codes_not_in_base : Case
codes_not_in_base = record {
  image = base;
  lines =
      to_active ++ (
      sent (hex 4 0x2600_4369) 3 (nibble 0x0) ∷
      selected ∷ sent (hex 4 0x3c00_a201) 3 (nibble 0x0) ∷
      selected ∷ sent (hex 4 0x4b00_6ebc) 3 (nibble 0x0) ∷
      selected ∷ sent (hex 4 0x5200_e7fe) 3 (nibble 0x0) ∷
      selected ∷ sent (hex 4 0x9300_952d) 3 (nibble 0x0) ∷
      selected ∷ sent (hex 4 0x9500_4579) 3 (nibble 0x0) ∷
      selected ∷ sent (hex 4 0xa900_4766) 3 (nibble 0x0) ∷
      selected ∷ sent (hex 4 0xac00_ff18) 3 (nibble 0x0) ∷ []);
  changed = [];
  state = Waiting;
}

-- AFh in ACTIVE: 3, with its own length and with another.
abbrev pub proof_in_active : Case
proof_in_active = record {
  image = base;
  lines =
      to_active ++ (
      sent (hex 35 0xaf_cdf22c5f7a92f0af0155612b9b236ac7_a424bc5238d41ad041b8165b7d99e524_334a) 3 (nibble 0x0) ∷
      selected ∷ sent (hex 3 0xaf_030c) 3 (nibble 0x0) ∷ []);
  changed = [];
  state = Waiting;
}

-- READ with three bytes before its CRC: 4, with a page above 3Bh too.
abbrev pub read_of_three : Case
read_of_three = record {
  image = base;
  lines = to_active ++ (sent (hex 5 0x3004_00_da44) 4 (nibble 0x0) ∷ selected ∷ sent (hex 5 0x303c_00_b83c) 4 (nibble 0x0) ∷ []);
  changed = [];
  state = Waiting;
}

-- Each code alone with its CRC, three bytes: 4.
abbrev pub code_alone : Case
code_alone = record {
  image = base;
  lines =
      to_active ++ (
      sent (hex 3 0x30_7d60) 4 (nibble 0x0) ∷
      selected ∷ sent (hex 3 0x3a_27cf) 4 (nibble 0x0) ∷
      selected ∷ sent (hex 3 0xa2_e6d7) 4 (nibble 0x0) ∷
      selected ∷ sent (hex 3 0x39_bcfd) 4 (nibble 0x0) ∷
      selected ∷ sent (hex 3 0xa5_59a3) 4 (nibble 0x0) ∷
      selected ∷ sent (hex 3 0x1a_25ee) 4 (nibble 0x0) ∷
      selected ∷ sent (hex 3 0x50_7b03) 4 (nibble 0x0) ∷ []);
  changed = [];
  state = Waiting;
}

-- FAST_READ, WRITE and INCR_CNT with a byte too few: 4.
abbrev pub byte_too_few : Case
byte_too_few = record {
  image = base;
  lines =
      to_active ++ (
      sent (hex 4 0x3a04_5613) 4 (nibble 0x0) ∷
      selected ∷ sent (hex 7 0xa204_051122_1239) 4 (nibble 0x0) ∷
      selected ∷ sent (hex 7 0xa504_051122_ce09) 4 (nibble 0x0) ∷ []);
  changed = [];
  state = Waiting;
}

-- Each code with a byte too many: 4.
abbrev pub byte_too_many : Case
byte_too_many = record {
  image = base;
  lines =
      to_active ++ (
      sent (hex 5 0x3004_05_7713) 4 (nibble 0x0) ∷
      selected ∷ sent (hex 6 0x3a0405_11_8dda) 4 (nibble 0x0) ∷
      selected ∷ sent (hex 9 0xa204_05112233_44_8992) 4 (nibble 0x0) ∷
      selected ∷ sent (hex 5 0x3904_05_698f) 4 (nibble 0x0) ∷
      selected ∷ sent (hex 9 0xa504_05112233_44_9155) 4 (nibble 0x0) ∷
      selected ∷ sent (hex 5 0x1a04_05_3663) 4 (nibble 0x0) ∷
      selected ∷ sent (hex 5 0x5004_05_3a16) 4 (nibble 0x0) ∷ []);
  changed = [];
  state = Waiting;
}

-- HLTA: 0 with silence, and WAITING; the next frame is 1.
abbrev pub halt : Case
halt = record {
  image = base;
  lines = to_active ++ (sent (hex 4 0x5000_57cd) 0 silence ∷ sent (hex 4 0x3004_26ee) 1 silence ∷ []);
  changed = [];
  state = Waiting;
}

-- HLTA with another second byte, 01h and FFh: 5.
abbrev pub halt_other : Case
halt_other = record {
  image = base;
  lines = to_active ++ (sent (hex 4 0x5001_dedc) 5 (nibble 0x0) ∷ selected ∷ sent (hex 4 0x50ff_2fc2) 5 (nibble 0x0) ∷ []);
  changed = [];
  state = Waiting;
}

unfoldable pub frame_cases : List Case
frame_cases =
    waiting_from_loading ∷ two_bytes ∷ longest_frame ∷ too_long_frame ∷ wrong_crc ∷ crc_before_code ∷ unknown_code ∷ codes_not_in_base ∷
    proof_in_active ∷ read_of_three ∷ code_alone ∷ byte_too_few ∷ byte_too_many ∷ halt ∷ halt_other ∷ []

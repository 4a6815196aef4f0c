-- Bench cases: READ_CNT and INCR_CNT.
--
--     counter_cases     the cases
--
-- tools/cases.py works every value out; Themes.antt joins the lists. Assumes nothing.
use Rattle.std.specs.Prelude.{List, [], ◌∷◌, ◌++◌}
use Rattle.model.specs.declared.State.TheVariants.{Waiting, Active}
use Rattle.model.specs.Frame.{nibble, bytes}
use Rattle.model.specs.CaseImages.{hex, page, counter, patched, base}
use Rattle.model.specs.CaseForm.{Case, selected, to_active, sent, ack}

-- ---- from here on written by tools/cases.py

-- A counter goes out low byte first.
abbrev pub read_counter : Case
read_counter = record {
  image = patched base (counter 1 (hex 3 0x010203) ∷ []);
  lines = to_active ++ (sent (hex 4 0x3901_936e) 0 (bytes (hex 5 0x010203_e3fe)) ∷ []);
  changed = [];
  state = Active;
}

-- INCR_CNT 1 with 03h,02h,01h,FFh adds 010203h: the fourth byte is ignored.
abbrev pub increment_bytes : Case
increment_bytes = record {
  image = base;
  lines = to_active ++ (sent (hex 8 0xa501_030201ff_672e) 0 ack ∷ sent (hex 4 0x3901_936e) 0 (bytes (hex 5 0x030201_4968)) ∷ []);
  changed = counter 1 (hex 3 0x030201) ∷ [];
  state = Active;
}

-- Each counter is raised by itself, with a carry, and read by its number.
abbrev pub counters_apart : Case
counters_apart = record {
  image = patched base (counter 0 (hex 3 0xff0000) ∷ counter 1 (hex 3 0xffff00) ∷ counter 2 (hex 3 0x563412) ∷ []);
  lines =
      to_active ++ (
      sent (hex 8 0xa500_01000000_4dbf) 0 ack ∷
      sent (hex 8 0xa501_02000000_c491) 0 ack ∷
      sent (hex 8 0xa502_aa000000_edcb) 0 ack ∷
      sent (hex 8 0xa502_00010000_a2ef) 0 ack ∷
      sent (hex 4 0x3900_1a7f) 0 (bytes (hex 5 0x000100_ccbc)) ∷
      sent (hex 4 0x3901_936e) 0 (bytes (hex 5 0x010001_41ee)) ∷
      sent (hex 4 0x3902_085c) 0 (bytes (hex 5 0x003612_f574)) ∷ []);
  changed = counter 0 (hex 3 0x000100) ∷ counter 1 (hex 3 0x010001) ∷ counter 2 (hex 3 0x003612) ∷ [];
  state = Active;
}

-- Counter number 3: READ_CNT and INCR_CNT are 5, and so is FFh.
abbrev pub counter_number3 : Case
counter_number3 = record {
  image = base;
  lines =
      to_active ++ (
      sent (hex 4 0x3903_814d) 5 (nibble 0x0) ∷
      selected ∷ sent (hex 8 0xa503_01000000_81a2) 5 (nibble 0x0) ∷
      selected ∷ sent (hex 4 0x39ff_6270) 5 (nibble 0x0) ∷
      selected ∷ sent (hex 8 0xa5ff_00000000_ac56) 5 (nibble 0x0) ∷ []);
  changed = [];
  state = Waiting;
}

-- CNT_RD_EN 0, CNT_INC_EN 1: READ_CNT 2 is 6, INCR_CNT 2 is 0; the other counters are open.
abbrev pub counter2_not_read : Case
counter2_not_read = record {
  image = patched base (page 0x2a (hex 4 0x08050000) ∷ counter 2 (hex 3 0x563412) ∷ []);
  lines =
      to_active ++ (
      sent (hex 4 0x3902_085c) 6 (nibble 0x0) ∷
      selected ∷ sent (hex 8 0xa502_01000000_c5a9) 0 ack ∷
      sent (hex 4 0x3900_1a7f) 0 (bytes (hex 5 0x000000_14a5)) ∷
      sent (hex 4 0x3901_936e) 0 (bytes (hex 5 0x000000_14a5)) ∷ []);
  changed = counter 2 (hex 3 0x573412) ∷ [];
  state = Active;
}

-- CNT_RD_EN 1, CNT_INC_EN 0: INCR_CNT 2 is 6, READ_CNT 2 is 0; the other counters are open.
abbrev pub counter2_not_raised : Case
counter2_not_raised = record {
  image = patched base (page 0x2a (hex 4 0x04050000) ∷ counter 2 (hex 3 0x563412) ∷ []);
  lines =
      to_active ++ (
      sent (hex 8 0xa502_01000000_c5a9) 6 (nibble 0x0) ∷
      selected ∷ sent (hex 4 0x3902_085c) 0 (bytes (hex 5 0x563412_7f12)) ∷
      sent (hex 8 0xa500_01000000_4dbf) 0 ack ∷
      sent (hex 8 0xa501_01000000_09b4) 0 ack ∷ []);
  changed = counter 0 (hex 3 0x010000) ∷ counter 1 (hex 3 0x010000) ∷ [];
  state = Active;
}

-- CFG_1 byte 0 at F3h, all but the two settings of counter 2: READ_CNT 2 and INCR_CNT 2 are 6.
abbrev pub other_bits_open_nothing : Case
other_bits_open_nothing = record {
  image = patched base (page 0x2a (hex 4 0xf3050000) ∷ []);
  lines = to_active ++ (sent (hex 4 0x3902_085c) 6 (nibble 0x0) ∷ selected ∷ sent (hex 8 0xa502_01000000_c5a9) 6 (nibble 0x0) ∷ []);
  changed = [];
  state = Waiting;
}

-- Increment 0 at FFFFFFh: 0; with FFh as the fourth byte too.
abbrev pub zero_at_highest : Case
zero_at_highest = record {
  image = patched base (counter 0 (hex 3 0xffffff) ∷ []);
  lines =
      to_active ++ (
      sent (hex 8 0xa500_00000000_f6a3) 0 ack ∷
      sent (hex 8 0xa500_000000ff_8eac) 0 ack ∷
      sent (hex 4 0x3900_1a7f) 0 (bytes (hex 5 0xffffff_5f93)) ∷ []);
  changed = [];
  state = Active;
}

-- Increment FFFFFFh: 0 from 0, and 9 from 1.
abbrev pub highest_at_once : Case
highest_at_once = record {
  image = patched base (counter 2 (hex 3 0x010000) ∷ []);
  lines = to_active ++ (sent (hex 8 0xa501_ffffff00_5354) 0 ack ∷ sent (hex 8 0xa502_ffffff00_9f49) 9 (nibble 0x4) ∷ []);
  changed = counter 1 (hex 3 0xffffff) ∷ [];
  state = Waiting;
}

-- FFFFFFh plus 1: 9 for each counter.
abbrev pub past_highest : Case
past_highest = record {
  image = patched base (counter 0 (hex 3 0xffffff) ∷ counter 1 (hex 3 0xffffff) ∷ counter 2 (hex 3 0xffffff) ∷ []);
  lines =
      to_active ++ (
      sent (hex 8 0xa500_01000000_4dbf) 9 (nibble 0x4) ∷
      selected ∷ sent (hex 8 0xa501_01000000_09b4) 9 (nibble 0x4) ∷
      selected ∷ sent (hex 8 0xa502_01000000_c5a9) 9 (nibble 0x4) ∷ []);
  changed = [];
  state = Waiting;
}

-- Counter 2 closed and at FFFFFFh, plus 1: 6.
abbrev pub closed_before_past : Case
closed_before_past = record {
  image = patched base (page 0x2a (hex 4 0x00050000) ∷ counter 2 (hex 3 0xffffff) ∷ []);
  lines = to_active ++ (sent (hex 8 0xa502_01000000_c5a9) 6 (nibble 0x0) ∷ []);
  changed = [];
  state = Waiting;
}

-- AUTH0 00h with PROT has no effect on counters.
abbrev pub counters_no_pages : Case
counters_no_pages = record {
  image = patched base (page 0x29 (hex 4 0x00000000) ∷ page 0x2a (hex 4 0x8c050000) ∷ []);
  lines =
      to_active ++ (
      sent (hex 8 0xa500_01000000_4dbf) 0 ack ∷
      sent (hex 8 0xa501_01000000_09b4) 0 ack ∷
      sent (hex 8 0xa502_01000000_c5a9) 0 ack ∷
      sent (hex 4 0x3900_1a7f) 0 (bytes (hex 5 0x010000_c8ff)) ∷
      sent (hex 4 0x3901_936e) 0 (bytes (hex 5 0x010000_c8ff)) ∷
      sent (hex 4 0x3902_085c) 0 (bytes (hex 5 0x010000_c8ff)) ∷ []);
  changed = counter 0 (hex 3 0x010000) ∷ counter 1 (hex 3 0x010000) ∷ counter 2 (hex 3 0x010000) ∷ [];
  state = Active;
}

unfoldable pub counter_cases : List Case
counter_cases =
    read_counter ∷ increment_bytes ∷ counters_apart ∷ counter_number3 ∷ counter2_not_read ∷ counter2_not_raised ∷ other_bits_open_nothing ∷
    zero_at_highest ∷ highest_at_once ∷ past_highest ∷ closed_before_past ∷ counters_no_pages ∷ []

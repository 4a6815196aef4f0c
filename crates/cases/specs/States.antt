-- Bench cases from states that no loading leaves: CHALLENGED, TRACEABLE, AUTHENTICATED, and one that doesn't exist.
--
--     state_rows          the cases
--
-- tools/cases.py works every value out; Direct.antt joins the lists. Assumes nothing.
use Rattle.std.specs.Prelude.{List, [], ◌∷◌}
use Rattle.model.specs.declared.State.TheVariants.{Waiting, Active, Traceable, Authenticated, Challenged, Unknown}
use Rattle.model.specs.Record.{zeros}
use Rattle.model.specs.Frame.{silence, nibble, bytes}
use Rattle.model.specs.CaseImages.{hex, page, counter, failed, patched, base}
use Rattle.model.specs.CaseForm.{powered, selected, sent, stopped, ack}
use Rattle.cases.specs.DirectForm.{Direct, begun}

-- ---- from here on written by tools/cases.py

-- CHALLENGED: HLTA is 3; AUTH_LIM 0102h, and the count stays.
abbrev pub challenged_halt : Direct
challenged_halt = begun (Challenged 0) (hex 16 0x1ae4174ca173ebbc59165cebe2f20821) record {
  image = patched base (page 0x2a (hex 4 0x0c050201) ∷ failed (hex 2 0x0101) ∷ []);
  lines = sent (hex 4 0x5000_57cd) 3 (nibble 0x0) ∷ [];
  changed = [];
  state = Waiting;
}

-- CHALLENGED: part 1 is 3.
abbrev pub challenged_part1 : Direct
challenged_part1 = begun (Challenged 1) (hex 16 0x1ae4174ca173ebbc59165cebe2f20821) record {
  image = patched base (page 0x2a (hex 4 0x0c050201) ∷ failed (hex 2 0x0101) ∷ []);
  lines = sent (hex 4 0x1a01_c867) 3 (nibble 0x0) ∷ [];
  changed = [];
  state = Waiting;
}

-- CHALLENGED: an unknown code is 3.
abbrev pub challenged_unknown : Direct
challenged_unknown = begun (Challenged 2) (hex 16 0x1ae4174ca173ebbc59165cebe2f20821) record {
  image = patched base (page 0x2a (hex 4 0x0c050201) ∷ failed (hex 2 0x0101) ∷ []);
  lines = sent (hex 3 0x60_f832) 3 (nibble 0x0) ∷ [];
  changed = [];
  state = Waiting;
}

-- CHALLENGED: READ with another length is 3.
abbrev pub challenged_other_length : Direct
challenged_other_length = begun (Challenged 0) (hex 16 0x1ae4174ca173ebbc59165cebe2f20821) record {
  image = patched base (page 0x2a (hex 4 0x0c050201) ∷ failed (hex 2 0x0101) ∷ []);
  lines = sent (hex 3 0x30_7d60) 3 (nibble 0x0) ∷ [];
  changed = [];
  state = Waiting;
}

-- CHALLENGED: AFh with a byte too many is 4; AUTH_LIM 0102h, and the count stays.
abbrev pub long_proof : Direct
long_proof = begun (Challenged 1) (hex 16 0x1ae4174ca173ebbc59165cebe2f20821) record {
  image = patched base (page 0x2a (hex 4 0x0c050201) ∷ failed (hex 2 0x0101) ∷ []);
  lines = sent (hex 36 0xaf_cdf22c5f7a92f0af0155612b9b236ac7_a424bc5238d41ad041b8165b7d99e524_00_5203) 4 (nibble 0x0) ∷ [];
  changed = [];
  state = Waiting;
}

-- CHALLENGED: AFh alone with its CRC is 4.
abbrev pub proof_alone : Direct
proof_alone = begun (Challenged 2) (hex 16 0x1ae4174ca173ebbc59165cebe2f20821) record {
  image = patched base (page 0x2a (hex 4 0x0c050201) ∷ failed (hex 2 0x0101) ∷ []);
  lines = sent (hex 3 0xaf_030c) 4 (nibble 0x0) ∷ [];
  changed = [];
  state = Waiting;
}

-- CHALLENGED with the count at AUTH_LIM: a right proof is 11, and the count stays.
abbrev pub limit_at_part2 : Direct
limit_at_part2 = begun (Challenged 0) (hex 16 0x1ae4174ca173ebbc59165cebe2f20821) record {
  image =
      patched base (
      page 0x30 (hex 16 0x00000000_00000000_00000000_00000000) ∷
      page 0x2a (hex 4 0x0c050201) ∷
      failed (hex 2 0x0201) ∷ []);
  lines = sent (hex 35 0xaf_cdf22c5f7a92f0af0155612b9b236ac7_a424bc5238d41ad041b8165b7d99e524_334a) 11 (nibble 0x4) ∷ [];
  changed = [];
  state = Waiting;
}

-- CHALLENGED with the count at AUTH_LIM: a false proof is 11 too, and the count stays.
abbrev pub limit_false_proof : Direct
limit_false_proof = begun (Challenged 0) (hex 16 0x1ae4174ca173ebbc59165cebe2f20821) record {
  image =
      patched base (
      page 0x30 (hex 16 0x00000000_00000000_00000000_00000000) ∷
      page 0x2a (hex 4 0x0c050201) ∷
      failed (hex 2 0x0201) ∷ []);
  lines = sent (hex 35 0xaf_cdf22c5f7a92f0af0155612b9b236ac7_37c3e1ee82f4fc1c007ef3dcbc3d1674_6098) 11 (nibble 0x4) ∷ [];
  changed = [];
  state = Waiting;
}

-- Power in CHALLENGED: WAITING, and the challenge bytes are zero.
abbrev pub power_drops : Direct
power_drops = begun (Challenged 1) (hex 16 0x1ae4174ca173ebbc59165cebe2f20821) record {
  image = base;
  lines = powered ∷ [];
  changed = [];
  state = Waiting;
}

-- Select in CHALLENGED: ACTIVE, and the challenge bytes are zero.
abbrev pub select_drops : Direct
select_drops = begun (Challenged 1) (hex 16 0x1ae4174ca173ebbc59165cebe2f20821) record {
  image = base;
  lines = selected ∷ [];
  changed = [];
  state = Active;
}

-- Power in a state that doesn't exist.
abbrev pub power_unknown : Direct
power_unknown = begun (Unknown 9) (hex 16 0x1ae4174ca173ebbc59165cebe2f20821) record {
  image = base;
  lines = powered ∷ [];
  changed = [];
  state = Waiting;
}

-- Select in a state that doesn't exist.
abbrev pub select_unknown : Direct
select_unknown = begun (Unknown 9) (hex 16 0x1ae4174ca173ebbc59165cebe2f20821) record {
  image = base;
  lines = selected ∷ [];
  changed = [];
  state = Active;
}

-- Challenge bytes that aren't zero in ACTIVE are zero after a READ.
abbrev pub challenge_dropped : Direct
challenge_dropped = begun Active (hex 16 0x1ae4174ca173ebbc59165cebe2f20821) record {
  image = base;
  lines = sent (hex 4 0x3004_26ee) 0 (bytes (hex 18 0x04fb1d35_05fa2442_06f92b4f_07f8325c_8919)) ∷ [];
  changed = [];
  state = Active;
}

-- And after a refusal.
abbrev pub challenge_dropped_refused : Direct
challenge_dropped_refused = begun Active (hex 16 0x1ae4174ca173ebbc59165cebe2f20821) record {
  image = base;
  lines = sent (hex 4 0x303c_ed53) 5 (nibble 0x0) ∷ [];
  changed = [];
  state = Waiting;
}

-- A reason belongs to one answer: WRITE 04h is stopped by its lock bit, is 1 without a reason in WAITING, and is stopped again.
abbrev pub reason_once : Direct
reason_once = begun Active zeros record {
  image = patched base (page 0x02 (hex 4 0x10481000) ∷ []);
  lines =
      stopped 3 (hex 8 0xa204_11223344_4463) 7 (nibble 0x0) ∷
      sent (hex 8 0xa204_11223344_4463) 1 silence ∷
      selected ∷ stopped 3 (hex 8 0xa204_11223344_4463) 7 (nibble 0x0) ∷ [];
  changed = [];
  state = Waiting;
}

-- TRACEABLE: AFh is 3.
abbrev pub traceable_proof : Direct
traceable_proof = begun Traceable zeros record {
  image = base;
  lines = sent (hex 35 0xaf_cdf22c5f7a92f0af0155612b9b236ac7_a424bc5238d41ad041b8165b7d99e524_334a) 3 (nibble 0x0) ∷ [];
  changed = [];
  state = Waiting;
}

-- AUTHENTICATED: AFh is 3.
abbrev pub authenticated_proof : Direct
authenticated_proof = begun Authenticated zeros record {
  image = base;
  lines = sent (hex 35 0xaf_cdf22c5f7a92f0af0155612b9b236ac7_a424bc5238d41ad041b8165b7d99e524_334a) 3 (nibble 0x0) ∷ [];
  changed = [];
  state = Waiting;
}

-- TRACEABLE: HLTA is 0 with silence, and WAITING.
abbrev pub traceable_halt : Direct
traceable_halt = begun Traceable zeros record {
  image = base;
  lines = sent (hex 4 0x5000_57cd) 0 silence ∷ [];
  changed = [];
  state = Waiting;
}

-- AUTHENTICATED: HLTA is 0 with silence, and WAITING.
abbrev pub authenticated_halt : Direct
authenticated_halt = begun Authenticated zeros record {
  image = base;
  lines = sent (hex 4 0x5000_57cd) 0 silence ∷ [];
  changed = [];
  state = Waiting;
}

-- AUTHENTICATED, AUTH0 00h with PROT and counter 2 closed: all is open, and key pages read as zeros.
abbrev pub authenticated_opens : Direct
authenticated_opens = begun Authenticated zeros record {
  image = patched base (page 0x29 (hex 4 0x00000000) ∷ page 0x2a (hex 4 0x80050000) ∷ counter 2 (hex 3 0x563412) ∷ []);
  lines =
      sent (hex 4 0x3000_02a8) 0 (bytes (hex 18 0x04512cf1_5a93c71e_10480000_00000000_cbe0)) ∷
      sent (hex 5 0x3a3030_e1d7) 0 (bytes (hex 6 0x00000000_0056)) ∷
      sent (hex 8 0xa204_11223344_4463) 0 ack ∷
      sent (hex 4 0x3902_085c) 0 (bytes (hex 5 0x563412_7f12)) ∷
      sent (hex 8 0xa502_01000000_c5a9) 0 ack ∷ [];
  changed = page 0x04 (hex 4 0x11223344) ∷ counter 2 (hex 3 0x573412) ∷ [];
  state = Authenticated;
}

-- AUTHENTICATED, AUTH0 04h with PROT, Random ID on: READ 02h, 03h and 04h don't end at AUTH0, and READ 3Bh shows pages 00h to 02h.
abbrev pub authenticated_wraps : Direct
authenticated_wraps = begun Authenticated zeros record {
  image =
      patched base (
      page 0x03 (hex 4 0x0f1e2d3c) ∷
      page 0x28 (hex 4 0x00000028) ∷
      page 0x2d (hex 4 0x0000002d) ∷
      page 0x29 (hex 4 0x01000004) ∷
      page 0x2a (hex 4 0x8c050000) ∷ []);
  lines =
      sent (hex 4 0x3002_108b) 0 (bytes (hex 18 0x10480000_0f1e2d3c_04fb1d35_05fa2442_8d45)) ∷
      sent (hex 4 0x3003_999a) 0 (bytes (hex 18 0x0f1e2d3c_04fb1d35_05fa2442_06f92b4f_faa8)) ∷
      sent (hex 4 0x3004_26ee) 0 (bytes (hex 18 0x04fb1d35_05fa2442_06f92b4f_07f8325c_8919)) ∷
      sent (hex 4 0x303b_5227) 0 (bytes (hex 18 0x3bc4a32d_04512cf1_5a93c71e_10480000_477e)) ∷ [];
  changed = [];
  state = Authenticated;
}

-- AUTHENTICATED: a locked page is 7.
abbrev pub authenticated_locked : Direct
authenticated_locked = begun Authenticated zeros record {
  image = patched base (page 0x02 (hex 4 0x10481000) ∷ []);
  lines = stopped 3 (hex 8 0xa204_11223344_4463) 7 (nibble 0x0) ∷ [];
  changed = [];
  state = Waiting;
}

-- AUTHENTICATED, AUTH0 04h: a locked page is stopped by its own lock bit.
abbrev pub authenticated_lock_reason : Direct
authenticated_lock_reason = begun Authenticated zeros record {
  image = patched base (page 0x29 (hex 4 0x00000004) ∷ page 0x02 (hex 4 0x10481000) ∷ []);
  lines = stopped 3 (hex 8 0xa204_11223344_4463) 7 (nibble 0x0) ∷ [];
  changed = [];
  state = Waiting;
}

-- AUTHENTICATED, Random ID on: READ 00h shows all, and WRITE 29h switches it off.
abbrev pub authenticated_random_id : Direct
authenticated_random_id = begun Authenticated zeros record {
  image = patched base (page 0x29 (hex 4 0x0100003c) ∷ []);
  lines =
      sent (hex 4 0x3000_02a8) 0 (bytes (hex 18 0x04512cf1_5a93c71e_10480000_00000000_cbe0)) ∷
      sent (hex 8 0xa229_0000003c_3d75) 0 ack ∷ [];
  changed = page 0x29 (hex 4 0x0000003c) ∷ [];
  state = Authenticated;
}

-- AUTHENTICATED, LOCK_USR_CFG set: WRITE 29h with another Random ID bit is 7.
abbrev pub authenticated_config_locked : Direct
authenticated_config_locked = begun Authenticated zeros record {
  image = patched base (page 0x2a (hex 4 0x4c050000) ∷ []);
  lines = stopped 6 (hex 8 0xa229_0100003c_8669) 7 (nibble 0x0) ∷ [];
  changed = [];
  state = Waiting;
}

-- TRACEABLE, AUTH0 04h with PROT: READ 04h is 6.
abbrev pub traceable_read : Direct
traceable_read = begun Traceable zeros record {
  image = patched base (page 0x29 (hex 4 0x00000004) ∷ page 0x2a (hex 4 0x8c050000) ∷ []);
  lines = sent (hex 4 0x3004_26ee) 6 (nibble 0x0) ∷ [];
  changed = [];
  state = Waiting;
}

-- TRACEABLE, AUTH0 04h with PROT, Random ID on: READ 03h continues at page 00h and shows it.
abbrev pub traceable_wraps : Direct
traceable_wraps = begun Traceable zeros record {
  image =
      patched base (
      page 0x03 (hex 4 0x0f1e2d3c) ∷
      page 0x28 (hex 4 0x00000028) ∷
      page 0x2d (hex 4 0x0000002d) ∷
      page 0x29 (hex 4 0x01000004) ∷
      page 0x2a (hex 4 0x8c050000) ∷ []);
  lines = sent (hex 4 0x3003_999a) 0 (bytes (hex 18 0x0f1e2d3c_04512cf1_5a93c71e_10480000_0443)) ∷ [];
  changed = [];
  state = Traceable;
}

-- TRACEABLE, AUTH0 04h: WRITE 04h is 6.
abbrev pub traceable_write : Direct
traceable_write = begun Traceable zeros record {
  image = patched base (page 0x29 (hex 4 0x00000004) ∷ []);
  lines = stopped 1 (hex 8 0xa204_11223344_4463) 6 (nibble 0x0) ∷ [];
  changed = [];
  state = Waiting;
}

-- TRACEABLE, counter 2 closed: READ_CNT 2 is 6.
abbrev pub traceable_read_cnt : Direct
traceable_read_cnt = begun Traceable zeros record {
  image = patched base (page 0x2a (hex 4 0x80050000) ∷ []);
  lines = sent (hex 4 0x3902_085c) 6 (nibble 0x0) ∷ [];
  changed = [];
  state = Waiting;
}

-- TRACEABLE, counter 2 closed: INCR_CNT 2 is 6.
abbrev pub traceable_incr_cnt : Direct
traceable_incr_cnt = begun Traceable zeros record {
  image = patched base (page 0x2a (hex 4 0x80050000) ∷ []);
  lines = sent (hex 8 0xa502_01000000_c5a9) 6 (nibble 0x0) ∷ [];
  changed = [];
  state = Waiting;
}

-- TRACEABLE, counter 2 open: 0.
abbrev pub traceable_counter2 : Direct
traceable_counter2 = begun Traceable zeros record {
  image = base;
  lines = sent (hex 8 0xa502_01000000_c5a9) 0 ack ∷ sent (hex 4 0x3902_085c) 0 (bytes (hex 5 0x010000_c8ff)) ∷ [];
  changed = counter 2 (hex 3 0x010000) ∷ [];
  state = Traceable;
}

-- TRACEABLE: WRITE 29h switches Random ID on, and READ 00h still shows all.
abbrev pub traceable_random_id : Direct
traceable_random_id = begun Traceable zeros record {
  image = base;
  lines =
      sent (hex 8 0xa229_0100003c_8669) 0 ack ∷
      sent (hex 4 0x3000_02a8) 0 (bytes (hex 18 0x04512cf1_5a93c71e_10480000_00000000_cbe0)) ∷ [];
  changed = page 0x29 (hex 4 0x0100003c) ∷ [];
  state = Traceable;
}

-- TRACEABLE, AUTH0 29h: WRITE 29h is 6.
abbrev pub traceable_random_id_auth0 : Direct
traceable_random_id_auth0 = begun Traceable zeros record {
  image = patched base (page 0x29 (hex 4 0x00000029) ∷ []);
  lines = stopped 1 (hex 8 0xa229_01000029_aa2e) 6 (nibble 0x0) ∷ [];
  changed = [];
  state = Waiting;
}

-- TRACEABLE, LOCK_USR_CFG set: WRITE 29h with another Random ID bit is 7.
abbrev pub traceable_config_locked : Direct
traceable_config_locked = begun Traceable zeros record {
  image = patched base (page 0x2a (hex 4 0x4c050000) ∷ []);
  lines = stopped 6 (hex 8 0xa229_0100003c_8669) 7 (nibble 0x0) ∷ [];
  changed = [];
  state = Waiting;
}

unfoldable pub state_rows : List Direct
state_rows =
    challenged_halt ∷ challenged_part1 ∷ challenged_unknown ∷ challenged_other_length ∷ long_proof ∷ proof_alone ∷ limit_at_part2 ∷
    limit_false_proof ∷ power_drops ∷ select_drops ∷ power_unknown ∷ select_unknown ∷ challenge_dropped ∷ challenge_dropped_refused ∷
    reason_once ∷ traceable_proof ∷ authenticated_proof ∷ traceable_halt ∷ authenticated_halt ∷ authenticated_opens ∷ authenticated_wraps ∷
    authenticated_locked ∷ authenticated_lock_reason ∷ authenticated_random_id ∷ authenticated_config_locked ∷ traceable_read ∷
    traceable_wraps ∷ traceable_write ∷ traceable_read_cnt ∷ traceable_incr_cnt ∷ traceable_counter2 ∷ traceable_random_id ∷
    traceable_random_id_auth0 ∷ traceable_config_locked ∷ []

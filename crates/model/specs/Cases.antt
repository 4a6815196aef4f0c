-- Document 01, "Bench cases": the starred cases and the bench program's example; one list with one statement.
--
--     cases              the list
--     CasesRight         each of them is right
--
-- Every value of a row is written out: bytes of the image, frames and replies with their CRC_A. tools/cases.py works them out from document 01, 009
-- and FIPS 197, with a CRC_A and an AES of its own, and not from the definition of the tag. A row marked * is a starred case of document 01. What a
-- row says and when it is right is in CaseForm.antt. proofs/Cases.antt proves the statement by computing. The crate cases has more, with 009
-- Table 17 in full. Assumes nothing.
use Rattle.std.specs.Prelude.{List, [], ◌∷◌, ◌++◌, T}
use Rattle.model.specs.declared.State.TheVariants.{Waiting, Active}
use Rattle.model.specs.Frame.{silence, nibble, bytes}
use Rattle.model.specs.CaseImages.{hex, page, counter, patched, base}
use Rattle.model.specs.CaseForm.{Case, all_right, powered, selected, to_active, sent_with, sent, stopped, ack}

-- ---- from here on written by tools/cases.py

-- * Empty frame, ACTIVE: 2.
abbrev pub empty_frame : Case
empty_frame = record {
  image = base;
  lines = to_active ++ (sent [] 2 (nibble 0x1) ∷ []);
  changed = [];
  state = Waiting;
}

-- * The one byte 00h, WAITING: 1.
abbrev pub one_byte_waiting : Case
one_byte_waiting = record {
  image = base;
  lines = powered ∷ sent (hex 1 0x00) 1 silence ∷ [];
  changed = [];
  state = Waiting;
}

-- * READ 38h: 0.
abbrev pub read38 : Case
read38 = record {
  image = base;
  lines = to_active ++ (sent (hex 4 0x3038_c915) 0 (bytes (hex 18 0x38c78e06_39c69513_3ac59c20_3bc4a32d_88f5)) ∷ []);
  changed = [];
  state = Active;
}

-- * READ 39h: 0, and behind page 3Bh it continues at 00h (E3).
abbrev pub read39 : Case
read39 = record {
  image = base;
  lines = to_active ++ (sent (hex 4 0x3039_4004) 0 (bytes (hex 18 0x39c69513_3ac59c20_3bc4a32d_04512cf1_65e7)) ∷ []);
  changed = [];
  state = Active;
}

-- * FAST_READ 05h to 04h: 5.
abbrev pub fast_read_order : Case
fast_read_order = record {
  image = base;
  lines = to_active ++ (sent (hex 5 0x3a0504_5c68) 5 (nibble 0x0) ∷ []);
  changed = [];
  state = Waiting;
}

-- * FAST_READ 3Bh to 3Bh: 0, with zero bytes stored there.
abbrev pub fast_read_last : Case
fast_read_last = record {
  image = patched base (page 0x3b (hex 4 0x00000000) ∷ []);
  lines = to_active ++ (sent (hex 5 0x3a3b3b_9a8d) 0 (bytes (hex 6 0x00000000_0056)) ∷ []);
  changed = [];
  state = Active;
}

-- * WRITE 01h: 5.
abbrev pub write01 : Case
write01 = record {
  image = base;
  lines = to_active ++ (sent (hex 8 0xa201_11223344_1045) 5 (nibble 0x0) ∷ []);
  changed = [];
  state = Waiting;
}

-- * OTP 0Fh,00,00,00, write F0h,00,00,00: FFh,00,00,00.
abbrev pub otp_set : Case
otp_set = record {
  image = patched base (page 0x03 (hex 4 0x0f000000) ∷ []);
  lines = to_active ++ (sent (hex 8 0xa203_f0000000_c0d5) 0 ack ∷ []);
  changed = page 0x03 (hex 4 0xff000000) ∷ [];
  state = Active;
}

-- * Lock bytes 01h,00h, write 08h,00h: stay 01h,00h. The first two data bytes are ignored.
abbrev pub frozen_bit : Case
frozen_bit = record {
  image = patched base (page 0x02 (hex 4 0x10480100) ∷ []);
  lines = to_active ++ (sent (hex 8 0xa202_ffff0800_4e64) 0 ack ∷ []);
  changed = page 0x02 (hex 4 0x10480100) ∷ [];
  state = Active;
}

-- * Lock bytes 00h,00h, write 09h,00h: 09h,00h.
abbrev pub lock_and_block : Case
lock_and_block = record {
  image = patched base (page 0x02 (hex 4 0x10480000) ∷ []);
  lines = to_active ++ (sent (hex 8 0xa202_00000900_b77e) 0 ack ∷ []);
  changed = page 0x02 (hex 4 0x10480900) ∷ [];
  state = Active;
}

-- * Lock byte 0 at 08h, write page 03h: 7.
abbrev pub locked_page : Case
locked_page = record {
  image = patched base (page 0x02 (hex 4 0x10480800) ∷ []);
  lines = to_active ++ (stopped 3 (hex 8 0xa203_01000000_50be) 7 (nibble 0x0) ∷ []);
  changed = [];
  state = Waiting;
}

-- * Counter FFFFFEh plus 1: 0.
abbrev pub counter_to_highest : Case
counter_to_highest = record {
  image = patched base (counter 0 (hex 3 0xfeffff) ∷ []);
  lines = to_active ++ (sent (hex 8 0xa500_01000000_4dbf) 0 ack ∷ []);
  changed = counter 0 (hex 3 0xffffff) ∷ [];
  state = Active;
}

-- * Counter FFFFFEh plus 2: 9, unchanged.
abbrev pub counter_past_highest : Case
counter_past_highest = record {
  image = patched base (counter 0 (hex 3 0xfeffff) ∷ []);
  lines = to_active ++ (sent (hex 8 0xa500_02000000_809a) 9 (nibble 0x4) ∷ []);
  changed = [];
  state = Waiting;
}

-- * AUTH0 04h, ACTIVE, write 04h: 6.
abbrev pub protected_page : Case
protected_page = record {
  image = patched base (page 0x29 (hex 4 0x00000004) ∷ []);
  lines = to_active ++ (stopped 1 (hex 8 0xa204_11223344_4463) 6 (nibble 0x0) ∷ []);
  changed = [];
  state = Waiting;
}

-- * AUTH0 04h, ACTIVE, write 03h: 0.
abbrev pub below_auth0 : Case
below_auth0 = record {
  image = patched base (page 0x29 (hex 4 0x00000004) ∷ []);
  lines = to_active ++ (sent (hex 8 0xa203_11223344_9853) 0 ack ∷ []);
  changed = page 0x03 (hex 4 0x11223344) ∷ [];
  state = Active;
}

-- The bench program's example, counter 0 at 10: S, READ_CNT 0, WRITE 00h, READ_CNT 0; the random block is the line number.
abbrev pub bench_example : Case
bench_example = record {
  image = patched base (counter 0 (hex 3 0x0a0000) ∷ []);
  lines =
      selected ∷
      sent_with (hex 16 0x02020202020202020202020202020202) (hex 4 0x3900_1a7f) 0 (bytes (hex 5 0x0a0000_6ed6)) ∷
      sent_with (hex 16 0x03030303030303030303030303030303) (hex 8 0xa200_00000000_27bf) 5 (nibble 0x0) ∷
      sent_with (hex 16 0x04040404040404040404040404040404) (hex 4 0x3900_1a7f) 1 silence ∷ [];
  changed = [];
  state = Waiting;
}

unfoldable pub cases : List Case
cases =
    empty_frame ∷ one_byte_waiting ∷ read38 ∷ read39 ∷ fast_read_order ∷ fast_read_last ∷ write01 ∷ otp_set ∷ frozen_bit ∷ lock_and_block ∷
    locked_page ∷ counter_to_highest ∷ counter_past_highest ∷ protected_page ∷ below_auth0 ∷ bench_example ∷ []

abbrev pub CasesRight : Type 0
CasesRight = T (all_right cases)

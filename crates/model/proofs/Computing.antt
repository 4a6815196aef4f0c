-- Every definition that a bench case is computed with, opened at once: to unfold `computing` is to unfold what its own line names.
--
--   computing     its value says nothing
--
-- Assumes nothing.
use Prim.Native.Nat.{ℕ}
use Rattle.bits.specs.Bits.{bit_of, one_way}
use Rattle.crc.specs.CrcA.{crc_bit, crc_bits, crc_byte, crc_from, crc_a, on_air, with_crc}
use Rattle.fips197.specs.Field.{xtime, product_of, product}
use Rattle.fips197.specs.SBox.{s_box_table, s_box, inv_sbox_table, inv_sbox}
use Rattle.fips197.specs.State.{sub_bytes, inv_sub_bytes, shift_rows, inv_shift_rows, mix_columns, inv_mix_columns, add_round_key}
use Rattle.fips197.specs.KeyExpansion.{power_of_x, next_word, expand, key_expansion}
use Rattle.fips197.specs.Cipher.{round, rounds, last_round, cipher, encipher, inv_round, inv_rounds, inv_last_round, inv_cipher, decipher}
use Rattle.fips197.specs.Cbc.{xor_block, block_of, cbc_encipher, cbc_decipher}
use Rattle.model.specs.Map.{mf0aes20}
use Rattle.model.specs.Settings.{random_id_on, auth0, read_protected, config_locked, incr_open, read_open, auth_limit, key_lock_bit}
use Rattle.model.specs.Record.{exists, possible}
use Rattle.model.specs.Numbers.{number_if, first, nibble_of, kept, refused, answered, acknowledged}
use Rattle.model.specs.Telling.{damaged, told, allowed, told_number}
use Rattle.model.specs.Reading.{read_barred, read_number, fast_read_number, last_readable, read_window, fast_range, hidden, shown_byte, shown_pages}
use Rattle.model.specs.Writing.{page_bars, auth0_bars, random_id_bars, own_lock_bars, pair_lock_bars, key_lock_bars, config_lock_bars, barred, write_number}
use Rattle.model.specs.Writing.{freeze_rows, pair_freeze_rows, frozen, merged, keep_of, opened_of, written}
use Rattle.model.specs.Counters.{counter_barred, read_cnt_number, incr_cnt_number}
use Rattle.model.specs.Authentication.{page_key, key_of, rotated, limit_reached, raised, lowered, challenge_number, challenged}
use Rattle.model.specs.Authentication.{proof_first, proof_second, same_bytes, proof_number, proved}
use Rattle.model.specs.Frame.{misfit, command_reason, command_number, halted, command_done, commanded, earlier_number, not_done, decide, said_of}
use Rattle.model.specs.Frame.{counters_after, failed_after, store_after, tag_after, frame}
use Rattle.model.specs.Image.{image_of, check_bytes_right, image_right, tag_of, store_of, load_number, load, save_number, save}
use Rattle.model.specs.Calls.{step}
use Rattle.model.specs.CaseImages.{patched, base}
use Rattle.model.specs.CaseForm.{same_said, same_state, stored_right, left_right, line_right, played_right, case_right, all_right}

unfoldable pub computing : ℕ
unfolding bit_of one_way crc_bit crc_bits crc_byte crc_from crc_a on_air with_crc
    xtime product_of product s_box_table s_box inv_sbox_table inv_sbox
    sub_bytes inv_sub_bytes shift_rows inv_shift_rows mix_columns inv_mix_columns add_round_key power_of_x next_word expand key_expansion
    round rounds last_round cipher encipher inv_round inv_rounds inv_last_round inv_cipher decipher xor_block block_of cbc_encipher cbc_decipher
    mf0aes20 random_id_on auth0 read_protected config_locked incr_open read_open auth_limit key_lock_bit exists possible
    number_if first nibble_of kept refused answered acknowledged damaged told allowed told_number
    read_barred read_number fast_read_number last_readable read_window fast_range hidden shown_byte shown_pages
    page_bars auth0_bars random_id_bars own_lock_bars pair_lock_bars key_lock_bars config_lock_bars barred write_number freeze_rows pair_freeze_rows frozen merged keep_of opened_of written
    counter_barred read_cnt_number incr_cnt_number
    page_key key_of rotated limit_reached raised lowered challenge_number challenged proof_first proof_second same_bytes proof_number proved
    misfit command_reason command_number halted command_done commanded earlier_number not_done decide said_of counters_after failed_after store_after tag_after frame
    image_of check_bytes_right image_right tag_of store_of load_number load save_number save step patched base
    same_said same_state stored_right left_right line_right played_right case_right all_right
computing = 0

-- The bench cases by theme, beside document 01's own and those with logins: one list with one statement.
--
--     theme_cases         the cases of the other files
--     ThemesRight        each of them is right
--
-- Every value of a row is written out: bytes of the image, frames and replies with their CRC_A. What a row says and when it is right is in
-- model/specs/CaseForm.antt. proofs/Cases.antt proves the statement by computing. Assumes nothing.
use Rattle.std.specs.Prelude.{List, ◌++◌, T}
use Rattle.model.specs.CaseForm.{Case, all_right}
use Rattle.cases.specs.Frames.{frame_cases}
use Rattle.cases.specs.Reading.{reading_cases}
use Rattle.cases.specs.Locks.{lock_cases}
use Rattle.cases.specs.PairLocks.{pair_lock_cases}
use Rattle.cases.specs.Settings.{setting_cases}
use Rattle.cases.specs.Counters.{counter_cases}

-- ---- from here on written by tools/cases.py

unfoldable pub theme_cases : List Case
theme_cases =
    frame_cases ++ reading_cases ++ lock_cases ++ pair_lock_cases ++ setting_cases ++ counter_cases

abbrev pub ThemesRight : Type 0
ThemesRight = T (all_right theme_cases)

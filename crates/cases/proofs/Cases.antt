-- The bench cases: the statements of specs/Themes.antt and specs/Direct.antt, by computing every row, a theme at a time.
--
--   append_right                   right cases one behind the other
--   themes-right, direct-right     the two statements
--
-- Assumes nothing.
use mathlib.Core.List.{List, [], ◌∷◌, ◌++◌}
use mathlib.Core.Bool.{Bool, true, false, ◌&&◌}
use lib.Dec.{T}
use Rattle.model.specs.CaseForm.{Case, case_right, all_right}
use Rattle.model.proofs.Computing.{computing}
use Rattle.cases.specs.Frames.{frame_cases}
use Rattle.cases.specs.Reading.{reading_cases}
use Rattle.cases.specs.Locks.{lock_cases}
use Rattle.cases.specs.PairLocks.{pair_lock_cases}
use Rattle.cases.specs.Settings.{setting_cases}
use Rattle.cases.specs.Counters.{counter_cases}
use Rattle.cases.specs.Themes.{theme_cases, ThemesRight}
use Rattle.cases.specs.DirectForm.{same_tag, direct_right, all_direct_right}
use Rattle.cases.specs.States.{state_rows}
use Rattle.cases.specs.Direct.{direct, DirectRight}

under : (x y z : Bool) → (T y → T z) → T (x && y) → T (x && z)
under true y z f t = f t
under false y z f t = t

append_right : (a b : List Case) → T (all_right a) → T (all_right b) → T (all_right (a ++ b))
unfolding all_right
append_right [] b h k = k
append_right (c ∷ cs) b h k = under (case_right c) (all_right cs) (all_right (cs ++ b)) (λ t. append_right cs b t k) h

frames-right : T (all_right frame_cases)
unfolding computing frame_cases
frames-right = tt

reading-right : T (all_right reading_cases)
unfolding computing reading_cases
reading-right = tt

locks-right : T (all_right lock_cases)
unfolding computing lock_cases
locks-right = tt

pair-locks-right : T (all_right pair_lock_cases)
unfolding computing pair_lock_cases
pair-locks-right = tt

settings-right : T (all_right setting_cases)
unfolding computing setting_cases
settings-right = tt

counters-right : T (all_right counter_cases)
unfolding computing counter_cases
counters-right = tt

pub themes-right : ThemesRight
unfolding theme_cases
themes-right =
    append_right _ counter_cases
    (append_right _ setting_cases
    (append_right _ pair_lock_cases (append_right _ lock_cases (append_right _ reading_cases frames-right reading-right) locks-right) pair-locks-right)
    settings-right)
    counters-right

pub direct-right : DirectRight
unfolding computing same_tag direct_right all_direct_right state_rows direct
direct-right = tt

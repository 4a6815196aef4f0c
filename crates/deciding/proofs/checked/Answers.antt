-- `deciding::checked` meets its contract, by the stages of the definition.
-- Assumes nothing.
use mathlib.Core.Path.{◌≡◌, sym, ap, ◌∙◌}
use Prim.Native.Nat.{ℕ}
use lib.ListN.{length, get_or}
use Rattle.std.specs.Prelude.{Option, Some}
use Rattle.model.specs.declared.Command.{Command}
use Rattle.model.specs.declared.Barred.TheVariants.{Open}
use Rattle.model.specs.declared.Effect.TheVariants.{Keep}
use Rattle.model.specs.Numbers.{refused}
use Rattle.model.specs.Telling.{told, told_number}
use Rattle.model.specs.Frame.{not_done}
use Rattle.model.proofs.Stages.{decide-misfit, decide-waiting, decide-damaged, decide-told-refused, decide-known, told-plain}
use Rattle.model.proofs.Misfit.{fits-random}
use Rattle.numbers.specs.declared.Refusal.TheVariants.{Waiting, Damaged, Misfit}
use Rattle.numbers.proofs.Checks.{positive, refuse_if-err, refuse_if-ok}
use Rattle.refusals.specs.Deciding.{decided}
use Rattle.refusals.proofs.Outcome.{by-number}
use Rattle.deciding.proofs.Fits.{fits-failed, whole_long, known_code, exit-err, told-err, told-ok, on_ok}
use Rattle.deciding.proofs.checked.Goals as goal

pub returns-in_err-refuse_if-clause-err : goal.returns-in_err-refuse_if-clause-err
unfolding decided
returns-in_err-refuse_if-clause-err c =
    let a = c.args in
    let e = refuse_if-err _ Misfit _ c.in_err-refuse_if.ensures in
    exit-err _ _ _ _ c.from_residual.ensures.1 e.1 (sym (decide-misfit a.pages.now.map a.tag a.pages.now.bytes.now a.f.now a.random.now a.room (sym c.misfit-misfit.ensures ∙ e.0)))

pub returns-in_err-refuse_if-2-clause-err : goal.returns-in_err-refuse_if-2-clause-err
unfolding decided
returns-in_err-refuse_if-2-clause-err c =
    let a = c.args in
    let fits = sym c.misfit-misfit.ensures ∙ refuse_if-ok _ Misfit _ c.in_ok-refuse_if.ensures in
    let e = refuse_if-err _ Waiting _ c.in_err-refuse_if-2.ensures in
    exit-err _ _ _ _ c.from_residual-in_err-refuse_if-2.ensures.1 e.1 (sym (decide-waiting a.pages.now.map a.tag a.pages.now.bytes.now a.f.now a.random.now a.room fits (sym c.is_waiting-waiting.ensures ∙ e.0)))

pub returns-in_err-refuse_if-3-clause-err : goal.returns-in_err-refuse_if-3-clause-err
unfolding decided
returns-in_err-refuse_if-3-clause-err c =
    let a = c.args in
    let fits = sym c.misfit-misfit.ensures ∙ refuse_if-ok _ Misfit _ c.in_ok-refuse_if.ensures in
    let awake = sym c.is_waiting-waiting.ensures ∙ refuse_if-ok _ Waiting _ c.in_ok-refuse_if-2.ensures in
    let e = refuse_if-err _ Damaged _ c.in_err-refuse_if-3.ensures in
    exit-err _ _ _ _ c.from_residual-in_err-refuse_if-3.ensures.1 e.1 (sym (decide-damaged a.pages.now.map a.tag a.pages.now.bytes.now a.f.now a.random.now a.room fits awake (sym c.damaged-damaged.ensures ∙ e.0)))

pub returns-clause-err : goal.returns-clause-err
returns-clause-err c =
    let a = c.args in
    let m = a.pages.now.map in
    let s = a.pages.now.bytes.now in
    let fits = sym c.misfit-misfit.ensures ∙ refuse_if-ok _ Misfit _ c.in_ok-refuse_if.ensures in
    let awake = sym c.is_waiting-waiting.ensures ∙ refuse_if-ok _ Waiting _ c.in_ok-refuse_if-2.ensures in
    let whole = sym c.damaged-damaged.ensures ∙ refuse_if-ok _ Damaged _ c.in_ok-refuse_if-3.ensures in
    let code = c.told-told.ensures ∙ ap told c.at.ensures in
    let number = c.check_told.ensures.number ∙ ap (λ (t : Option (Command × ℕ)). told_number t a.tag.state (length a.f.now)) code in
    told-err _ _ _ number (λ r own.
    let ended = decide-told-refused m a.tag s a.f.now a.random.now a.room fits awake whole (λ z. positive r (own ∙ z)) in
    by-number m a.tag s _ r Open
    (ended ∙ sym (told-plain m a.tag s a.f.now Open _ a.tag.state (length a.f.now)) ∙ ap (λ (n : ℕ). not_done m a.tag s n Open) (sym own))
    (ended ∙ ap (λ (n : ℕ). refused n Open Keep) (sym own)))

pub returns-clause-ok : goal.returns-clause-ok
returns-clause-ok c =
    let a = c.args in
    let m = a.pages.now.map in
    let s = a.pages.now.bytes.now in
    let fits = sym c.misfit-misfit.ensures ∙ refuse_if-ok _ Misfit _ c.in_ok-refuse_if.ensures in
    let awake = sym c.is_waiting-waiting.ensures ∙ refuse_if-ok _ Waiting _ c.in_ok-refuse_if-2.ensures in
    let whole = sym c.damaged-damaged.ensures ∙ refuse_if-ok _ Damaged _ c.in_ok-refuse_if-3.ensures in
    told-ok _ _ _ _ c.check_told.ensures.number c.check_told.ensures.command (λ d told_so none.
    let known = known_code _ d told_so in
    let code : told (get_or a.f.now 0 0) ≡ Some (d, known.0) = sym (c.told-told.ensures ∙ ap told c.at.ensures) ∙ known.1 in
    let number = sym (none ∙ ap (λ (t : Option (Command × ℕ)). told_number t a.tag.state (length a.f.now)) known.1) in
    sym (decide-known m a.tag s a.f.now a.random.now a.room fits awake whole _ _ code number))

pub returns-clause-in_bounds : goal.returns-clause-in_bounds
returns-clause-in_bounds c =
    on_ok _ _ (whole_long c.args.f.now (sym c.damaged-damaged.ensures ∙ refuse_if-ok _ Damaged _ c.in_ok-refuse_if-3.ensures))

pub returns-clause-random_len : goal.returns-clause-random_len
returns-clause-random_len c =
    let a = c.args in
    on_ok _ _ (fits-random a.pages.now.map a.tag a.pages.now.bytes.now a.random.now a.room (sym c.misfit-misfit.ensures ∙ refuse_if-ok _ Misfit _ c.in_ok-refuse_if.ensures))

pub returns-clause-failed_bound : goal.returns-clause-failed_bound
returns-clause-failed_bound c =
    let a = c.args in
    on_ok _ _ (fits-failed a.pages.now.map a.tag a.pages.now.bytes.now a.random.now a.room (sym c.misfit-misfit.ensures ∙ refuse_if-ok _ Misfit _ c.in_ok-refuse_if.ensures))

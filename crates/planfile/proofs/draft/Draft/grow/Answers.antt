use Rattle.std.proofs.Common.{map, ap, rules}
use Rattle.std.proofs.lemmas.Option.{MatchOption-at_some}
use Rattle.plan.specs.Views.{station_of}
use Rattle.planfile.proofs.Exits.{handed_on, none_handed_on}
use Rattle.planfile.proofs.Growth.{start_misplaced, first_misplaced, ring_misplaced, ring_beyond, ring_fits, first_beyond, first_fits}
use Rattle.planfile.proofs.draft.Draft.grow.Goals as goal

pub returns-in_default : goal.returns-in_default
returns-in_default c = rw c.in_default.is-0 (start_misplaced _ _ c.in_default.not-Ring-1)

pub returns-in_default-2 : goal.returns-in_default-2
returns-in_default-2 c = rw c.in_default.is-0 (first_misplaced _ _ _ c.in_default.not-Master-1)

pub returns-in-Masters-Ring : goal.returns-in-Masters-Ring
returns-in-Masters-Ring c = rw (c.in-Masters-Ring.is-0, c.in-Masters-Ring.is-1) (ring_misplaced _ _ _ _ _)

pub returns-in_err-target-in-Start-Ring : goal.returns-in_err-target-in-Start-Ring
returns-in_err-target-in-Start-Ring c =
    let told = c.map_err.ensures.cases in
    let given = c.in_err-target-in-Start-Ring.ensures.cases in
    rw (c.in-Start-Ring.is-0, c.in-Start-Ring.is-1)
    (handed_on _ _ c.from_residual.result _ c.from_residual.ensures.1 (search (rules, ring_beyond)))

pub returns-in_ok-target-in-Start-Ring : goal.returns-in_ok-target-in-Start-Ring
returns-in_ok-target-in-Start-Ring c = rw (c.in-Start-Ring.is-0, c.in-Start-Ring.is-1) (search (rules, ring_fits))

pub returns-in_err-last-in-Ring-Master : goal.returns-in_err-last-in-Ring-Master
returns-in_err-last-in-Ring-Master c =
    let last = c.in_err-last-in-Ring-Master in
    rw (c.in-Ring-Master.is-0, c.in-Ring-Master.is-1)
    (none_handed_on _ _ c.from_residual-in_err-last-in-Ring-Master.result _ c.from_residual-in_err-last-in-Ring-Master.ensures.1 last.ensures.ok_part last.ensures.value c.new.ensures (first_beyond _ _ _))

pub returns-in_ok-last-in-Ring-Master : goal.returns-in_ok-last-in-Ring-Master
returns-in_ok-last-in-Ring-Master c =
    let made = MatchOption-at_some _ _ _ c.in_ok-last-in-Ring-Master.ensures.ok_part c.new.ensures in
    rw (c.in-Ring-Master.is-0, c.in-Ring-Master.is-1) (first_fits _ _ _ _ (ap (map station_of) c.new-done.ensures) made.1 made.0)

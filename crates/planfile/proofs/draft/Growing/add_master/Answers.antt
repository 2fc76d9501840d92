use Rattle.std.proofs.Common.{rules, length, ap}
use Rattle.std.proofs.lemmas.List.{length-map}
use Rattle.std.proofs.lemmas.Option.{MatchOption-at_some}
use Rattle.planfile.proofs.Exits.{none_handed_on}
use Rattle.planfile.proofs.Growth.{pushed, master_crowded, master_beyond, master_fits}
use Rattle.planfile.proofs.draft.Growing.add_master.Goals as goal

pub returns-then-len-eq-MASTERS : goal.returns-then-len-eq-MASTERS
returns-then-len-eq-MASTERS c =
    let all = ap length (pushed c.args.self _ c.masters-done.ensures) in
    search (rules, master_crowded, length-map)

pub returns-in_err-last : goal.returns-in_err-last
returns-in_err-last c =
    let all = ap length (pushed c.args.self _ c.masters-done.ensures) in
    none_handed_on _ _ c.from_residual.result _ c.from_residual.ensures.1 c.in_err-last.ensures.ok_part c.in_err-last.ensures.value c.new.ensures
    (search (rules, master_beyond, length-map))

pub returns : goal.returns
returns c =
    let made = MatchOption-at_some _ _ _ c.in_ok-last.ensures.ok_part c.new.ensures in
    master_fits _ 0 _ _ _ _ _ (pushed c.args.self _ c.masters-done.ensures) made.1 (search (rules, length-map)) made.0

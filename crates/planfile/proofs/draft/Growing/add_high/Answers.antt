use Rattle.std.proofs.Common.{rules, ap, ◌∙◌}
use Rattle.std.proofs.lemmas.Option.{MatchOption-at_some}
use Rattle.std.proofs.lemmas.Result.{MatchResult-at_ok}
use Rattle.plan.specs.Net.{with_high}
use Rattle.plan.specs.Views.{station_of}
use Rattle.planfile.proofs.Exits.{none_handed_on}
use Rattle.planfile.proofs.Growth.{few_done, high_misplaced, high_crowded, high_beyond, high_fits}
use Rattle.planfile.proofs.draft.Growing.add_high.Goals as goal

pub returns-then-not-is_empty : goal.returns-then-not-is_empty
returns-then-not-is_empty c = search (rules, high_misplaced)

pub returns-then-highs-eq-HIGHS : goal.returns-then-highs-eq-HIGHS
returns-then-highs-eq-HIGHS c = search (rules, high_crowded)

pub returns-in_err-high : goal.returns-in_err-high
returns-in_err-high c =
    none_handed_on _ _ c.from_residual.result _ c.from_residual.ensures.1 c.in_err-high.ensures.ok_part c.in_err-high.ensures.value c.new.ensures
    (search (rules, high_beyond, few_done))

pub returns : goal.returns
returns c =
    let made = MatchOption-at_some _ _ _ c.in_ok-high.ensures.ok_part c.new.ensures in
    let added = MatchResult-at_ok _ _ _ c.unwrap.ensures c.add_high.ensures in
    high_fits _ 0 _ _ (few_done c.args.self) _ (search rules) added.0 _ (added.1 ∙ ap (with_high (station_of c.args.self.last)) made.1) made.0

use Rattle.std.proofs.Common.{ap, ◌∙◌, rules}
use Rattle.std.proofs.lemmas.Option.{MatchOption-at_some}
use Rattle.std.proofs.lemmas.Result.{MatchResult-at_ok}
use Rattle.plan.specs.Net.{with_low}
use Rattle.plan.specs.Views.{station_of}
use Rattle.plan.proofs.Ranges.{station_in_range}
use Rattle.planfile.proofs.Exits.{none_handed_on}
use Rattle.planfile.proofs.Growth.{few_done, low_crowded, low_beyond, low_fits}
use Rattle.planfile.proofs.draft.Growing.add_low.Goals as goal

pub returns-then-lows-eq-LOWS : goal.returns-then-lows-eq-LOWS
returns-then-lows-eq-LOWS c = search (rules, low_crowded)

pub returns-in_err-low : goal.returns-in_err-low
returns-in_err-low c =
    none_handed_on _ _ c.from_residual.result _ c.from_residual.ensures.1 c.in_err-low.ensures.ok_part c.in_err-low.ensures.value c.new.ensures
    (search (rules, low_beyond, few_done, station_in_range c.args.self.last))

pub returns : goal.returns
returns c =
    let made = MatchOption-at_some _ _ _ c.in_ok-low.ensures.ok_part c.new.ensures in
    let added = MatchResult-at_ok _ _ _ c.unwrap.ensures c.add_low.ensures in
    low_fits _ 0 _ _ (few_done c.args.self) _ (station_in_range c.args.self.last).few_highs added.0 _ (added.1 ∙ ap (with_low (station_of c.args.self.last)) made.1) made.0

use Rattle.std.proofs.Common.{◌≡◌, length, sym}
use Rattle.std.proofs.lemmas.Bool.{eqb-true}
use Rattle.std.proofs.lemmas.Result.{MatchResult-weaker}
use Rattle.planfile.specs.Reading.Refused.{stuck}
use Rattle.planfile.proofs.Going.{goes_on, whole, no_master}
use Rattle.planfile.proofs.Exits.{handed_on}
use Rattle.planfile.proofs.reading.read_records.Goals as goal

pub returns-in_err-draft : goal.returns-in_err-draft
returns-in_err-draft c = handed_on _ _ c.from_residual.result _ c.from_residual.ensures.1 (stuck _ _ _ c.loop-left.invariant c.in_err-draft.ensures)

pub loop-left-preserved : goal.loop-left-preserved
loop-left-preserved c = goes_on c.loop-left.invariant c.in_ok-draft.ensures

pub returns : goal.returns
returns c =
    let end : length c.loop-left.left.now ≡ 0 = eqb-true _ _ (sym c.loop-left-test.ensures) in
    MatchResult-weaker c.finish.result c.finish.ensures (λ p e. whole c.loop-left.invariant end _ e) (λ e q. no_master c.loop-left.invariant end e q.0 q.1)

use Rattle.std.proofs.Common.{◌≡◌, ◌++◌, sym, ap, ◌∙◌}
use Rattle.std.proofs.lemmas.Option.{MatchOption-at_some}
use Rattle.planfile.specs.Format.{framed, record_bytes}
use Rattle.planfile.specs.Reading.Stuck.{cut, unknown, unfit}
use Rattle.planfile.proofs.Exits.{handed_on, none_handed_on}
use Rattle.planfile.proofs.reading.step.Goals as goal

pub returns-in_err-contents : goal.returns-in_err-contents
returns-in_err-contents c = handed_on _ _ c.from_residual.result _ c.from_residual.ensures.1 (rw c.in_err-contents.ensures.0 (cut c.in_err-contents.ensures.1))

pub returns-in_err-next : goal.returns-in_err-next
returns-in_err-next c =
    none_handed_on _ _ c.from_residual-in_err-next.result _ c.from_residual-in_err-next.ensures.1 c.in_err-next.ensures.ok_part c.in_err-next.ensures.value c.parse.ensures
    (unknown _ _ c.in_ok-contents.ensures)

pub returns-in_err-grow : goal.returns-in_err-grow
returns-in_err-grow c =
    let is = MatchOption-at_some _ _ _ c.in_ok-next.ensures.ok_part c.parse.ensures in
    let split : c.args.left.now ≡ record_bytes c.in_ok-next.next ++ c.in_ok-contents.left.now = c.in_ok-contents.ensures ∙ ap (λ xs. framed xs ++ c.in_ok-contents.left.now) (sym is) in
    handed_on _ _ c.from_residual-in_err-grow.result _ c.from_residual-in_err-grow.ensures.1 (unfit _ _ split c.in_err-grow.ensures)

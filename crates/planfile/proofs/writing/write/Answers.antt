use Rattle.std.proofs.Common.{◌≤◌, length, Ok, refl, ap, arith}
use Rattle.std.proofs.lemmas.List.{set_split}
use Rattle.plan.specs.Views.{net}
use Rattle.planfile.specs.Format.{encoded}
use Rattle.planfile.proofs.Laid.{third_room, all_put}
use Rattle.planfile.proofs.Rows.{encoded_parts}
use Rattle.planfile.proofs.writing.write.Goals as goal

pub put_all-at-requires : goal.put_all-at-requires
put_all-at-requires c =
    let is = encoded_parts _ _ (net c.args.plan.now) c.target-target.ensures c.masters.ensures.value in
    let room : length (encoded (net c.args.plan.now)) ≤ length c.args.out.now = omega (arith, c.size-needed.ensures.value, c.if-out-needed.false) in
    third_room is room record { count = refl; front = set_split c.args.out.now 0 1 (omega arith) } c.put-at.ensures

pub returns : goal.returns
returns c =
    let is = encoded_parts _ _ (net c.args.plan.now) c.target-target.ensures c.masters.ensures.value in
    let room : length (encoded (net c.args.plan.now)) ≤ length c.args.out.now = omega (arith, c.size-needed.ensures.value, c.if-out-needed.false) in
    let all = all_put is room record { count = refl; front = set_split c.args.out.now 0 1 (omega arith) } c.put-at.ensures c.put_all-at.ensures in
    record { fits = λ _. (ap Ok all.count, all.front); short = λ s. absurd (omega (arith, room, s)) }

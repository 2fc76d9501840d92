use Rattle.std.proofs.Common.{◌≡◌, ◌+◌, ◌≤◌, length, refl, ap, arith, rules}
use Rattle.std.specs.List.{sum_by}
use Rattle.std.proofs.iter.runs.Made.{chains}
use Rattle.std.proofs.lemmas.List.Concat.{length-flat_map}
use Rattle.plan.specs.Views.{net, station_of}
use Rattle.planfile.specs.Format.{station_bytes}
use Rattle.planfile.proofs.Rows.{encoded_parts, stations_size}
use Rattle.planfile.proofs.writing.size.Goals as goal

pub overflow_add-result : goal.overflow_add-result
overflow_add-result c =
    let total : c.sum.result ≡ sum_by (λ m. length (station_bytes (station_of m))) c.masters.result.now = search (rules, chains) in
    omega (arith, stations_size c.masters.result.now)

pub returns : goal.returns
returns c =
    let ms = c.masters.result.now in
    let total : c.sum.result ≡ sum_by (λ m. length (station_bytes (station_of m))) ms = search (rules, chains) in
    let parts = encoded_parts (net c.args.plan.now).target ms (net c.args.plan.now) refl c.masters.ensures.value in
    let most : 8 + c.sum.result ≤ 1040 = omega (arith, stations_size ms) in
    record { value = omega (arith, ap length parts.is, length-flat_map (λ m. station_bytes (station_of m)) ms); most = most; longest = most }

use Rattle.std.proofs.Common.{◌≡◌, ◌<◌, ◌≤◌, ◌==◌, true, length, get_or, ◌∙◌, sym, ap, arith, rules}
use Rattle.std.proofs.lemmas.Bool.Decides.{nat_tests}
use Rattle.std.proofs.lemmas.List.{take_all}
use Rattle.std.proofs.lemmas.List.Folds.{list_any_at}
use Rattle.std.specs.List.{list_any}
use Rattle.bounded.specs.Items.{items}
use Rattle.first_come.specs.Places.{place_listed}
use Rattle.first_come.proofs.queue.FirstComeQueue.waits.Goals as goal

-- the item looked at is the stream, so the stream has a place
pub returns-then-from-stream : goal.returns-then-from-stream
returns-then-from-stream c =
    let i = c.args.stream in
    let xs = items c.args.self.now.order in
    let k = c.loop-waiting.waiting-index in
    let all = c.as_slice-waiting-items.ensures.value in
    let within : k < length xs = search (rules, c.loop-waiting-test.true, all) in
    let same : (get_or xs k 0 == i) ≡ true = search (rules, c.if-from-stream.true, c.from.ensures, all) in
    let here = list_any_at (λ x. x == i) xs k 0 within same in
    let placed = place_listed i xs in
    grind (arith, nat_tests)

-- none of all items is the stream, so it has none
pub returns : goal.returns
returns c =
    let i = c.args.stream in
    let xs = items c.args.self.now.order in
    let k = c.loop-waiting.waiting-index in
    let over : length xs ≤ k = search (rules, c.loop-waiting-test.false, c.as_slice-waiting-items.ensures.value) in
    let whole = take_all k xs over in
    sym c.loop-waiting.invariant ∙ ap (list_any (λ x. x == i)) whole ∙ place_listed i xs

use Rattle.std.proofs.Common.{◌≡◌, ◌==◌, take, false}
use Rattle.std.specs.List.{list_any}
use Rattle.bounded.specs.Items.{items}
use Rattle.first_come.proofs.queue.FirstComeQueue.waits.Given as goal

-- none of those looked at is the stream
abbrev pub invariant-loop-waiting : goal.invariant-loop-waiting
invariant-loop-waiting l = list_any (λ x. x == l.stream) (take l.waiting-index (items l.self.order)) ≡ false

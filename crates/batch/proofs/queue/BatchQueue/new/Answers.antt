use Rattle.std.proofs.Common.{ap}
use Rattle.streams.proofs.Sets.{all_nobody}
use Rattle.batch.proofs.queue.BatchQueue.new.Goals as goal

pub invariant_of-result : goal.invariant_of-result
invariant_of-result c = record {
  closing = all_nobody _ _ c.empty.ensures;
  gathering = all_nobody _ _ c.empty-2.ensures;
  once = λ i _. ap (λ s. s i) c.empty-2.ensures;
}

use Rattle.streams.proofs.Sets.{all_nobody}
use Rattle.cyclic.proofs.queue.CyclicQueue.new.Goals as goal

pub invariant_of-result-clause-streams : goal.invariant_of-result-clause-streams
invariant_of-result-clause-streams c = all_nobody _ _ c.empty.ensures

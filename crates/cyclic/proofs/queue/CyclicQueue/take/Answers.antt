use Rattle.streams.proofs.Sets.{all_without}
use Rattle.cyclic.proofs.queue.CyclicQueue.take.Goals as goal

pub invariant_of-self-clause-streams : goal.invariant_of-self-clause-streams
invariant_of-self-clause-streams c = all_without _ _ _ _ c.args.self.now.streams c.remove.ensures

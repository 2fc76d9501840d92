use Rattle.std.proofs.Common.{◌≤◌, arith}
use Rattle.std.proofs.lemmas.Bool.Decides.{nat_tests}
use Rattle.streams.proofs.Sets.{all_with}
use Rattle.cyclic.proofs.queue.CyclicQueue.put.Goals as goal

pub invariant_of-self-clause-streams : goal.invariant_of-self-clause-streams
invariant_of-self-clause-streams c =
    let q = c.args.self.now in
    let low : 1 ≤ c.args.stream = grind (arith, nat_tests) in
    let high : c.args.stream ≤ q.size.count = grind (arith, nat_tests) in
    all_with _ _ _ c.args.stream q.streams (c.insert.ensures.within (low, omega (arith, q.size.range))) low high

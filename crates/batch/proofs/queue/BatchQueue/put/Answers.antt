use Rattle.std.proofs.Common.{arith, sym, subst}
use Rattle.std.proofs.lemmas.Bool.Decides.{nat_tests}
use Rattle.streams.specs.Members.{members}
use Rattle.streams.specs.Streams.{Newcomer}
use Rattle.batch.specs.Groups.{Apart, waiting}
use Rattle.batch.specs.Views.{groups_of}
use Rattle.batch.specs.Batches.{put_apart, groups_waits}
use Rattle.batch.specs.Held.{apart}
use Rattle.batch.proofs.queue.BatchQueue.put.Goals as goal

-- the stream is one that does not wait, so it is added and the groups stay apart
pub invariant_of-self : goal.invariant_of-self
invariant_of-self c =
    let q = c.args.self.now in
    let g = groups_of q in
    let i = c.args.stream in
    let new : Newcomer g.size (waiting g) i = record { low = grind (arith, nat_tests); high = grind (arith, nat_tests); new = grind (arith, nat_tests, groups_waits g (apart q) i) } in
    let added = c.insert.ensures.within (new.low, omega (arith, new.high, q.size.range)) in
    let a = subst (λ s. Apart (record { size = q.size.count; closed = members q.closed; gathered = s })) (sym added) (put_apart g i (apart q) new) in
    record { closing = a.closed; gathering = a.gathered; once = a.once }

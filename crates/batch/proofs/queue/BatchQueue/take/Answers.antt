use Rattle.std.proofs.Common.{sym, ap, subst}
use Rattle.batch.specs.Groups.{Apart}
use Rattle.streams.specs.Members.{members}
use Rattle.batch.specs.Views.{groups_of}
use Rattle.batch.specs.Batches.{closed_apart}
use Rattle.batch.specs.Held.{apart}
use Rattle.streams.proofs.Sets.{all_nobody, all_without}
use Rattle.batch.proofs.queue.BatchQueue.take.Goals as goal

pub invariant_of-self : goal.invariant_of-self
invariant_of-self c =
    let q = c.args.self.now in
    let a = subst (λ s. Apart (record { size = q.size.count; closed = s; gathered = members q.gathered })) (sym c.remove.ensures) (closed_apart (groups_of q) _ (apart q)) in
    record { closing = a.closed; gathering = a.gathered; once = a.once }

pub invariant_of-self-2 : goal.invariant_of-self-2
invariant_of-self-2 c = record {
  closing = all_without _ _ _ _ c.args.self.now.gathering c.remove-2.ensures;
  gathering = all_nobody _ _ c.empty-self.ensures;
  once = λ i _. ap (λ s. s i) c.empty-self.ensures;
}

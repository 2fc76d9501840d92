use Rattle.std.proofs.Common.{◌≡◌, ℕ, ◌<◌, [], ◌∷◌, ◌++◌, true, length, Ok, Err, Result, sym, refl, ap, ◌∙◌, subst, arith}
use Rattle.std.proofs.lemmas.List.{length_push}
use Rattle.std.proofs.lemmas.Bool.Decides.{nat_tests}
use Rattle.std.specs.Result.{is_ok}
use Rattle.bounded.specs.Items.{items, Pushed}
use Rattle.bounded.specs.declared.ArrayVec.{ArrayVec}
use Rattle.first_come.specs.Order.{all_among, once, Absent, OrderPut}
use Rattle.first_come.specs.Views.{order_of}
use Rattle.first_come.specs.Places.{all_among_push, once_push, room}
use Rattle.first_come.proofs.queue.FirstComeQueue.put.Goals as goal
use Rattle.first_come.proofs.queue.FirstComeQueue.put.Goals.{After-push}

absent : (c : After-push) → Absent (order_of c.args.self.now) c.args.stream
absent c = record { low = grind (arith, nat_tests); high = grind (arith, nat_tests); new = grind (arith, nat_tests) }

-- one that does not wait finds room
fits : (c : After-push) → length (items c.args.self.now.order) < c.args.self.now.size.count
fits c =
    let q = c.args.self.now in
    let a = absent c in
    room q.size.count c.args.stream (items q.order) q.streams q.single a.low a.high a.new

-- with room a push is accepted
pushed : (v v' : ArrayVec ℕ 8) (x : ℕ) (r : Result (Unit {0}) ℕ) → length (items v) < 8 → Pushed v v' x r → (is_ok r ≡ true) × (items v' ≡ items v ++ x ∷ [])
pushed v v' x (Ok u) l p = (refl, p.1)
pushed v v' x (Err y) l p = absurd (omega (arith, p.0))

added : (c : After-push) → (is_ok c.push.result ≡ true) × (items c.push.new.self ≡ items c.args.self.now.order ++ c.args.stream ∷ [])
added c = pushed _ _ _ _ (omega (arith, fits c, c.args.self.now.size.range)) c.push.ensures.cases

pub invariant_of-self : goal.invariant_of-self
invariant_of-self c =
    let q = c.args.self.now in
    let i = c.args.stream in
    let h = (goal.at.invariant_of-self c).After-push in
    let a = absent h in
    let is = (added h).1 in
    record {
      few = omega (arith, ap length is, length_push (items q.order) i, fits h);
      streams = ap (all_among q.size.count) is ∙ all_among_push q.size.count i (items q.order) a.low a.high q.streams;
      single = ap once is ∙ once_push i (items q.order) a.new q.single;
    }

pub returns : goal.returns
returns c =
    let q = c.args.self.now in
    let h = (goal.at.returns c).After-push in
    subst
    (λ r. OrderPut (order_of q) c.args.stream r (record { size = q.size.count; order = items c.push.new.self }))
    (sym (c.is_ok.ensures.value ∙ (added h).0))
    (absent h, ap (λ l. record { size = q.size.count; order = l }) (added h).1)

-- The first-come queue keeps what a line must.
use Rattle.std.specs.Prelude.{◌≡◌, ℕ, ◌≤◌, Bool, true, false, [], length, Some, None, Option, refl}
use Rattle.std.proofs.Common.{ap, arith}
use Rattle.std.proofs.lemmas.Bool.Decides.{nat_tests}
use Rattle.bank.specs.Counts.{even_turns}
use Rattle.bank.specs.Meaning.{Within, Idle, Orderly, SameShape, LinePut, LineTake}
use Rattle.first_come.specs.Order.{Order, place, all_among, once, order_line, new_order, OrderPut, OrderTake}
use Rattle.first_come.specs.Places.{place_le, place_at, place_push_other, all_among_at}

-- what holds of every order that puts and takes lead to
pub record Lined (o : Order) : Type 0 where
  pub few : o.size ≤ 8
  pub fits : length o.order ≤ o.size
  pub streams : all_among o.size o.order ≡ true
  pub single : once o.order ≡ true

module _ (o : Order) (i : ℕ) where
  -- a stream has as many turns as there are streams
  turns_within : Within (order_line o) i → (order_line o).turns i ≡ o.size
  turns_within w = grind (arith, nat_tests)

  -- what is no stream has none
  turns_beyond : (Within (order_line o) i → ⊥) → (order_line o).turns i ≡ 0
  turns_beyond out = grind (arith, nat_tests)

  -- a place is at most the turns
  near : Lined o → place i o.order ≤ (order_line o).turns i
  near l = grind (arith, nat_tests, place_le i o.order, all_among_at o.size i o.order)

-- the numbers of its line keep their ranges
pub order_orderly : (o : Order) → Lined o → Orderly (order_line o)
order_orderly o l = record {
  few = l.few;
  turned = λ i w. omega (arith, turns_within o i w, l.few);
  beyond = turns_beyond o;
  near = λ i. near o i l;
}

-- in a new order nothing waits
pub order_new : (n : ℕ) → Idle (order_line (new_order n))
order_new n i = refl

-- the turns come from the size
same_shape : (o o' : Order) → o'.size ≡ o.size → SameShape (order_line o) (order_line o')
same_shape o o' e = record { size = e; turns = λ i. ap (λ n. even_turns n i) e }

-- a put does what a line's put must
pub order_putting : (o : Order) (i : ℕ) (r : Bool) (o' : Order) → Lined o → Lined o' → OrderPut o i r o' → LinePut (order_line o) i r (order_line o')
order_putting o i false o' _ _ p =
    (λ f. p.0 (record { low = f.within.0; high = f.within.1; new = f.idle }), ap order_line p.1)
order_putting o i true o' _ l' p =
    let shape = same_shape o o' (ap (λ x. x.size) p.1) in
    let order = ap (λ x. x.order) p.1 in (
      record { within = (p.0.low, p.0.high); idle = p.0.new },
      record {
        shape = shape;
        waits = grind (arith, nat_tests, place_at i o.order []);
        near = grind (arith, nat_tests, place_at i o.order [], place_le i o'.order, shape.turns i);
        stays = λ j d h. grind (arith, nat_tests, place_push_other j i o.order);
        rises_not = λ j d. grind (arith, nat_tests, place_push_other j i o.order);
      },
    )

-- a take does what a line's take must
pub order_taking : (o : Order) (r : Option ℕ) (o' : Order) → Lined o → OrderTake o r o' → LineTake (order_line o) r (order_line o')
order_taking o None o' _ t = (λ i. ap (place i) t.0, ap order_line t.1)
order_taking o (Some i) o' l t = record {
  shape = same_shape o o' t.0;
  waited = grind (arith, nat_tests);
  gone = grind (arith, nat_tests);
  stays = λ j d h. grind (arith, nat_tests);
  closer = λ j d h. grind (arith, nat_tests);
  starts_not = λ j z. grind (arith, nat_tests);
}

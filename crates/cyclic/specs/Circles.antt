-- The cyclic queue keeps what a line must.
use Rattle.std.proofs.Common.{sym, ap, subst, arith}
use Rattle.std.specs.Prelude.{ℕ, Bool, true, false, Some, None, Option, refl}
use Rattle.std.proofs.lemmas.Bool.Decides.{nat_tests}
use Rattle.bank.specs.Meaning.{Idle, Orderly, Joined, Given, LinePut, LineTake}
use Rattle.streams.specs.Streams.{Newcomer}
use Rattle.cyclic.specs.Circle.{Circle, circle_line, circle_past, circle_with, Round, new_circle, Next, CirclePut, CircleTake}

-- at first nothing waits
pub circle_new : (n : ℕ) → Idle (circle_line (new_circle n))
circle_new n i = refl

module _ (c : Circle) (g : Round c) where
  -- the numbers of the line keep their ranges
  pub circle_orderly : Orderly (circle_line c)
  circle_orderly = record {
    few = g.few;
    turned = λ i r. (grind (arith, nat_tests), grind (arith, nat_tests));
    beyond = λ i out. grind (arith, nat_tests);
    near = λ i. grind (arith, nat_tests);
  }

-- a newcomer joins the line, and nothing changes for the others
joins : (c : Circle) (i : ℕ) → Round c → Newcomer c.size c.waiting i
    → Joined (circle_line c) i (circle_line (circle_with c i))
joins c i g n = record {
  shape = record { size = refl; turns = λ j. refl };
  waits = grind (arith, nat_tests);
  near = grind (arith, nat_tests);
  stays = λ j d h. grind (arith, nat_tests);
  rises_not = λ j d. grind (arith, nat_tests);
}

-- the next stream is given, and the others come nearer
gives : (c : Circle) (i : ℕ) → Round c → Next c i
    → Given (circle_line c) i (circle_line (circle_past c i))
gives c i g n = record {
  shape = record { size = refl; turns = λ j. refl };
  waited = grind (arith, nat_tests);
  gone = grind (arith, nat_tests);
  stays = λ j d h. grind (arith, nat_tests);
  closer = λ j d h. grind (arith, nat_tests);
  starts_not = λ j z. grind (arith, nat_tests);
}

-- a put at the circle is a put at its line
pub circle_putting : (c : Circle) (i : ℕ) (r : Bool) (c' : Circle) → Round c → CirclePut c i r c' → LinePut (circle_line c) i r (circle_line c')
circle_putting c i true c' g (n, e) =
    (record { within = (n.low, n.high); idle = grind (arith, nat_tests) }, subst (λ x. Joined (circle_line c) i (circle_line x)) (sym e) (joins c i g n))
circle_putting c i false c' g (refused, e) =
    (λ f. refused record { low = f.within.0; high = f.within.1; new = grind (arith, nat_tests) }, ap circle_line e)

-- a take at the circle is a take at its line
pub circle_taking : (c : Circle) (r : Option ℕ) (c' : Circle) → Round c → CircleTake c r c' → LineTake (circle_line c) r (circle_line c')
circle_taking c None c' g (empty, e) = (λ i. grind (arith, nat_tests), ap circle_line e)
circle_taking c (Some i) c' g (n, e) = subst (λ x. Given (circle_line c) i (circle_line x)) (sym e) (gives c i g n)

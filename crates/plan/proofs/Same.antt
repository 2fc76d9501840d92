-- Masters and plans with the same parts are the same: a range has one proof at most.
use Rattle.std.proofs.Common.{◌≡◌, ◌≤◌, length}
use mathlib.Core.HLevel.{is_prop→PathP, ×_prop}
use native.Mathlib.Bridge.{le_prop}
use Rattle.bounded.specs.Items.{items}
use Rattle.plan.specs.declared.Master.{Master}
use Rattle.plan.specs.declared.Plan.{Plan}
use Rattle.plan.specs.declared.Target.{Target}

pub same_master : (m n : Master) → m.hop ≡ n.hop → m.highs ≡ n.highs → m.lows ≡ n.lows → m ≡ n
same_master m n h s l = λ i. record {
  hop = h i;
  highs = s i;
  lows = l i;
  range = is_prop→PathP (λ j. (1 ≤ h j) × (h j ≤ 10000)) (λ j. ×_prop le_prop le_prop) m.range n.range i;
}

pub same_target : (s t : Target) → s.time ≡ t.time → s ≡ t
same_target s t e = λ i. record { time = e i; range = is_prop→PathP (λ j. e j ≤ 16777215) (λ j. le_prop) s.range t.range i }

pub same_plan : (p q : Plan) → p.target.time ≡ q.target.time → p.masters ≡ q.masters → p ≡ q
same_plan p q t m = λ i. record {
  target = same_target p.target q.target t i;
  masters = m i;
  some = is_prop→PathP (λ j. 1 ≤ length (items (m j))) (λ j. le_prop) p.some q.some i;
}

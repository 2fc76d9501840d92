-- What every queue keeps.
use Rattle.first_come.specs.Views.{order_of}
use Rattle.first_come.specs.declared.FirstCome.{FirstCome}
use Rattle.first_come.specs.Orders.{Lined}

pub lined : (q : FirstCome) → Lined (order_of q)
lined q = record { few = q.size.range; fits = q.few; streams = q.streams; single = q.single }

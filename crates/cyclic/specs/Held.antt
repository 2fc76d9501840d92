-- What every queue keeps.
use Rattle.cyclic.specs.Circle.{Round}
use Rattle.cyclic.specs.Views.{circle_of}
use Rattle.cyclic.specs.declared.Cyclic.{Cyclic}

pub round : (q : Cyclic) → Round (circle_of q)
round q = record { few = q.size.range; last = q.within; streams = q.streams }

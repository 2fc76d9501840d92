-- What the queue holds, in its policy's own terms.
use Rattle.std.specs.Option.{unwrap_or}
use Rattle.streams.specs.Members.{members}
use Rattle.cyclic.specs.Circle.{Circle}
use Rattle.cyclic.specs.declared.Cyclic.{Cyclic}

abbrev pub circle_of : Cyclic → Circle
circle_of q = record { size = q.size.count; last = unwrap_or q.last 0; waiting = members q.waiting }

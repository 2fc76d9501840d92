-- What the queue holds, in its policy's own terms.
use Rattle.streams.specs.Members.{members}
use Rattle.batch.specs.Groups.{Groups}
use Rattle.batch.specs.declared.Batch.{Batch}

abbrev pub groups_of : Batch → Groups
groups_of q = record { size = q.size.count; closed = members q.closed; gathered = members q.gathered }

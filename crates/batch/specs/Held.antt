-- What every queue keeps.
use Rattle.batch.specs.Groups.{Apart}
use Rattle.batch.specs.Views.{groups_of}
use Rattle.batch.specs.declared.Batch.{Batch}

pub apart : (q : Batch) → Apart (groups_of q)
apart q = record { few = q.size.range; closed = q.closing; gathered = q.gathering; once = q.once }

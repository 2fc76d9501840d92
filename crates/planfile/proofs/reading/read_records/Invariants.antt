use Rattle.std.proofs.Common.{◌-◌, length}
use Rattle.planfile.specs.Drafts.{front}
use Rattle.planfile.specs.Reading.{Behind}
use Rattle.planfile.proofs.reading.read_records.Given as goal

-- the draft is what the file has in front of what is left
abbrev pub invariant-loop-left : goal.invariant-loop-left
invariant-loop-left l = Behind l.file (front l.draft) l.left (length l.file - length l.left)

abbrev pub decreases-loop-left : goal.decreases-loop-left
decreases-loop-left l = length l.left

use Rattle.planfile.proofs.Rows.{Written}
use Rattle.planfile.proofs.writing.put_all.Given as goal

abbrev pub invariant-loop-item : goal.invariant-loop-item
invariant-loop-item g l = Written g.T.Encode.bytes l.items l.item-index l.at l.initial.out l.out

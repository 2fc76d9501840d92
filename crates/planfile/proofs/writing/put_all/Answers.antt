use Rattle.planfile.proofs.Rows.{written_room, written_more}
use Rattle.planfile.proofs.writing.put_all.Goals as goal

pub put-at-requires : goal.put-at-requires
put-at-requires g c = written_room c.loop-item.invariant c.item-item.result c.loop-item-test.true c.item-item.is

pub loop-item-preserved : goal.loop-item-preserved
loop-item-preserved g c = written_more c.loop-item.invariant c.item-item.result c.loop-item-test.true c.item-item.is _ _ c.put-at.ensures

use Rattle.std.proofs.Common.{refl}
use Rattle.bounded.specs.Items.{items}
use Rattle.plan.specs.Views.{station_of}
use Rattle.planfile.proofs.Laid.{second_room, third_room, all_put}
use Rattle.planfile.proofs.Rows.{station_parts}
use Rattle.planfile.proofs.writing.MasterEncode.put.Goals as goal

pub put_all-at-requires : goal.put_all-at-requires
put_all-at-requires c = second_room (station_parts _ _ (items c.args.self.now.lows) (station_of c.args.self.now) c.hop-hop.ensures c.highs.ensures.value refl) c.requires c.put-at.ensures

pub put_all-at-requires-2 : goal.put_all-at-requires-2
put_all-at-requires-2 c =
    third_room (station_parts _ _ _ (station_of c.args.self.now) c.hop-hop.ensures c.highs.ensures.value c.lows.ensures.value) c.requires c.put-at.ensures c.put_all-at.ensures

pub returns : goal.returns
returns c =
    all_put (station_parts _ _ _ (station_of c.args.self.now) c.hop-hop.ensures c.highs.ensures.value c.lows.ensures.value) c.requires c.put-at.ensures c.put_all-at.ensures c.put_all-at-2.ensures

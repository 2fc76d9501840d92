use Rattle.std.proofs.Common.{arith}
use Rattle.plan.specs.Views.{station_of}
use Rattle.planfile.proofs.Rows.{station_size}
use Rattle.planfile.proofs.writing.master_size.Goals as goal

pub returns-clause-value : goal.returns-clause-value
returns-clause-value c = omega (arith, station_size (station_of c.args.master.now), c.highs.ensures.len, c.lows.ensures.len)

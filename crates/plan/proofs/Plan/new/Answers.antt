use Rattle.plan.proofs.Ranges.{net_in_range}
use Rattle.plan.proofs.Plan.new.Goals as goal

pub returns-clause-ranges : goal.returns-clause-ranges
returns-clause-ranges c = net_in_range

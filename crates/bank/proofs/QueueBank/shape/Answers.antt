use Rattle.std.proofs.Common.{rules, arith}
use Rattle.bank.specs.Eight.Unshaped.{size, waiting}
use Rattle.bank.proofs.Shapings.{new_fresh}
use Rattle.bank.proofs.QueueBank.shape.Goals as goal

pub returns-in_err-shaped : goal.returns-in_err-shaped
returns-in_err-shaped g c = grind (arith, size)

pub returns-then-any_waits : goal.returns-then-any_waits
returns-then-any_waits g c = search (rules, waiting)

pub returns : goal.returns
returns g c = grind (arith, new_fresh g.Q.Queue.line g.Q.Queue.starts g.met.Q.Queue.starting)

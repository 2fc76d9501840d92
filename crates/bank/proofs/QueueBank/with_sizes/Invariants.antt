use Rattle.std.proofs.Common.{ℕ, suc, ◌<◌}
use Rattle.bank.proofs.Shapings.{FitsNew}
use Rattle.bank.proofs.QueueBank.with_sizes.Given as goal

-- the queues so far are as new with their sizes, which are at most 8
abbrev pub invariant-loop-index : goal.invariant-loop-index
invariant-loop-index g l = (j : ℕ) → j < l.index → FitsNew g.Q.Queue.starts l.fn.sizes l.queues (suc j)

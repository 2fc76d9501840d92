use Rattle.bank.proofs.Draws.{Drawing}
use Rattle.bank.proofs.waiting.take_until.Given as goal

abbrev pub invariant-loop-bank : goal.invariant-loop-bank
invariant-loop-bank g l = Drawing g.B.Bank.meaning g.B.Bank.takes l.master l.stream l.initial.bank l.takes l.bank

-- each take lowers what is left to the stream
abbrev pub decreases-loop-bank : goal.decreases-loop-bank
decreases-loop-bank g l = (g.B.Bank.meaning l.bank l.master).left l.stream

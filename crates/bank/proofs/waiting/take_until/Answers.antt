use Rattle.std.proofs.Common.{arith}
use Rattle.std.proofs.lemmas.Bool.Decides.{nat_tests}
use Rattle.bank.specs.Waiting.Passed.{none}
use Rattle.bank.proofs.Draws.Drawing.{passed}
use Rattle.bank.proofs.Draws.{draws}
use Rattle.bank.proofs.Turns.{fair}
use Rattle.bank.proofs.waiting.take_until.Goals as goal

pub loop-bank-init : goal.loop-bank-init
loop-bank-init g c = grind (arith, passed, none)

pub loop-bank-preserved : goal.loop-bank-preserved
loop-bank-preserved g c = grind (arith, nat_tests, draws g.B.Bank.meaning g.B.Bank.takes)

pub returns-clause-fair : goal.returns-clause-fair
returns-clause-fair g c = fair

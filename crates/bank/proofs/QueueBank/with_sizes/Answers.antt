use Rattle.std.proofs.Common.{suc, arith}
use Rattle.bank.specs.Eight.{TooLarge}
use Rattle.bank.proofs.Shapings.{one_more}
use Rattle.bank.proofs.QueueBank.with_sizes.Goals as goal

pub returns-in_err-try_from : goal.returns-in_err-try_from
returns-in_err-try_from g c =
    let e = c.in_err-try_from.ensures in
    let large : TooLarge c.args.sizes = record { master = suc c.loop-index.index; one = (omega arith, omega (arith, c.loop-index-test.true)); above = e.0 } in
    grind (arith, e.1, large)

pub loop-index-preserved : goal.loop-index-preserved
loop-index-preserved g c = grind (arith, one_more g.Q.Queue.starts c.args.sizes)

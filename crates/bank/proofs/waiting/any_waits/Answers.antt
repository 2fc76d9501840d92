use Rattle.std.proofs.Common.{rules, tests}
use Rattle.bank.specs.Waiting.{WaitsHere}
use Rattle.bank.proofs.Laws.{waits_somewhere}
use Rattle.bank.proofs.Searches.{any_of}
use Rattle.bank.proofs.waiting.any_waits.Goals as goal

pub returns : goal.returns
returns g c =
    let m = g.B.Bank.meaning c.args.bank.now in
    waits_somewhere m c.any.result (g.met.B.Bank.lawful c.args.bank.now)
    (any_of 8 (λ k b. WaitsHere (m k) b) (λ x b f q. search (rules, tests)) c.new.result c.new.ensures.start c.new.ensures.end c.new.ensures.exhausted c.any.result c.any.ensures.runs)

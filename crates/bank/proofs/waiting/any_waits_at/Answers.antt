use Rattle.std.proofs.Common.{◌≡◌, nat_lt, rules, tests}
use Rattle.bank.proofs.Laws.{waits_here}
use Rattle.bank.proofs.Searches.{any_of}
use Rattle.bank.proofs.waiting.any_waits_at.Goals as goal

pub returns : goal.returns
returns g c =
    let m = g.B.Bank.meaning c.args.bank.now in
    let k = c.args.master in
    waits_here (m k) c.any.result ((g.met.B.Bank.lawful c.args.bank.now).orderly k)
    (any_of 8 (λ i b. b ≡ nat_lt 0 ((m k).left i)) (λ x b f q. search (rules, tests)) c.new.result c.new.ensures.start c.new.ensures.end c.new.ensures.exhausted c.any.result c.any.ensures.runs)

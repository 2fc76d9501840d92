use Rattle.std.proofs.Common.{◌≡◌, List, ℕ, length, get_or, Ok, Err, Result, sym, ap, ◌∙◌, arith, MatchResult}
use Rattle.refusal.specs.declared.Refusal.{Refusal}
use Rattle.plan.specs.Net.{Net, NetInRange}
use Rattle.plan.specs.Views.{net}
use Rattle.plan.specs.declared.Plan.{Plan}
use Rattle.plan.proofs.Ranges.{net_in_range}
use Rattle.planfile.specs.Format.{encoded}
use Rattle.planfile.specs.Reading.{Refused}
use Rattle.planfile.specs.Reading.Refused.{version}
use Rattle.planfile.proofs.Once.{refused_once, accepted_not_refused, encoded_once}
use Rattle.planfile.proofs.reading.read.Goals as goal

-- an answer that is right is the only right one
module _ (file : List ℕ) where
  accepts : (r : Result Plan Refusal) → MatchResult r (λ p. file ≡ encoded (net p)) (λ e. Refused file e) → (n : Net) → NetInRange n → file ≡ encoded n → MatchResult r (λ p. net p ≡ n) (λ _. ⊥)
  accepts (Ok p) is n range e = encoded_once (net p) n (net_in_range p) range (sym is ∙ e)
  accepts (Err x) refused n range e = accepted_not_refused n file x range e refused

  refuses : (r : Result Plan Refusal) → MatchResult r (λ p. file ≡ encoded (net p)) (λ e. Refused file e) → (e : Refusal) → Refused file e → r ≡ Err e
  refuses (Ok p) is e refused = absurd (accepted_not_refused (net p) file e (net_in_range p) is refused)
  refuses (Err x) refused e also = ap Err (refused_once file x e refused also)

pub returns-in_default-clause-value : goal.returns-in_default-clause-value
returns-in_default-clause-value c = version (λ v. omega (arith, ap length v.1))

pub returns-in_default-2-clause-value : goal.returns-in_default-2-clause-value
returns-in_default-2-clause-value c = version (λ v. omega (arith, ap (λ xs. get_or xs 0 0) v.1))

pub returns-clause-accepts : goal.returns-clause-accepts
returns-clause-accepts c = accepts _ _ c.read_records.ensures

pub returns-clause-back : goal.returns-clause-back
returns-clause-back c = λ q. accepts _ _ c.read_records.ensures (net q) (net_in_range q)

pub returns-clause-refuses : goal.returns-clause-refuses
returns-clause-refuses c = refuses _ _ c.read_records.ensures

-- Where a `?` ends a function.
use Rattle.std.proofs.Common.{◌≡◌, Err, Result, None, Option, subst, arith, MatchResult}
use Rattle.std.specs.Option.{MatchOption, ok_or}
use Rattle.std.specs.Result.{IsErrAnd}
use Rattle.std.proofs.lemmas.Option.{MatchOption-at_none}
use Rattle.std.proofs.lemmas.Result.{err_from_is_err_and}
use Rattle.refusal.specs.declared.Refusal.{Refusal}

-- what its error says is said of the answer
pub handed_on : {T : Type 0} (P : T → Type 0) (Q : Refusal → Type 0) (out : Result T Refusal) (d : Refusal) → IsErrAnd out (λ e. e ≡ d) → Q d → MatchResult out P Q
handed_on P Q out d ends q = let p = err_from_is_err_and out ends in rw (p.1, p.2) q

-- the same of an `o.ok_or(e)?`
pub none_handed_on : {T X N : Type 0} (P : T → Type 0) (Q : Refusal → Type 0) (out : Result T Refusal) (S : X → Type 0) {o : Option X} {d e : Refusal}
    → IsErrAnd out (λ x. x ≡ d) → o ≡ None → Err d ≡ ok_or o e → MatchOption o N S → (N → Q e) → MatchResult out P Q
none_handed_on {N = N} P Q out S {o} {d} {e} ends none value is q =
    let same : e ≡ d = grind arith in
    handed_on P Q out d ends (subst Q same (q (MatchOption-at_none N S none is)))

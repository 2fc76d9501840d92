-- How a policy shows that a new queue has its size and that nothing waits in it.
use Rattle.std.specs.Prelude.{◌≡◌, ℕ}
use Rattle.std.proofs.Common.{sym, subst}
use Rattle.bank.specs.Meaning.{Idle, Line}

-- a state that equals a new one has the new one's size, and nothing waits in it
pub as_new : {S : Type 0} (line : S → Line) (n : ℕ) {s new : S} → (line new).size ≡ n → Idle (line new) → s ≡ new → ((line s).size ≡ n) × Idle (line s)
as_new line n size idle e = subst (λ x. ((line x).size ≡ n) × Idle (line x)) (sym e) (size, idle)

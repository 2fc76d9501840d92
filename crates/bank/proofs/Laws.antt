-- What follows from the ranges of a line and of a bank alone, and from where a bank moves.
use Rattle.std.proofs.Common.{◌≡◌, ℕ, ◌≤◌, Bool, true, false, nat_lt, sym, subst, ⊎_elim, arith, MatchBool}
use Rattle.std.proofs.lemmas.Bool.{cases_eq}
use Rattle.std.proofs.lemmas.Bool.Decides.{nat_tests}
use Rattle.bank.specs.Meaning.{Lawful, Line, Meaning, Moves, Orderly}
use Rattle.bank.specs.Waiting.{WaitsHere, WaitsSomewhere}

-- no left number is above 16
pub left_few : (l : Line) → Orderly l → (i : ℕ) → l.left i ≤ 16
left_few l o i = grind (arith, nat_tests)

-- what waits at none of eight streams, or at none of eight masters, waits nowhere
pub waits_here : (l : Line) (r : Bool) → Orderly l → MatchBool r ((i : ℕ) × (true ≡ nat_lt 0 (l.left i))) ((i : ℕ) → 1 ≤ i → i ≤ 8 → false ≡ nat_lt 0 (l.left i)) → WaitsHere l r
waits_here l r o h = grind (arith, nat_tests)

pub waits_somewhere : (m : Meaning) (r : Bool) → Lawful m → MatchBool r ((k : ℕ) × WaitsHere (m k) true) ((k : ℕ) → 1 ≤ k → k ≤ 8 → WaitsHere (m k) false) → WaitsSomewhere m r
waits_somewhere m r o h = grind (arith, nat_tests)

-- what holds of the line that moves, and of every line that stays, holds of each line
module _ (R : Line → Line → Type 0) (m : Meaning) (k : ℕ) (m' : Meaning) (v : Moves R m k m') where
  pub each : (P : ℕ → Line → Line → Type 0) → (R (m k) (m' k) → P k (m k) (m' k)) → ((j : ℕ) → (j ≡ k → ⊥) → P j (m j) (m j)) → (j : ℕ) → P j (m j) (m' j)
  each P here there j =
      ⊎_elim
      (λ e. subst (λ x. P x (m x) (m' x)) (sym e) (here v.here))
      (λ d. subst (P j (m j)) (sym (v.elsewhere j d)) (there j d))
      (cases_eq j k)

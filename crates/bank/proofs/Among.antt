-- One of 1 to n.
use Rattle.std.proofs.Common.{◌≡◌, ℕ, ◌≤◌, true, false, arith}
use Rattle.std.proofs.lemmas.Bool.Decides.{nat_tests}
use Rattle.bank.specs.Counts.{among}

-- one of 1 to n is among them
pub among_true : (n i : ℕ) → 1 ≤ i → i ≤ n → among n i ≡ true
among_true n i low high = grind (arith, nat_tests)

-- and none but these
pub among_parts : (n i : ℕ) → among n i ≡ true → (1 ≤ i) × (i ≤ n)
among_parts n i h = grind (arith, nat_tests)

-- any other is not
pub among_false : (n i : ℕ) → ((1 ≤ i) × (i ≤ n) → ⊥) → among n i ≡ false
among_false n i out = grind (arith, nat_tests)

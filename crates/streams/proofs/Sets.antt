-- Who is in a set of streams.
use Rattle.std.proofs.Common.{◌≡◌, ℕ, ◌≤◌, true, false, ◌⊎◌, sym, ap, ◌∙◌, inl, inr, ⊎_elim, arith}
use Rattle.std.proofs.lemmas.Bool.{cases_eq}
use Rattle.std.proofs.lemmas.Bool.Decides.{nat_tests}
use Rattle.streams.specs.Streams.{Streams, nobody, with, without, AllAmong}

-- who was added is in it
pub with_same : (s : Streams) (i : ℕ) → with s i i ≡ true
with_same s i = grind (arith, nat_tests)

-- for the others an addition changes nothing
pub with_other : (s : Streams) (i j : ℕ) → (j ≡ i → ⊥) → with s i j ≡ s j
with_other s i j n = grind (arith, nat_tests)

-- who was removed is not in it
pub without_same : (s : Streams) (i : ℕ) → without s i i ≡ false
without_same s i = grind (arith, nat_tests)

-- for the others a removal changes nothing
pub without_other : (s : Streams) (i j : ℕ) → (j ≡ i → ⊥) → without s i j ≡ s j
without_other s i j n = grind (arith, nat_tests)

-- who is in it after an addition was added, or was in it
pub with_member : (s : Streams) (i j : ℕ) → with s i j ≡ true → (j ≡ i) ⊎ (s j ≡ true)
with_member s i j h = ⊎_elim (λ e. inl e) (λ n. inr (sym (with_other s i j n) ∙ h)) (cases_eq j i)

-- who is in it after a removal was in it
pub without_member : (s : Streams) (i j : ℕ) → without s i j ≡ true → s j ≡ true
without_member s i j h = grind (arith, nat_tests)

-- who is not in it is not in it after a removal
pub without_absent : (s : Streams) (i j : ℕ) → s j ≡ false → without s i j ≡ false
without_absent s i j h = grind (arith, nat_tests)

-- who is not in it need not be removed
pub without_gone : (s : Streams) (i : ℕ) → s i ≡ false → s ≡ without s i
without_gone s i h = λ x j. same j x
  where
    same : (j : ℕ) → s j ≡ without s i j
    same j = grind (arith, nat_tests)

-- of nobody all are among 1 to n
pub all_nobody : (n : ℕ) (s : Streams) → s ≡ nobody → AllAmong n s
all_nobody n s e i h = let none = ap (λ t. t i) e in grind (arith, nat_tests)

module _ (n : ℕ) (s s' : Streams) (i : ℕ) (all : AllAmong n s) where
  -- all are among 1 to n still when one of these came
  pub all_with : s' ≡ with s i → 1 ≤ i → i ≤ n → AllAmong n s'
  all_with e low high j h = let came = ap (λ t. t j) e in grind (arith, nat_tests)

  -- and when one left
  pub all_without : s' ≡ without s i → AllAmong n s'
  all_without e j h = let left = ap (λ t. t j) e in grind (arith, nat_tests)

-- New queues, and what a bank of new queues means.
use Rattle.std.proofs.Common.{◌≡◌, ℕ, suc, ◌+◌, ◌<◌, ◌≤◌, List, None, ⊎_elim, arith}
use Rattle.std.proofs.lemmas.Bool.Decides.{nat_tests}
use Rattle.std.proofs.lemmas.Bool.{cases_eq}
use Rattle.bank.specs.ByMaster.{Placed}
use Rattle.bank.specs.Eight.{AsNew, Fresh, queue_of, Shaped, size_at}
use Rattle.bank.specs.Meaning.{Idle, Line, Master}
use Rattle.bank.specs.declared.PerMaster.{PerMaster}
use Rattle.bank.specs.declared.QueueBank.{QueueBank}

-- one more master gets a new queue
module _ {Q : Type 0} (starts : ℕ → Q → Type 0) (ns : List ℕ) where
  abbrev pub FitsNew : PerMaster Q → ℕ → Type 0
  FitsNew t k = (size_at ns k ≤ 8) × AsNew starts t k (size_at ns k)

  pub one_more : (t t' : PerMaster Q) (k : ℕ) (q : Q) → k < 8 → Placed t (k + 1) q t' → size_at ns (suc k) ≤ 8 → starts (size_at ns (suc k)) q → ((j : ℕ) → j < k → FitsNew t (suc j)) → (j : ℕ) → j < k + 1 → FitsNew t' (suc j)
  one_more t t' k q l p fit s h j m =
      ⊎_elim
      (λ e. grind (arith, p.here (omega arith, omega arith)))
      (λ d. let was = h j (omega arith) in grind (arith, was, p.elsewhere (suc j)))
      (cases_eq j k)

-- outside the masters there is no queue
no_queue : {Q : Type 0} (b : QueueBank Q) (k : ℕ) → (Master k → ⊥) → queue_of b k ≡ None
no_queue b k n = grind (arith, nat_tests)

-- new queues have their sizes, and nothing waits in them
module _ {Q : Type 0} (line : Q → Line) (starts : ℕ → Q → Type 0) (law : (n : ℕ) (q : Q) → starts n q → ((line q).size ≡ n) × Idle (line q)) (sizes : ℕ → ℕ) (b : QueueBank Q) (new : Shaped starts sizes b) where
  pub new_fresh : Fresh line sizes b
  new_fresh = record { sized = λ k m. grind (arith, nat_tests, new k m, law); idle = λ k i. grind (arith, nat_tests, new k, law, no_queue) }

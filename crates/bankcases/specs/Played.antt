-- What a bank answers to a call, and what it is afterwards.
use Rattle.std.specs.Prelude.{◌≡◌, ℕ, Bool, List, Option, Result, nat_lt}
use Rattle.refusal.specs.declared.Refusal.{Refusal}
use Rattle.bank.specs.Eight.{means, PolicyPut, PolicyTake, Shapes}
use Rattle.bank.specs.Meaning.{Line}
use Rattle.bank.specs.declared.QueueBank.{QueueBank}
use Rattle.bankcases.specs.declared.answer.Answer.{Answer}
use Rattle.bankcases.specs.declared.answer.Answer.TheVariants.{Count, Told, Given, Shaped}
use Rattle.bankcases.specs.declared.call.Call.{Call}
use Rattle.bankcases.specs.declared.call.Call.TheVariants.{Shape, Size, Turns, Waits, Put, Take}

-- a question leaves the bank as it was; a shaping, a put and a take do what the bank's own rule says
pub data Played {Q : Type 0} (line : Q → Line) (starts : ℕ → Q → Type 0) (puts : Q → ℕ → Bool → Q → Type 0) (takes : Q → Option ℕ → Q → Type 0) (b : QueueBank Q) : Call → Answer → QueueBank Q → Type 0 where
  shaped : {ns : List ℕ} {r : Result (Unit {0}) Refusal} {b' : QueueBank Q} → Shapes line starts b ns r b' → Played line starts puts takes b (Shape ns) (Shaped r) b'
  sized : {k n : ℕ} → n ≡ (means line b k).size → Played line starts puts takes b (Size k) (Count n) b
  turned : {k i n : ℕ} → n ≡ (means line b k).turns i → Played line starts puts takes b (Turns k i) (Count n) b
  waiting : {k i : ℕ} {r : Bool} → r ≡ nat_lt 0 ((means line b k).left i) → Played line starts puts takes b (Waits k i) (Told r) b
  put : {k i : ℕ} {r : Bool} {b' : QueueBank Q} → PolicyPut puts b k i r b' → Played line starts puts takes b (Put k i) (Told r) b'
  taken : {k : ℕ} {r : Option ℕ} {b' : QueueBank Q} → PolicyTake takes b k r b' → Played line starts puts takes b (Take k) (Given r) b'

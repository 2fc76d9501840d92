-- What eight queues are as a bank.
use Rattle.std.specs.Prelude.{◌≡◌, ℕ, zero, suc, ◌<◌, ◌≤◌, Bool, false, List, Some, None, Option, Result, MatchResult, ◌≢◌, slice_index}
use Rattle.refusal.specs.declared.Refusal.{Refusal}
use Rattle.refusal.specs.declared.Refusal.TheVariants.{SizeTooLarge, ShapeWhileWaiting}
use Rattle.bank.specs.ByMaster.{of_master}
use Rattle.bank.specs.Meaning.{Line, Master, Meaning}
use Rattle.bank.specs.Waiting.{AllIdle, WaitingIn}
use Rattle.bank.specs.declared.PerMaster.{PerMaster}
use Rattle.bank.specs.declared.QueueBank.{QueueBank}

-- a line without a stream
abbrev pub no_line : Line
no_line = record { size = 0; turns = λ i. 0; left = λ i. 0 }

-- the line of a queue, if there is one
abbrev pub line_of : {Q : Type 0} → (Q → Line) → Option Q → Line
line_of line None = no_line
line_of line (Some q) = line q

-- the queue of the master k, if there is such a master
abbrev pub queue_of : {Q : Type 0} → QueueBank Q → ℕ → Option Q
queue_of b k = of_master b.queues k

-- the bank's meaning: each master's line is that of its queue
abbrev pub means : {Q : Type 0} → (Q → Line) → QueueBank Q → Meaning
means line b k = line_of line (queue_of b k)

-- the queue of the master k goes from one state to another by R, and no other queue changes
pub record QueueMoves {Q : Type 0} (R : Q → Q → Type 0) (b : QueueBank Q) (k : ℕ) (b' : QueueBank Q) : Type 0 where
  pub was : Q
  pub is : Q
  pub stood : queue_of b k ≡ Some was
  pub stands : queue_of b' k ≡ Some is
  pub moves : R was is
  pub others : (j : ℕ) → (j ≢ k) → queue_of b' j ≡ queue_of b j

-- a call at the master k: what its queue does, or, where there is no such master, the answer N and no change
pub record AtMaster {Q : Type 0} (R : Q → Q → Type 0) (N : Type 0) (b : QueueBank Q) (k : ℕ) (b' : QueueBank Q) : Type 0 where
  pub within : Master k → QueueMoves R b k b'
  pub beyond : (Master k → ⊥) → N × (b' ≡ b)

-- the policy's own put and take, at the queue of one master
abbrev pub PolicyPut : {Q : Type 0} → (Q → ℕ → Bool → Q → Type 0) → QueueBank Q → ℕ → ℕ → Bool → QueueBank Q → Type 0
PolicyPut puts b k i r b' = AtMaster (λ q q'. puts q i r q') (r ≡ false) b k b'

abbrev pub PolicyTake : {Q : Type 0} → (Q → Option ℕ → Q → Type 0) → QueueBank Q → ℕ → Option ℕ → QueueBank Q → Type 0
PolicyTake takes b k r b' = AtMaster (λ q q'. takes q r q') (r ≡ None) b k b'

-- the queue of the master k is as new, with n streams
pub record AsNew {Q : Type 0} (starts : ℕ → Q → Type 0) (qs : PerMaster Q) (k n : ℕ) : Type 0 where
  pub queue : Q
  pub stands : of_master qs k ≡ Some queue
  pub begins : starts n queue

-- every queue is as new, with as many streams as `sizes` says for its master
abbrev pub Shaped : {Q : Type 0} → (ℕ → Q → Type 0) → (ℕ → ℕ) → QueueBank Q → Type 0
Shaped starts sizes b = (k : ℕ) → Master k → AsNew starts b.queues k (sizes k)

-- so in the bank's own words: these are the sizes, and nothing waits
pub record Fresh {Q : Type 0} (line : Q → Line) (sizes : ℕ → ℕ) (b : QueueBank Q) : Type 0 where
  pub sized : (k : ℕ) → Master k → (means line b k).size ≡ sizes k
  pub idle : AllIdle (means line b)

-- the size that a list of eight gives the master k
abbrev pub size_at : List ℕ → ℕ → ℕ
size_at ns zero = 0
size_at ns (suc k) = slice_index ns k

-- every size is at most 8
abbrev pub Fitting : List ℕ → Type 0
Fitting ns = (k : ℕ) → Master k → size_at ns k ≤ 8

-- some size is above 8
pub record TooLarge (ns : List ℕ) : Type 0 where
  pub master : ℕ
  pub one : Master master
  pub above : 8 < size_at ns master

-- why a bank is not shaped: first a size above 8, then something that waits
pub data Unshaped (m : Meaning) (ns : List ℕ) : Refusal → Type 0 where
  size : TooLarge ns → Unshaped m ns SizeTooLarge
  waiting : Fitting ns → WaitingIn m → Unshaped m ns ShapeWhileWaiting

-- shaping: a bank as new with these sizes, or a refusal and no change
abbrev pub Shapes : {Q : Type 0} → (Q → Line) → (ℕ → Q → Type 0) → QueueBank Q → List ℕ → Result (Unit {0}) Refusal → QueueBank Q → Type 0
Shapes line starts b ns r b' = MatchResult r
    (λ _. (Fitting ns × AllIdle (means line b)) × (Fresh line (size_at ns) b' × Shaped starts (size_at ns) b'))
    (λ e. Unshaped (means line b) ns e × (b' ≡ b))

-- a new bank with these sizes, refused where one is above 8
abbrev pub Built : {Q : Type 0} → (ℕ → Q → Type 0) → List ℕ → Result (QueueBank Q) Refusal → Type 0
Built starts ns r = MatchResult r
    (λ b. Fitting ns × Shaped starts (size_at ns) b)
    (λ e. TooLarge ns × (e ≡ SizeTooLarge))

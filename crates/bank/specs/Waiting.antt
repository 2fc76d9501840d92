-- Whether something waits in a bank, and how many takes a stream still waits for.
use Rattle.std.specs.Prelude.{◌≡◌, ℕ, ◌+◌, ◌≤◌, Bool, true, false, Some, Option, ◌≢◌}
use Rattle.bank.specs.Meaning.{Idle, Line, Meaning, Take, Waits}

-- some stream waits at the line
pub record WaitingAt (l : Line) : Type 0 where
  pub stream : ℕ
  pub waits : Waits l stream

-- some stream waits at some master
pub record WaitingIn (m : Meaning) : Type 0 where
  pub master : ℕ
  pub stream : ℕ
  pub waits : Waits (m master) stream

-- nothing waits at any master
abbrev pub AllIdle : Meaning → Type 0
AllIdle m = (k : ℕ) → Idle (m k)

-- the answer whether something waits at a line, and in a bank
abbrev pub WaitsHere : Line → Bool → Type 0
WaitsHere l true = WaitingAt l
WaitsHere l false = Idle l

abbrev pub WaitsSomewhere : Meaning → Bool → Type 0
WaitsSomewhere m true = WaitingIn m
WaitsSomewhere m false = AllIdle m

-- A take at a bank, in its meaning and by its policy.
abbrev pub Taken : {B : Type 0} → (B → Meaning) → (B → ℕ → Option ℕ → B → Type 0) → B → ℕ → Option ℕ → B → Type 0
Taken meaning takes b k r b' = Take (meaning b) k r (meaning b') × takes b k r b'

module _ {B : Type 0} (meaning : B → Meaning) (takes : B → ℕ → Option ℕ → B → Type 0) (k i : ℕ) where
  -- n takes at the master k, none of which gave the stream i
  pub data Passed (b : B) : ℕ → B → Type 0 where
    none : Passed b 0 b
    more : {n : ℕ} {b' b'' : B} {j : ℕ} → (j ≢ i) → Passed b n b' → Taken meaning takes b' k (Some j) b'' → Passed b (n + 1) b''

  -- n takes at the master k, the last of which gave the stream i and none before
  pub record GivenBy (b : B) (n : ℕ) (b' : B) : Type 0 where
    pub before : ℕ
    pub then : B
    pub passed : Passed b before then
    pub given : Taken meaning takes then k (Some i) b'
    pub count : n ≡ before + 1

  -- Takes at the master k until the stream i is given: one of the next takes gives it, as many as its
  -- left number. If it does not wait, the bank stays as it is.
  pub record Drawn (b : B) (n : ℕ) (b' : B) : Type 0 where
    pub by_then : n ≤ (meaning b k).left i
    pub given : Waits (meaning b k) i → GivenBy b n b'
    pub idle : (meaning b k).left i ≡ 0 → b' ≡ b

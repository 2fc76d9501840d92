-- Calls on a bank one after another, at any masters and of any streams, and what they do to those that wait.
use Rattle.std.specs.Prelude.{◌≡◌, ℕ, ◌+◌, ◌<◌, ◌≤◌, Bool, true, false, cond, ◌&&◌, List, [], ◌∷◌, sum_by, Some, None, Option, ◌==◌}
use Rattle.std.specs.List.{list_any}
use Rattle.bank.specs.Meaning.{Meaning, Put, Take, Waits}

-- a put of a stream at a master, or a take at a master, with its answer
pub data Call : Type 0 where
  put : ℕ → ℕ → Bool → Call
  take : ℕ → Option ℕ → Call

abbrev pub Does : Meaning → Call → Meaning → Type 0
Does m (put k i r) m' = Put m k i r m'
Does m (take k r) m' = Take m k r m'

-- the calls lead from m to m'; the newest stands first
pub data Runs (m : Meaning) : List Call → Meaning → Type 0 where
  rest : Runs m [] m
  then : {c : Call} {cs : List Call} {m' m'' : Meaning} → Runs m cs m' → Does m' c m'' → Runs m (c ∷ cs) m''

-- 1 for a take at the master k that gave a stream
abbrev pub takes_one : ℕ → Call → ℕ
takes_one k (put k' i' r) = 0
takes_one k (take k' None) = 0
takes_one k (take k' (Some j)) = cond (k' == k) 1 0

-- how many takes at the master k gave a stream
abbrev pub taken : ℕ → List Call → ℕ
taken k = sum_by (takes_one k)

-- the call gives the stream i of the master k
abbrev pub gives : ℕ → ℕ → Call → Bool
gives k i (put k' i' r) = false
gives k i (take k' None) = false
gives k i (take k' (Some j)) = k' == k && j == i

-- a call gives it
abbrev pub given : ℕ → ℕ → List Call → Bool
given k i = list_any (gives k i)

-- the call puts the stream i of the master k
abbrev pub puts : ℕ → ℕ → Call → Bool
puts k i (put k' i' r) = k' == k && i' == i
puts k i (take k' r) = false

-- a call puts it
abbrev pub ever_put : ℕ → ℕ → List Call → Bool
ever_put k i = list_any (puts k i)

-- what calls do, whatever they are
pub record InTurn (m : Meaning) (cs : List Call) (m' : Meaning) : Type 0 where
  -- sizes and turns stay
  pub sizes : (k : ℕ) → (m' k).size ≡ (m k).size
  pub turns : (k i : ℕ) → (m' k).turns i ≡ (m k).turns i
  -- what waits and is not given goes on waiting, and each take at its master lowered what is left to it
  pub waits : (k i : ℕ) → Waits (m k) i → given k i cs ≡ false → Waits (m' k) i × (taken k cs + (m' k).left i ≤ (m k).left i)
  -- what does not wait and is not put does not wait
  pub idle : (k i : ℕ) → (m k).left i ≡ 0 → ever_put k i cs ≡ false → (m' k).left i ≡ 0

-- For every bank: whatever is called after a put was accepted, fewer takes than its turns go by at
-- its master before the stream is given.
pub record Fair : Type 0 where
  pub in_turn : (m : Meaning) (cs : List Call) (m' : Meaning) → Runs m cs m' → InTurn m cs m'
  pub prompt : (m : Meaning) (k i : ℕ) (m' : Meaning) (cs : List Call) (m'' : Meaning) → Put m k i true m' → Runs m' cs m'' → given k i cs ≡ false → taken k cs < (m k).turns i

-- Sets of streams, by number.
use Rattle.std.specs.Prelude.{◌≡◌, ℕ, zero, suc, ◌+◌, ◌<◌, ◌≤◌, Bool, true, false, cond, ◌||◌, Some, None, Option, ◌==◌}

-- for each number whether it is in the set
abbrev pub Streams : Type 0
Streams = ℕ → Bool

-- the empty set
abbrev pub nobody : Streams
nobody j = false

-- i as well
abbrev pub with : Streams → ℕ → Streams
with s i j = cond (j == i) true (s j)

-- all but i
abbrev pub without : Streams → ℕ → Streams
without s i j = cond (j == i) false (s j)

-- those of both sets
abbrev pub either : Streams → Streams → Streams
either s t j = s j || t j

-- how many of them are among 1 to i
abbrev pub count : Streams → ℕ → ℕ
count s zero = 0
count s (suc i) = cond (s (suc i)) (count s i + 1) (count s i)

-- all are among 1 to n
abbrev pub AllAmong : ℕ → Streams → Type 0
AllAmong n s = (i : ℕ) → s i ≡ true → (1 ≤ i) × (i ≤ n)

-- nobody is in it
abbrev pub Empty : Streams → Type 0
Empty s = (i : ℕ) → s i ≡ false

-- i is in it, and none that is in it is lower
pub record Lowest (s : Streams) (i : ℕ) : Type 0 where
  pub member : s i ≡ true
  pub lowest : (j : ℕ) → s j ≡ true → i ≤ j

-- the lowest in it above k, if there is one
abbrev pub Above : Streams → ℕ → Option ℕ → Type 0
Above s k None = (j : ℕ) → k < j → s j ≡ false
Above s k (Some i) = (s i ≡ true) × ((k < i) × ((j : ℕ) → k < j → s j ≡ true → i ≤ j))

-- i is one of 1 to n that is not in it
pub record Newcomer (n : ℕ) (s : Streams) (i : ℕ) : Type 0 where
  pub low : 1 ≤ i
  pub high : i ≤ n
  pub new : s i ≡ false

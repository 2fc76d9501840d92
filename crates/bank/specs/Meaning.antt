-- What a bank means: by master a line of streams, and what a put and a take do to it.
use Rattle.std.specs.Prelude.{◌≡◌, ℕ, ◌<◌, ◌≤◌, Bool, true, false, Some, None, Option, ◌≢◌}

-- What stands at one master: how many streams it has, the turns of each, and the number left to
-- each that waits; a stream whose left number is 0 does not wait.
pub record Line : Type 0 where
  pub size : ℕ
  pub turns : ℕ → ℕ
  pub left : ℕ → ℕ

-- the line of each master
abbrev pub Meaning : Type 0
Meaning = ℕ → Line

-- there is such a master
abbrev pub Master : ℕ → Type 0
Master k = (1 ≤ k) × (k ≤ 8)

-- there is such a stream
abbrev pub Within : Line → ℕ → Type 0
Within l i = (1 ≤ i) × (i ≤ l.size)

-- the stream i waits
abbrev pub Waits : Line → ℕ → Type 0
Waits l i = 1 ≤ l.left i

-- nothing waits
abbrev pub Idle : Line → Type 0
Idle l = (i : ℕ) → l.left i ≡ 0

-- the numbers of a line keep their ranges
pub record Orderly (l : Line) : Type 0 where
  -- at most eight streams
  pub few : l.size ≤ 8
  -- 1 to 16 turns for each of them
  pub turned : (i : ℕ) → Within l i → (1 ≤ l.turns i) × (l.turns i ≤ 16)
  -- and none outside
  pub beyond : (i : ℕ) → (Within l i → ⊥) → l.turns i ≡ 0
  -- a left number is at most the turns, so what is outside does not wait
  pub near : (i : ℕ) → l.left i ≤ l.turns i

-- and so do those of a bank
pub record Lawful (m : Meaning) : Type 0 where
  pub orderly : (k : ℕ) → Orderly (m k)
  -- outside the masters there is no stream
  pub beyond : (k : ℕ) → (Master k → ⊥) → (m k).size ≡ 0

-- no put and no take changes a size or a number of turns
pub record SameShape (l l' : Line) : Type 0 where
  pub size : l'.size ≡ l.size
  pub turns : (i : ℕ) → l'.turns i ≡ l.turns i

-- a put is accepted: there is such a stream, and it does not wait
pub record Free (l : Line) (i : ℕ) : Type 0 where
  pub within : Within l i
  pub idle : l.left i ≡ 0

-- the stream i joins those that wait
pub record Joined (l : Line) (i : ℕ) (l' : Line) : Type 0 where
  pub shape : SameShape l l'
  -- it waits now, with a left number from 1 to its turns
  pub waits : Waits l' i
  pub near : l'.left i ≤ l.turns i
  -- of the others none stops waiting
  pub stays : (j : ℕ) → (j ≢ i) → Waits l j → Waits l' j
  -- and no left number rises; where it was 0 it stays 0, so none starts
  pub rises_not : (j : ℕ) → (j ≢ i) → l'.left j ≤ l.left j

-- the stream i is given
pub record Given (l : Line) (i : ℕ) (l' : Line) : Type 0 where
  pub shape : SameShape l l'
  -- it waited, and waits no more
  pub waited : Waits l i
  pub gone : l'.left i ≡ 0
  -- every other one that waits goes on, its left number lowered by at least one
  pub stays : (j : ℕ) → (j ≢ i) → Waits l j → Waits l' j
  pub closer : (j : ℕ) → (j ≢ i) → Waits l j → l'.left j < l.left j
  -- none starts
  pub starts_not : (j : ℕ) → l.left j ≡ 0 → l'.left j ≡ 0

-- a put at a line, by its answer: yes exactly if the stream is free, and a no changes nothing
abbrev pub LinePut : Line → ℕ → Bool → Line → Type 0
LinePut l i true l' = Free l i × Joined l i l'
LinePut l i false l' = (Free l i → ⊥) × (l' ≡ l)

-- a take at a line, by its answer: none exactly if nothing waits, and then nothing changes
abbrev pub LineTake : Line → Option ℕ → Line → Type 0
LineTake l None l' = Idle l × (l' ≡ l)
LineTake l (Some i) l' = Given l i l'

-- the line of the master k moves by R, and nothing changes at another
pub record Moves (R : Line → Line → Type 0) (m : Meaning) (k : ℕ) (m' : Meaning) : Type 0 where
  pub here : R (m k) (m' k)
  pub elsewhere : (j : ℕ) → (j ≢ k) → m' j ≡ m j

-- a put of the stream i at the master k, with its answer
abbrev pub Put : Meaning → ℕ → ℕ → Bool → Meaning → Type 0
Put m k i r m' = Moves (λ l l'. LinePut l i r l') m k m'

-- a take at the master k, with its answer
abbrev pub Take : Meaning → ℕ → Option ℕ → Meaning → Type 0
Take m k r m' = Moves (λ l l'. LineTake l r l') m k m'

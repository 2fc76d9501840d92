-- The cyclic queue: it looks from the stream after the one given last, and wraps.
use Rattle.std.specs.Prelude.{◌≡◌, ℕ, ◌+◌, ◌-◌, ◌≤◌, Bool, true, false, cond, Some, None, Option, nat_lt}
use Rattle.bank.specs.Counts.{even_turns}
use Rattle.bank.specs.Meaning.{Line}
use Rattle.streams.specs.Streams.{Streams, nobody, with, without, AllAmong, Empty, Newcomer}

pub record Circle : Type 0 where
  pub size : ℕ
  -- the stream given last; at first 0, so that the search begins with stream 1
  pub last : ℕ
  pub waiting : Streams

-- how many numbers the stream i is on from the one given last, counting round
abbrev pub reach : Circle → ℕ → ℕ
reach c i = cond (nat_lt c.last i) (i - c.last) ((i + c.size) - c.last)

-- the left number is the reach, in stream numbers: a newcomer in between does not change it
abbrev pub circle_line : Circle → Line
circle_line c = record {
  size = c.size;
  turns = even_turns c.size;
  left = λ i. cond (c.waiting i) (reach c i) 0;
}

pub record Round (c : Circle) : Type 0 where
  pub few : c.size ≤ 8
  pub last : c.last ≤ c.size
  pub streams : AllAmong c.size c.waiting

abbrev pub new_circle : ℕ → Circle
new_circle n = record { size = n; last = 0; waiting = nobody }

-- of those that wait, i is the first in reach
pub record Next (c : Circle) (i : ℕ) : Type 0 where
  pub waits : c.waiting i ≡ true
  pub first : (j : ℕ) → c.waiting j ≡ true → reach c i ≤ reach c j

-- the one to give, if anyone waits
abbrev pub Nearest : Circle → Option ℕ → Type 0
Nearest c None = Empty c.waiting
Nearest c (Some i) = Next c i

-- the circle after a put of i, and after i was given
abbrev pub circle_with : Circle → ℕ → Circle
circle_with c i = record { size = c.size; last = c.last; waiting = with c.waiting i }

abbrev pub circle_past : Circle → ℕ → Circle
circle_past c i = record { size = c.size; last = i; waiting = without c.waiting i }

abbrev pub CirclePut : Circle → ℕ → Bool → Circle → Type 0
CirclePut c i true c' = Newcomer c.size c.waiting i × (c' ≡ circle_with c i)
CirclePut c i false c' = (Newcomer c.size c.waiting i → ⊥) × (c' ≡ c)

abbrev pub CircleTake : Circle → Option ℕ → Circle → Type 0
CircleTake c None c' = Nearest c None × (c' ≡ c)
CircleTake c (Some i) c' = Nearest c (Some i) × (c' ≡ circle_past c i)

-- The batch queue: newcomers gather in an open group while the closed one is served.
use Rattle.std.specs.Prelude.{◌≡◌, ℕ, ◌+◌, ◌-◌, ◌≤◌, Bool, true, false, cond, Some, None, Option}
use Rattle.bank.specs.Counts.{among}
use Rattle.bank.specs.Meaning.{Line}
use Rattle.streams.specs.Streams.{Streams, nobody, with, without, either, count, AllAmong, Empty, Lowest, Newcomer}

pub record Groups : Type 0 where
  pub size : ℕ
  -- the closed group, which takes are served from
  pub closed : Streams
  -- the open group, which gathers the newcomers
  pub gathered : Streams

abbrev pub waiting : Groups → Streams
waiting g = either g.closed g.gathered

-- Left in the closed group: its members up to i. In the open one: the whole closed group, and then
-- at most i of the open one.
abbrev pub groups_line : Groups → Line
groups_line g = record {
  size = g.size;
  turns = λ i. cond (among g.size i) ((g.size + i) - 1) 0;
  left = λ i. cond (g.closed i) (count g.closed i) (cond (g.gathered i) (count g.closed g.size + i) 0);
}

pub record Apart (g : Groups) : Type 0 where
  pub few : g.size ≤ 8
  pub closed : AllAmong g.size g.closed
  pub gathered : AllAmong g.size g.gathered
  pub once : (i : ℕ) → g.closed i ≡ true → g.gathered i ≡ false

abbrev pub new_groups : ℕ → Groups
new_groups n = record { size = n; closed = nobody; gathered = nobody }

-- the queue after a put of i, after i was given from the closed group, and after the open group was
-- closed and i was given from it
abbrev pub groups_with : Groups → ℕ → Groups
groups_with g i = record { size = g.size; closed = g.closed; gathered = with g.gathered i }

abbrev pub groups_past : Groups → ℕ → Groups
groups_past g i = record { size = g.size; closed = without g.closed i; gathered = g.gathered }

abbrev pub groups_turned : Groups → ℕ → Groups
groups_turned g i = record { size = g.size; closed = without g.gathered i; gathered = nobody }

-- i is given: the lowest of the closed group; where nobody is in it, the open group has become the closed one
pub data Gives (g : Groups) (i : ℕ) (g' : Groups) : Type 0 where
  of_closed : Lowest g.closed i → g' ≡ groups_past g i → Gives g i g'
  of_gathered : Empty g.closed → Lowest g.gathered i → g' ≡ groups_turned g i → Gives g i g'

abbrev pub GroupsPut : Groups → ℕ → Bool → Groups → Type 0
GroupsPut g i true g' = Newcomer g.size (waiting g) i × (g' ≡ groups_with g i)
GroupsPut g i false g' = (Newcomer g.size (waiting g) i → ⊥) × (g' ≡ g)

abbrev pub GroupsTake : Groups → Option ℕ → Groups → Type 0
GroupsTake g None g' = (Empty g.closed × Empty g.gathered) × (g' ≡ g)
GroupsTake g (Some i) g' = Gives g i g'

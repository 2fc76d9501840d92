-- The first-come queue: the streams in the order in which they came.
use Rattle.std.specs.Prelude.{◌≡◌, ℕ, ◌+◌, ◌≤◌, Bool, true, false, cond, ◌&&◌, List, [], ◌∷◌, ◌++◌, Some, None, Option, ◌==◌}
use Rattle.bank.specs.Counts.{among, even_turns}
use Rattle.bank.specs.Meaning.{Line}

-- the place of i, from 1; 0 where it is not there
abbrev pub place : ℕ → List ℕ → ℕ
place i [] = 0
place i (x ∷ xs) = cond (x == i) 1 (cond (place i xs == 0) 0 (place i xs + 1))

-- each is one of 1 to n
abbrev pub all_among : ℕ → List ℕ → Bool
all_among n [] = true
all_among n (x ∷ xs) = among n x && all_among n xs

-- none comes twice
abbrev pub once : List ℕ → Bool
once [] = true
once (x ∷ xs) = place x xs == 0 && once xs

pub record Order : Type 0 where
  pub size : ℕ
  -- who waits, the longest waiting first
  pub order : List ℕ

-- the left number is the place in the order
abbrev pub order_line : Order → Line
order_line o = record {
  size = o.size;
  turns = even_turns o.size;
  left = λ i. place i o.order;
}

abbrev pub new_order : ℕ → Order
new_order n = record { size = n; order = [] }

-- there is such a stream, and it does not wait
pub record Absent (o : Order) (i : ℕ) : Type 0 where
  pub low : 1 ≤ i
  pub high : i ≤ o.size
  pub new : place i o.order ≡ 0

-- a newcomer stands behind all others
abbrev pub OrderPut : Order → ℕ → Bool → Order → Type 0
OrderPut o i true o' = Absent o i × (o' ≡ record { size = o.size; order = o.order ++ i ∷ [] })
OrderPut o i false o' = (Absent o i → ⊥) × (o' ≡ o)

-- the one that stands first is given
abbrev pub OrderTake : Order → Option ℕ → Order → Type 0
OrderTake o None o' = (o.order ≡ []) × (o' ≡ o)
OrderTake o (Some i) o' = (o'.size ≡ o.size) × (o.order ≡ i ∷ o'.order)

-- Who is in a stored set.
use Rattle.std.specs.Prelude.{◌≡◌, ℕ, ◌≤◌, Bool, false, cond, slice_index_or, ◌==◌}
use Rattle.streams.specs.Streams.{Streams, with}
use Rattle.streams.specs.declared.StreamSet.{StreamSet}

abbrev pub members : StreamSet → Streams
members s i = slice_index_or s.flags i false

-- a number that a stream can have
abbrev pub Numbered : ℕ → Type 0
Numbered i = (1 ≤ i) × (i ≤ 8)

-- i was added, if it is a stream's number; else nothing changes
pub record Inserted (s : StreamSet) (i : ℕ) (s' : StreamSet) : Type 0 where
  pub within : Numbered i → members s' ≡ with (members s) i
  pub beyond : (Numbered i → ⊥) → s' ≡ s

-- whether i is in it was set to `member`, if it is a stream's number; else nothing changes
pub record Marked (s : StreamSet) (i : ℕ) (member : Bool) (s' : StreamSet) : Type 0 where
  pub within : Numbered i → members s' ≡ (λ j. cond (j == i) member (members s j))
  pub beyond : (Numbered i → ⊥) → s' ≡ s

-- A table with one value for each master.
use Rattle.std.specs.Prelude.{◌≡◌, ℕ, zero, suc, ◌<◌, List, cond, nat_lt, slice_index_or, Some, None, Option, ◌≢◌, length}
use Rattle.std.specs.List.{slice_get}
use Rattle.bank.specs.Meaning.{Master}
use Rattle.bank.specs.declared.PerMaster.{PerMaster}

-- the values in the order of the masters
abbrev pub values : {T : Type 0} → PerMaster T → List T
values t = t.values

-- the value of the master k, if there is such a master
abbrev pub of_master : {T : Type 0} → PerMaster T → ℕ → Option T
of_master t zero = None
of_master t (suc k) = cond (nat_lt k 8) (slice_get (values t) k) None

-- R holds of each master's values in the two tables
abbrev pub EachMaster : {T : Type 0} → (T → T → Type 0) → PerMaster T → PerMaster T → Type 0
EachMaster {T = T} R t t' = (k : ℕ) (d : T) → k < 8 → R (slice_index_or (values t) k d) (slice_index_or (values t') k d)

-- both tables have eight values, and R holds of each master's in the two
abbrev pub EachCloned : {T : Type 0} → (T → T → Type 0) → PerMaster T → PerMaster T → Type 0
EachCloned R t t' = (length (values t) ≡ 8) × (length (values t') ≡ 8) × EachMaster R t t'

-- the value of the master k is x now, and no other changed
pub record Placed {T : Type 0} (t : PerMaster T) (k : ℕ) (x : T) (t' : PerMaster T) : Type 0 where
  pub here : Master k → of_master t' k ≡ Some x
  pub elsewhere : (j : ℕ) → (j ≢ k) → of_master t' j ≡ of_master t j

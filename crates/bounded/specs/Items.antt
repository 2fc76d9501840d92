-- What a bounded list holds: its first slots, as many as its length says.
use Rattle.std.specs.Prelude.{◌≡◌, ℕ, ◌<◌, List, [], ◌∷◌, ◌++◌, length, take, Option, Result, MatchOption, MatchResult}
use Rattle.bounded.specs.declared.ArrayVec.{ArrayVec}

abbrev pub items : {T : Type 0} {N : ℕ} → ArrayVec T N → List T
items v = take v.len v.slots

-- x was pushed: with room it stands behind the others, and without it comes back and nothing changes
abbrev pub Pushed : {T : Type 0} {N : ℕ} → ArrayVec T N → ArrayVec T N → T → Result (Unit {0}) T → Type 0
Pushed {N = N} v v' x r = MatchResult r
    (λ _. (length (items v) < N) × (items v' ≡ items v ++ x ∷ []))
    (λ y. (length (items v) ≡ N) × (y ≡ x) × (v' ≡ v))

-- the first item was removed and given; an empty list gives none, and nothing changes
abbrev pub FirstRemoved : {T : Type 0} {N : ℕ} → ArrayVec T N → ArrayVec T N → Option T → Type 0
FirstRemoved v v' r = MatchOption r
    ((items v ≡ []) × (v' ≡ v))
    (λ x. items v ≡ x ∷ items v')

-- A push, as it looks through a view f of the items.
use Rattle.std.proofs.Common.{◌≡◌, ℕ, ◌<◌, ◌≤◌, List, [], ◌∷◌, ◌++◌, map, length, take, Result, ap, ◌∙◌, arith, MatchResult}
use Rattle.std.proofs.lemmas.List.{length_push, length-map, map_push, take_all}
use Rattle.std.proofs.lemmas.Result.{MatchResult-weaker}
use Rattle.bounded.specs.Items.{Pushed, items}
use Rattle.bounded.specs.declared.ArrayVec.{ArrayVec}

pub shown_pushed : {T Y : Type 0} {N : ℕ} (f : T → Y) (v v' : ArrayVec T N) (x : T) (r : Result (Unit {0}) T) → Pushed v v' x r → MatchResult r (λ _. (length (map f (items v)) < N) × (map f (items v') ≡ map f (items v) ++ f x ∷ [])) (λ y. (length (map f (items v)) ≡ N) × (y ≡ x) × (v' ≡ v))
shown_pushed f v v' x r p =
    let shown = length-map (items v) f in
    MatchResult-weaker r p
    (λ _ a. (omega (arith, a.0, shown), ap (map f) a.1 ∙ map_push f (items v) x))
    (λ y q. (shown ∙ q.0, q.1, q.2))

-- the total form, where there is room
pub shows_push : {T Y : Type 0} (f : T → Y) (n : ℕ) (xs ys : List T) (x : T) → ys ≡ take n (xs ++ x ∷ []) → length (map f xs) < n → map f ys ≡ map f xs ++ f x ∷ []
shows_push f n xs ys x e l =
    let fits : length (xs ++ x ∷ []) ≤ n = omega (arith, length_push xs x, length-map xs f) in
    ap (map f) (e ∙ take_all n (xs ++ x ∷ []) fits) ∙ map_push f xs x

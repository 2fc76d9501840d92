-- Places in an order, and orders in which each is one of 1 to n and none comes twice.
use Rattle.std.specs.Prelude.{◌≡◌, ℕ, zero, suc, ◌+◌, ◌-◌, ◌<◌, ◌≤◌, true, false, List, [], ◌∷◌, ◌++◌, length, take, drop, ◌==◌, ◌≢◌, nat_lt, slice_index, refl}
use Rattle.std.specs.List.{list_any}
use Rattle.std.proofs.Common.{sym, ap, ◌∙◌, arith}
use Rattle.std.proofs.lemmas.List.{drop_more, get_or-take, length-take-le, take-append-drop, take_more, take-take}
use Rattle.std.proofs.lemmas.Bool.Decides.{nat_tests}
use Rattle.std.proofs.lemmas.Grind.{common_steps}
use Rattle.streams.specs.Streams.{Streams, nobody, with, count}
use Rattle.first_come.specs.Order.{place, all_among, once}
use Rattle.streams.proofs.Counts.{count_le, count_with}

-- who has a place is there
pub place_listed : (i : ℕ) (xs : List ℕ) → list_any (λ x. x == i) xs ≡ nat_lt 0 (place i xs)
place_listed i [] = refl
place_listed i (x ∷ xs) = let ih = place_listed i xs in grind (arith, nat_tests)

-- the first stands at place 1
pub place_first : (i : ℕ) (xs : List ℕ) → place i (i ∷ xs) ≡ 1
place_first i xs = grind (arith, nat_tests)

-- one that stands behind another is one place further than without it
pub place_behind : (x i : ℕ) (xs : List ℕ) → (x ≢ i) → 0 < place i xs → place i (x ∷ xs) ≡ place i xs + 1
place_behind x i xs d h = grind (arith, nat_tests)

-- one that is not there is not first
pub not_first : (x i : ℕ) (xs : List ℕ) → place i (x ∷ xs) ≡ 0 → x ≢ i
not_first x i xs z e = grind (arith, nat_tests)

-- and not behind
pub not_behind : (x i : ℕ) (xs : List ℕ) → place i (x ∷ xs) ≡ 0 → place i xs ≡ 0
not_behind x i xs z = grind (arith, nat_tests)

-- one that is there and not first is behind
pub is_behind : (x i : ℕ) (xs : List ℕ) → (x ≢ i) → 0 < place i (x ∷ xs) → 0 < place i xs
is_behind x i xs d h = grind (arith, nat_tests)

-- a place is at most the length
pub place_le : (i : ℕ) (xs : List ℕ) → place i xs ≤ length xs
place_le i [] = omega arith
place_le i (x ∷ xs) = let ih = place_le i xs in grind (arith, nat_tests)

-- the place of one that is not in what stands before it
pub place_at : (i : ℕ) (xs ys : List ℕ) → place i xs ≡ 0 → place i (xs ++ i ∷ ys) ≡ length xs + 1
place_at i [] ys z = grind (arith, nat_tests)
place_at i (x ∷ xs) ys z = let ih = place_at i xs ys in grind (arith, nat_tests)

-- a push of another changes no place
pub place_push_other : (i x : ℕ) (xs : List ℕ) → (x ≢ i) → place i (xs ++ x ∷ []) ≡ place i xs
place_push_other i x [] d = grind (arith, nat_tests)
place_push_other i x (y ∷ xs) d = let ih = place_push_other i x xs d in grind (arith, nat_tests)

-- a search for i goes on: it is not among the first j, nor next
pub look_on : (i : ℕ) (xs : List ℕ) (j : ℕ) → j < length xs → place i (take j xs) ≡ 0 → (slice_index xs j ≢ i) → place i (take (j + 1) xs) ≡ 0
look_on i xs j l z d = ap (place i) (take_more xs j 0 l) ∙ place_push_other i (slice_index xs j) (take j xs) d ∙ z

-- a search for i among the first n ends: it is not among the first j, and it is next
pub look_found : (i : ℕ) (xs : List ℕ) (j n : ℕ) → j < n → n ≤ length xs → place i (take j xs) ≡ 0 → slice_index xs j ≡ i → j + 1 ≡ place i (take n xs)
look_found i xs j n l m z e =
    let rest = drop (j + 1) (take n xs) in
    let next : drop j (take n xs) ≡ i ∷ rest = drop_more (take n xs) j 0 (omega (arith, length-take-le n xs m)) ∙ ap (λ y. y ∷ rest) (get_or-take n xs j 0 l ∙ e) in
    let whole : take n xs ≡ take j xs ++ i ∷ rest = sym (take-append-drop j (take n xs)) ∙ (λ t. take-take j n xs (omega arith) t ++ next t) in
    omega (arith, ap (place i) whole, place_at i (take j xs) rest z, length-take-le j xs (omega arith))

-- the first is one of 1 to n
pub all_among_head : (n x : ℕ) (xs : List ℕ) → all_among n (x ∷ xs) ≡ true → (1 ≤ x) × (x ≤ n)
all_among_head n x xs h = (grind (arith, nat_tests), grind (arith, nat_tests))

-- and so is each behind
pub all_among_tail : (n x : ℕ) (xs : List ℕ) → all_among n (x ∷ xs) ≡ true → all_among n xs ≡ true
all_among_tail n x xs h = grind (arith, nat_tests)

-- one of 1 to n before such an order
pub all_among_cons : (n x : ℕ) (xs : List ℕ) → 1 ≤ x → x ≤ n → all_among n xs ≡ true → all_among n (x ∷ xs) ≡ true
all_among_cons n x xs low high h = grind (arith, nat_tests)

-- who is there is one of 1 to n
pub all_among_at : (n i : ℕ) (xs : List ℕ) → all_among n xs ≡ true → 0 < place i xs → (1 ≤ i) × (i ≤ n)
all_among_at n i [] h p = absurd (omega arith)
all_among_at n i (x ∷ xs) h p = let ih = all_among_at n i xs in grind (arith, nat_tests)

-- a push of one of 1 to n keeps it so
pub all_among_push : (n i : ℕ) (xs : List ℕ) → 1 ≤ i → i ≤ n → all_among n xs ≡ true → all_among n (xs ++ i ∷ []) ≡ true
all_among_push n i [] low high h = grind (arith, nat_tests)
all_among_push n i (x ∷ xs) low high h = let ih = all_among_push n i xs low high in grind (arith, nat_tests)

-- the first does not come again
pub once_head : (x : ℕ) (xs : List ℕ) → once (x ∷ xs) ≡ true → place x xs ≡ 0
once_head x xs h = grind (arith, nat_tests)

-- behind the first none comes twice
pub once_tail : (x : ℕ) (xs : List ℕ) → once (x ∷ xs) ≡ true → once xs ≡ true
once_tail x xs h = grind (arith, nat_tests)

-- one that is not there, before such an order
pub once_cons : (x : ℕ) (xs : List ℕ) → place x xs ≡ 0 → once xs ≡ true → once (x ∷ xs) ≡ true
once_cons x xs z h = grind (arith, nat_tests)

-- after the push of a newcomer none comes twice
pub once_push : (i : ℕ) (xs : List ℕ) → place i xs ≡ 0 → once xs ≡ true → once (xs ++ i ∷ []) ≡ true
once_push i [] z h = refl
once_push i (x ∷ xs) z h = let ih = once_push i xs in grind (arith, nat_tests, place_push_other x i xs)

-- those who are there, as a set
abbrev members : List ℕ → Streams
members [] = nobody
members (x ∷ xs) = with (members xs) x

-- who is not there is not in the set
not_member : (i : ℕ) (xs : List ℕ) → place i xs ≡ 0 → members xs i ≡ false
not_member i [] z = refl
not_member i (x ∷ xs) z = let ih = not_member i xs in grind (arith, nat_tests)

-- where none comes twice, the set has as many as the order is long
counted : (n : ℕ) (xs : List ℕ) → all_among n xs ≡ true → once xs ≡ true → count (members xs) n ≡ length xs
counted n [] h o = none n
  where
    none : (n : ℕ) → count nobody n ≡ 0
    none zero = refl
    none (suc n) = none n
counted n (x ∷ xs) h o =
    let ih = counted n xs in
    let one = count_with (members xs) x n in
    grind (arith, nat_tests, not_member x xs)

-- where none comes twice, the order is at most as long as there are streams
pub once_le : (n : ℕ) (xs : List ℕ) → all_among n xs ≡ true → once xs ≡ true → length xs ≤ n
once_le n xs h o = omega (arith, counted n xs h o, count_le (members xs) n)

-- a stream that is not there finds room
pub room : (n i : ℕ) (xs : List ℕ) → all_among n xs ≡ true → once xs ≡ true → 1 ≤ i → i ≤ n → place i xs ≡ 0 → length xs < n
room n i xs h o low high z = let more = once_le n (i ∷ xs) in grind (arith, nat_tests)

-- after a rotation the first has left, and the others have moved up
pub shift : (n : ℕ) (xs ys : List ℕ) → 0 < n → n ≤ length xs → ys ≡ drop 1 xs ++ take 1 xs → take n xs ≡ slice_index xs 0 ∷ take (n - 1) ys
shift zero xs ys p l e = absurd (omega arith)
shift (suc n) [] ys p l e = absurd (omega arith)
shift (suc n) (x ∷ xs) ys p l e = grind (arith, common_steps)

-- How many of a set are among 1 to n.
use Rattle.std.proofs.Common.{◌≡◌, ℕ, zero, suc, ◌+◌, ◌<◌, ◌≤◌, true, false, refl, arith}
use Rattle.std.proofs.lemmas.Bool.Decides.{nat_tests}
use Rattle.streams.specs.Streams.{Streams, with, without, count}

-- among 1 to n there are at most n
pub count_le : (s : Streams) (n : ℕ) → count s n ≤ n
count_le s zero = omega arith
count_le s (suc n) = let ih = count_le s n in grind (arith, nat_tests)

-- and fewer where one of them is not in it
pub count_lacks : (s : Streams) (n i : ℕ) → 1 ≤ i → i ≤ n → s i ≡ false → count s n < n
count_lacks s zero i low high h = absurd (omega arith)
count_lacks s (suc n) i low high h =
    let le = count_le s n in
    let ih : i ≤ n → count s n < n = λ below. count_lacks s n i low below h in
    grind (arith, nat_tests)

-- up to a member there is at least one
pub count_member : (s : Streams) (i : ℕ) → 1 ≤ i → s i ≡ true → 1 ≤ count s i
count_member s zero low h = absurd (omega arith)
count_member s (suc i) low h = grind (arith, nat_tests)

-- a removal leaves the count below it
count_without_below : (s : Streams) (i n : ℕ) → n < i → count (without s i) n ≡ count s n
count_without_below s i zero l = refl
count_without_below s i (suc n) l = let ih = count_without_below s i n (omega arith) in grind (arith, nat_tests)

-- the removal of a member lowers the count from there on by one
pub count_without : (s : Streams) (i n : ℕ) → 1 ≤ i → i ≤ n → s i ≡ true → count (without s i) n + 1 ≡ count s n
count_without s i zero low high h = absurd (omega arith)
count_without s i (suc n) low high h =
    let below : n < i → count (without s i) n ≡ count s n = count_without_below s i n in
    let ih : i ≤ n → count (without s i) n + 1 ≡ count s n = λ l. count_without s i n low l h in
    grind (arith, nat_tests)

-- an addition leaves the count below it
count_with_below : (s : Streams) (i n : ℕ) → n < i → count (with s i) n ≡ count s n
count_with_below s i zero l = refl
count_with_below s i (suc n) l = let ih = count_with_below s i n (omega arith) in grind (arith, nat_tests)

-- a new one among 1 to n is one more
pub count_with : (s : Streams) (i n : ℕ) → 1 ≤ i → i ≤ n → s i ≡ false → count (with s i) n ≡ count s n + 1
count_with s i zero low high new = absurd (omega arith)
count_with s i (suc n) low high new =
    let below : n < i → count (with s i) n ≡ count s n = count_with_below s i n in
    let ih : i ≤ n → count (with s i) n ≡ count s n + 1 = λ l. count_with s i n low l new in
    grind (arith, nat_tests)

-- Bytes that stand in a list are those of the number that they make.
use Rattle.std.proofs.Common.{◌≡◌, ℕ, ◌+◌, ◌*◌, ◌/◌, ◌%◌, ◌<◌, ◌≤◌, List, ◌∷◌, ◌++◌, length, get_or, take, drop, sym, refl, ap, ◌∙◌, arith}
use Rattle.std.proofs.lemmas.List.{drop_more, drop-drop, length-drop, length-take-le, take-append-drop}
use Rattle.planfile.specs.Format.{two, four, framed}
use Rattle.planfile.specs.Reading.{announced}
use Rattle.planfile.proofs.Framing.{two_bytes}

-- the next byte
step : (xs : List ℕ) (i j : ℕ) → i < length xs → j ≡ i + 1 → drop i xs ≡ get_or xs i 0 ∷ drop j xs
step xs i j l e = drop_more xs i 0 l ∙ ap (λ k. get_or xs i 0 ∷ drop k xs) (sym e)

pub two_there : (xs : List ℕ) (i n : ℕ) → i + 2 ≤ length xs → ((k : ℕ) → get_or xs k 0 < 256) → n ≡ get_or xs i 0 * 256 + get_or xs (i + 1) 0 → drop i xs ≡ two n ++ drop (i + 2) xs
two_there xs i n l small e =
    let a = get_or xs i 0 in
    let b = get_or xs (i + 1) 0 in
    let high : a ≡ n / 256 = omega (arith, small i, small (i + 1)) in
    let low : b ≡ n % 256 = omega (arith, small i, small (i + 1)) in
    step xs i (i + 1) (omega arith) refl ∙ ap (λ ys. a ∷ ys) (step xs (i + 1) (i + 2) (omega arith) (omega arith))
    ∙ (λ j. high j ∷ low j ∷ drop (i + 2) xs)

pub four_there : (xs : List ℕ) (i n : ℕ) → i + 4 ≤ length xs → ((k : ℕ) → get_or xs k 0 < 256) → n ≡ get_or xs i 0 * 16777216 + get_or xs (i + 1) 0 * 65536 + get_or xs (i + 2) 0 * 256 + get_or xs (i + 3) 0 → drop i xs ≡ four n ++ drop (i + 4) xs
four_there xs i n l small e =
    let a = get_or xs i 0 in
    let b = get_or xs (i + 1) 0 in
    let c = get_or xs (i + 2) 0 in
    let d = get_or xs (i + 3) 0 in
    let first : a ≡ n / 16777216 = omega (arith, small i, small (i + 1), small (i + 2), small (i + 3)) in
    let second : b ≡ n / 65536 % 256 = omega (arith, small i, small (i + 1), small (i + 2), small (i + 3)) in
    let third : c ≡ n / 256 % 256 = omega (arith, small i, small (i + 1), small (i + 2), small (i + 3)) in
    let fourth : d ≡ n % 256 = omega (arith, small i, small (i + 1), small (i + 2), small (i + 3)) in
    step xs i (i + 1) (omega arith) refl ∙ ap (λ ys. a ∷ ys) (step xs (i + 1) (i + 2) (omega arith) (omega arith))
    ∙ ap (λ ys. a ∷ b ∷ ys) (step xs (i + 2) (i + 3) (omega arith) (omega arith))
    ∙ ap (λ ys. a ∷ b ∷ c ∷ ys) (step xs (i + 3) (i + 4) (omega arith) (omega arith))
    ∙ (λ j. first j ∷ second j ∷ third j ∷ fourth j ∷ drop (i + 4) xs)

-- a list of n bytes, by its first byte and what follows
pub headed : (xs : List ℕ) (n k : ℕ) → length xs ≡ n → 0 < n → get_or xs 0 0 ≡ k → xs ≡ k ∷ drop 1 xs
headed xs n k l some e = step xs 0 1 (omega arith) refl ∙ ap (λ b. b ∷ drop 1 xs) e

-- the length that a record announces
pub announced_is : (rest tail : List ℕ) (n : ℕ) → rest ≡ two n ++ tail → announced rest ≡ n
announced_is rest tail n e = ap announced e ∙ two_bytes n

-- the n bytes behind a length field that announces n are a whole record
pub framed_there : (xs : List ℕ) (at n : ℕ) (c : List ℕ) → at + 2 + n ≤ length xs → drop at xs ≡ two n ++ drop (at + 2) xs → c ≡ take n (drop (at + 2) xs) → drop at xs ≡ framed c ++ drop (at + 2 + length c) xs
framed_there xs at n c l e is =
    let room : n ≤ length (drop (at + 2) xs) = simp length-drop (omega arith) in
    let long : length c ≡ n = ap length is ∙ length-take-le n (drop (at + 2) xs) room in
    let parts = take-append-drop n (drop (at + 2) xs) in
    let behind = drop-drop n (at + 2) xs in
    let joins : drop (at + 2) xs ≡ c ++ drop (at + 2 + n) xs = cc in
    e ∙ ap (λ ys. two n ++ ys) joins ∙ ap (λ m. two m ++ (c ++ drop (at + 2 + m) xs)) (sym long)

-- The bytes of a record tell what it says, where it ends, and that it is whole.
use Rattle.std.proofs.Common.{◌≡◌, ℕ, ◌+◌, ◌*◌, ◌/◌, ◌%◌, cond, eqb, List, ◌++◌, length, get_or, take, drop, sym, ap, ◌∙◌, subst, inl, inr, arith}
use Rattle.std.proofs.lemmas.List.{length-append, take_at, drop_at}
use Rattle.planfile.specs.declared.records.Record.{Record}
use Rattle.planfile.specs.declared.records.Record.TheVariants.{Ring, Master, High, Low}
use Rattle.planfile.specs.Format.{contents, framed, record_bytes}
use Rattle.planfile.specs.Reading.{announced, Cut}

-- the number in the two bytes from the place i on, and in the four
abbrev word : List ℕ → ℕ → ℕ
word xs i = get_or xs i 0 * 256 + get_or xs (i + 1) 0

abbrev long : List ℕ → ℕ → ℕ
long xs i = word xs i * 65536 + word xs (i + 2)

-- the record that these contents tell, by the kind in front
abbrev told : List ℕ → Record
told xs =
    let kind : ℕ = get_or xs 0 0 in
    cond (eqb kind 1) (Ring (long xs 1))
    (cond (eqb kind 2) (Master (word xs 1))
    (cond (eqb kind 3) (High record { cycle = word xs 1; deadline = long xs 3; generation = word xs 7; delivery = word xs 9 })
    (Low (word xs 1))))

pub two_bytes : (n : ℕ) → n / 256 * 256 + n % 256 ≡ n
two_bytes n = omega arith

four_bytes : (n : ℕ) → (n / 16777216 * 256 + n / 65536 % 256) * 65536 + (n / 256 % 256 * 256 + n % 256) ≡ n
four_bytes n = omega arith

told_contents : (r : Record) → told (contents r) ≡ r
told_contents (Ring t) = ap Ring (four_bytes t)
told_contents (Master h) = ap Master (two_bytes h)
told_contents (High s) = λ i. High record { cycle = two_bytes s.cycle i; deadline = four_bytes s.deadline i; generation = two_bytes s.generation i; delivery = two_bytes s.delivery i }
told_contents (Low c) = ap Low (two_bytes c)

pub contents_once : (r s : Record) → contents r ≡ contents s → r ≡ s
contents_once r s e = sym (told_contents r) ∙ ap told e ∙ told_contents s

announced_length : (c more : List ℕ) → announced (framed c ++ more) ≡ length c
announced_length c more = two_bytes (length c)

-- what the first frame holds, and what is left behind it
abbrev held : List ℕ → List ℕ
held xs = take (announced xs) (drop 2 xs)

abbrev left : List ℕ → List ℕ
left xs = drop (announced xs) (drop 2 xs)

held_framed : (c more : List ℕ) → held (framed c ++ more) ≡ c
held_framed c more = take_at c more (announced (framed c ++ more)) (sym (announced_length c more))

left_framed : (c more : List ℕ) → left (framed c ++ more) ≡ more
left_framed c more = drop_at c more (announced (framed c ++ more)) (sym (announced_length c more))

pub framed_once : (c d x y : List ℕ) → framed c ++ x ≡ framed d ++ y → (c ≡ d) × (x ≡ y)
framed_once c d x y e = (sym (held_framed c x) ∙ ap held e ∙ held_framed d y, sym (left_framed c x) ∙ ap left e ∙ left_framed d y)

pub record_once : (r s : Record) (x y : List ℕ) → record_bytes r ++ x ≡ record_bytes s ++ y → (r ≡ s) × (x ≡ y)
record_once r s x y e = let h = framed_once (contents r) (contents s) x y e in (contents_once r s h.0, h.1)

whole_not_cut : (c more : List ℕ) → Cut (framed c ++ more) → ⊥
whole_not_cut c more (some, inl short) = omega arith
whole_not_cut c more (some, inr short) = omega (arith, length-append c more)

pub cut_not_whole : (rest c more : List ℕ) → Cut rest → rest ≡ framed c ++ more → ⊥
cut_not_whole rest c more k e = whole_not_cut c more (subst Cut e k)

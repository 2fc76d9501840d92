use Rattle.std.proofs.Common.{◌≡◌, ℕ, List, length, map, sym, ap, ◌∙◌, rules, tests, arith, ext_get_or}
use Rattle.std.proofs.lemmas.Bool.Decides.{nat_tests}
use Rattle.std.proofs.lemmas.List.{get_or-map, length-map}
use Rattle.std.specs.Array.{IsMapOf}
use Rattle.std.specs.Fn.{Called}
use denote.Param.Members.{Mut}
use Rattle.bankcases.specs.Written.{number_of_letter}
use Rattle.bankcases.proofs.call.numbers.Goals as goal

-- what `map` gives of a function's results
mapped : {F : Type 0} {g : Mut F (ℕ × Unit {0}) ℕ} {f : F} (h : ℕ → ℕ) (xs ys : List ℕ) (n : ℕ) → IsMapOf g f xs ys n → length xs ≡ n → ((p : F) (x y : ℕ) (q : F) → Called g p (x, tt) y q → y ≡ h x) → ys ≡ map h xs
mapped h xs ys n is long calls =
    ext_get_or 0 ys (map h xs) (is.long ∙ sym long ∙ sym (length-map xs h))
    (λ i l. let c = is.at i 0 0 (omega (arith, is.long)) in calls c.0 _ _ c.1 c.2 ∙ sym (get_or-map h xs i 0 0 (omega (arith, is.long, long))))

pub returns : goal.returns
returns c =
    let same : c.in_ok-letters.letters ≡ c.args.letters.now = search rules in
    let long : length c.args.letters.now ≡ 8 = search rules in
    let made : c.map.result ≡ map number_of_letter c.args.letters.now = rw (← same) (mapped number_of_letter _ _ 8 c.map.ensures.items (ap length same ∙ long) (λ p x y q k. search (rules, tests))) in
    grind (arith, nat_tests, made, long)

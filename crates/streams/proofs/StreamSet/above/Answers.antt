use Rattle.std.proofs.Common.{◌≡◌, ℕ, ◌<◌, ◌≤◌, true, false, None, Some, Option, ⊎_elim, arith, rules, MatchOption}
use Rattle.std.proofs.lemmas.Bool.{cases_lt, true≢false}
use Rattle.std.proofs.lemmas.Iterator.{first_from_Range}
use Rattle.std.proofs.lemmas.List.{get_or_past}
use borrow.Author.Tests.{tests}
use Rattle.streams.specs.Members.{members}
use Rattle.streams.specs.Streams.{Streams, Above}
use Rattle.streams.proofs.StreamSet.above.Goals as goal

-- what a search from 1 to 8 finds, where no other number is in the set
found : (s : Streams) (k : ℕ) (r : Option ℕ) → ((j : ℕ) → 9 ≤ j → s j ≡ false) → MatchOption r ((j : ℕ) → 1 ≤ j → j < 9 → k < j → s j ≡ false) (λ i. (1 ≤ i) × (i < 9) × ((k < i) × (s i ≡ true)) × ((j : ℕ) → 1 ≤ j → j < i → k < j → s j ≡ false)) → Above s k r
found s k None past m = λ j l. ⊎_elim (λ b. m j (omega arith) b l) (past j) (cases_lt j 9)
found s k (Some i) past m = (m.2.1, (m.2.0, λ j l h. grind (arith, true≢false)))

pub returns : goal.returns
returns c =
    let s = c.args.self.now in
    let k = c.args.floor in
    found (members s) k c.find.result (λ j l. get_or_past s.flags j false (omega (arith, s.nine)))
    (first_from_Range _ _ _ c.find.result (λ i. (k < i) × (members s i ≡ true)) (λ i. k < i → members s i ≡ false) c.find.ensures.ran (λ x q h. search (rules, tests)) (λ x q h. search (rules, tests)))

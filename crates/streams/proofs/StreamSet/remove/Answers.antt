use Rattle.std.proofs.Common.{◌≡◌, ℕ, false, ap, arith}
use Rattle.std.proofs.lemmas.Bool.Decides.{nat_tests}
use Rattle.std.proofs.lemmas.Grind.{elements}
use Rattle.std.proofs.lemmas.List.{get_or_past}
use Rattle.streams.specs.Members.{members, Numbered}
use Rattle.streams.specs.Streams.{without}
use Rattle.streams.proofs.StreamSet.remove.Goals as goal

pub returns : goal.returns
returns c = λ x j. at j x
  where
    at : (j : ℕ) → members c.set.new.self j ≡ without (members c.args.self.now) c.args.stream j
    at j =
        let inside : Numbered c.args.stream → members c.set.new.self j ≡ without (members c.args.self.now) c.args.stream j = λ n. ap (λ t. t j) (c.set.ensures.within n) in
        let outside : (Numbered c.args.stream → ⊥) → members c.set.new.self j ≡ members c.args.self.now j = λ o. ap (λ t. members t j) (c.set.ensures.beyond o) in
        grind (arith, nat_tests, elements, get_or_past c.args.self.now.flags j false)

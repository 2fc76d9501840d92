-- What a search among 1 to n answers, by what its test answers at each number.
use Rattle.std.proofs.Common.{◌≡◌, ℕ, ◌+◌, ◌-◌, ◌<◌, ◌≤◌, Bool, true, false, Some, None, Option, IsTrue, MatchBool, rules, arith, ap, ◌∙◌}
use Rattle.std.specs.Fn.{Called}
use Rattle.std.specs.Iterator.Runs.{SomeRun, AnyItemGives, AllItemsGive}
use Rattle.std.specs.Range.{range_inclusive_start, range_inclusive_end, range_inclusive_exhausted}
use Rattle.std.specs.Option.{option_map}
use Rattle.std.specs.Prelude.{IfSome, IsSomeAnd}
use Rattle.std.specs.declared.ops.RangeInclusive.{RangeInclusive}
use Rattle.std.proofs.iter.runs.Sources.{nat_range_inclusive_steps, inclusive_listed}
use denote.Param.Members.{Mut}

-- the item that is there
there : (Q : ℕ → Type 0) (o : Option ℕ) → IsSomeAnd o Q → (x : ℕ) × Q x
there Q None h = search rules
there Q (Some x) h = (x, h)

-- what holds of the item, if there is one, holds of x if that is the item
at_item : (Q : ℕ → Type 0) (o : Option ℕ) (x : ℕ) → option_map (λ y. y) o ≡ Some x → IfSome o Q → Q x
at_item Q None x e h = search rules
at_item Q (Some y) x e h = search rules

-- P i b says that the test answers b at i
module _ {F : Type 0} {g : Mut F (ℕ × Unit {0}) Bool} {f : F} (n : ℕ) (P : ℕ → Bool → Type 0) (tests : (i : ℕ) (b : Bool) (f' : F) → Called g f (i, tt) b f' → (f' ≡ f) × P i b) where
  pub any_of : (s : RangeInclusive ℕ) → range_inclusive_start s ≡ 1 → range_inclusive_end s ≡ n → range_inclusive_exhausted s ≡ false
      → (r : Bool) → SomeRun nat_range_inclusive_steps s (λ p. MatchBool r (AnyItemGives p g f true) (IsTrue p.whole × AllItemsGive p g f false))
      → MatchBool r ((i : ℕ) × P i true) ((i : ℕ) → 1 ≤ i → i ≤ n → P i false)
  any_of s low high fresh true run =
      let p = run.0 in
      let hit = run.2 (λ i b f' c. (tests i.0 b f' c).0) in
      let i = there _ (p.at hit.0) hit.2 in
      (i.0, (tests i.0 true f i.1).1)
  any_of s low high fresh false run = λ i least most.
      let p = run.0 in
      let counted = inclusive_listed p p.seen in
      let up = (counted.4 (ap range_inclusive_exhausted run.1 ∙ fresh)).0 in
      let is : counted.0 + (i - 1) ≡ i = omega (arith, counted.2, ap range_inclusive_start run.1, low) in
      let within : i - 1 < p.len = omega (arith, up.1 run.2.0, is, counted.3, ap range_inclusive_end run.1, high) in
      let misses = run.2.1 (λ j b f' c. (tests j.0 b f' c).0) in
      (tests i false f (at_item _ (p.at (i - 1)) i (up.3 (i - 1) within ∙ ap Some is) (misses (i - 1)))).1

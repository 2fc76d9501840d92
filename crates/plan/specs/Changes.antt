-- What the calls that change a master or a plan do: m and p as they were, m' and p' as they are, r the answer.
use Rattle.std.specs.Prelude.{◌≡◌, ℕ, ◌<◌, length, Option, Result, MatchOption, MatchResult}
use Rattle.refusal.specs.declared.Refusal.{Refusal}
use Rattle.refusal.specs.declared.Refusal.TheVariants.{TargetTooLarge}
use Rattle.plan.specs.Net.{TargetInRange, with_high, with_low, with_master, with_target}
use Rattle.plan.specs.Views.{stream_of, cycle_of, station_of, net}
use Rattle.plan.specs.declared.HighStream.{HighStream}
use Rattle.plan.specs.declared.LowStream.{LowStream}
use Rattle.plan.specs.declared.Master.{Master}
use Rattle.plan.specs.declared.Plan.{Plan}
use Rattle.plan.specs.declared.Target.{Target}

-- a value that shows v is made exactly where P holds
abbrev pub MadeIff : {X V : Type 0} → (X → V) → Type 0 → V → Option X → Type 0
MadeIff view P v r = MatchOption r (P → ⊥) (λ x. P × (view x ≡ v))

-- One more behind the others in a table with room for n, as a view shows it. `held` counts what is in
-- the table; in a full one nothing changes, and the item comes back.
abbrev pub Added : {X V Y : Type 0} → ℕ → (V → ℕ) → (X → V) → (V → V) → X → X → Y → Result (Unit {0}) Y → Type 0
Added n held view more x x' y r = MatchResult r
    (λ _. (held (view x) < n) × (view x' ≡ more (view x)))
    (λ back. (held (view x) ≡ n) × (back ≡ y) × (x' ≡ x))

abbrev pub HighAdded : Master → Master → HighStream → Result (Unit {0}) HighStream → Type 0
HighAdded m m' s r = Added 8 (λ v. length v.highs) station_of (λ v. with_high v (stream_of s)) m m' s r

abbrev pub LowAdded : Master → Master → LowStream → Result (Unit {0}) LowStream → Type 0
LowAdded m m' s r = Added 4 (λ v. length v.lows) station_of (λ v. with_low v (cycle_of s)) m m' s r

abbrev pub MasterAdded : Plan → Plan → Master → Result (Unit {0}) Master → Type 0
MasterAdded p p' m r = Added 8 (λ v. length v.masters) net (λ v. with_master v (station_of m)) p p' m r

-- a time becomes a target, or it is out of range
abbrev pub Targeted : ℕ → Result Target Refusal → Type 0
Targeted t r = MatchResult r
    (λ target. TargetInRange t × (target.time ≡ t))
    (λ e. (16777215 < t) × (e ≡ TargetTooLarge))

-- that number changes and no other, or it is out of range and nothing changes
abbrev pub Retargeted : Plan → Plan → ℕ → Result (Unit {0}) Refusal → Type 0
Retargeted p p' t r = MatchResult r
    (λ _. TargetInRange t × (net p' ≡ with_target (net p) t))
    (λ e. (16777215 < t) × (e ≡ TargetTooLarge) × (p' ≡ p))

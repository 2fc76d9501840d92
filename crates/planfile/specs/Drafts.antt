-- What a reader's draft stands for.
use Rattle.std.specs.Prelude.{ℕ, map, Result, MatchResult}
use Rattle.bounded.specs.Items.{items}
use Rattle.plan.specs.Views.{station_of}
use Rattle.planfile.specs.declared.draft.Draft.{Draft}
use Rattle.planfile.specs.declared.draft.Draft.TheVariants.{Start, Ring, Masters}
use Rattle.planfile.specs.declared.draft.Growing.{Growing}
use Rattle.planfile.specs.Reading.{Front, Fits, Unfit}
use Rattle.planfile.specs.Reading.Front.{start, ringed, growing}
use Rattle.planfile.specs.declared.records.Record.{Record}
use Rattle.refusal.specs.declared.Refusal.{Refusal}

abbrev pub grown : Growing → Front
grown g = growing g.target.time (map station_of (items g.done)) (station_of g.last)

abbrev pub front : Draft → Front
front Start = start
front (Ring target) = ringed target.time
front (Masters g) = grown g

-- what comes of the record r at the place `at` behind the front f: a draft that it fits, or its refusal
abbrev pub Grows : Front → Record → ℕ → Result Draft Refusal → Type 0
Grows f r at result = MatchResult result (λ d. Fits f r (front d)) (λ e. Unfit f r at e)

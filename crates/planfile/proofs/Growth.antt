-- One record more behind a plan in the making: what it takes to fit, and what it cannot be.
use Rattle.std.proofs.Common.{◌≡◌, ℕ, ◌<◌, ◌≤◌, List, [], ◌∷◌, ◌++◌, map, length, refl, ap, ◌∙◌, arith}
use Rattle.std.proofs.lemmas.List.{length_push, length-map, map_push, nil_from_length}
use Rattle.refusal.specs.declared.Refusal.TheVariants.{BadRecord, TooMany, OutOfRange}
use Rattle.plan.specs.Net.{Station, bare, with_high, with_low, TargetInRange, HopInRange, CycleInRange, StreamInRange}
use Rattle.bounded.specs.Items.{items}
use Rattle.plan.specs.Views.{station_of, told}
use Rattle.plan.specs.declared.Master as plan
use Rattle.plan.specs.declared.Times.{Times}
use Rattle.planfile.specs.declared.draft.Growing.{Growing}
use Rattle.planfile.specs.declared.records.Record.{Record}
use Rattle.planfile.specs.declared.records.Record.TheVariants.{Ring, Master, High, Low}
use Rattle.planfile.specs.Reading.{Front, Next, Room, Fits, Unfit}
use Rattle.planfile.specs.Reading.Front.{start, ringed, growing}
use Rattle.planfile.specs.Reading.Next.{ring, first, master, high, low}
use Rattle.planfile.specs.Reading.Unfit.{misplaced, crowded, beyond}

-- only the ring record may come first, and only then
pub start_misplaced : (r : Record) (at : ℕ) → ((t : ℕ) → r ≡ Ring t → ⊥) → Unfit start r at (BadRecord at)
start_misplaced r at other = misplaced (none r other)
  where
    none : (r : Record) → ((t : ℕ) → r ≡ Ring t → ⊥) → (f : Front) → Next start r f → ⊥
    none (Ring t) o f ring = o t refl
    none (Master h) o f n = elim n [ ]
    none (High s) o f n = elim n [ ]
    none (Low c) o f n = elim n [ ]

pub first_misplaced : (t : ℕ) (r : Record) (at : ℕ) → ((h : ℕ) → r ≡ Master h → ⊥) → Unfit (ringed t) r at (BadRecord at)
first_misplaced t r at other = misplaced (none r other)
  where
    none : (r : Record) → ((h : ℕ) → r ≡ Master h → ⊥) → (f : Front) → Next (ringed t) r f → ⊥
    none (Ring t) o f n = elim n [ ]
    none (Master h) o f first = o h refl
    none (High s) o f n = elim n [ ]
    none (Low c) o f n = elim n [ ]

pub ring_misplaced : (t at : ℕ) (done : List Station) (m : Station) (s : ℕ) → Unfit (growing t done m) (Ring s) at (BadRecord at)
ring_misplaced t at done m s = misplaced never
  where
    never : (f : Front) → Next (growing t done m) (Ring s) f → ⊥
    never f n = elim n [ ]

pub ring_beyond : (t at : ℕ) → (TargetInRange t → ⊥) → Unfit start (Ring t) at (OutOfRange at)
ring_beyond t at off = beyond _ ring tt off

pub ring_fits : (t u : ℕ) → u ≡ t → TargetInRange t → Fits start (Ring t) (ringed u)
ring_fits t u e range = rw e record { next = ring; room = tt; range = range }

pub first_beyond : (t h at : ℕ) → (HopInRange h → ⊥) → Unfit (ringed t) (Master h) at (OutOfRange at)
first_beyond t h at off = beyond _ first (omega arith, omega arith, omega arith) off

pub first_fits : (t h : ℕ) (done : List Station) (m : Station) → done ≡ [] → m ≡ bare h → HopInRange h → Fits (ringed t) (Master h) (growing t done m)
first_fits t h done m d e range = rw (d, e) record { next = first; room = (omega arith, omega arith, omega arith); range = range }

module _ (t at : ℕ) (done : List Station) (m : Station) where
  pub master_crowded : (h : ℕ) → 8 ≤ length (done ++ m ∷ []) → Unfit (growing t done m) (Master h) at (TooMany at)
  master_crowded h full = crowded _ master (λ room. omega (arith, room.0))

  pub master_beyond : (h : ℕ) → length (done ++ m ∷ []) < 8 → (HopInRange h → ⊥) → Unfit (growing t done m) (Master h) at (OutOfRange at)
  master_beyond h room off = beyond _ master (room, omega arith, omega arith) off

  pub master_fits : (h : ℕ) (done' : List Station) (m' : Station) → done' ≡ done ++ m ∷ [] → m' ≡ bare h → length done' < 8 → HopInRange h → Fits (growing t done m) (Master h) (growing t done' m')
  master_fits h done' m' d e room range = rw (d, e) record { next = master; room = (omega (arith, ap length d), omega arith, omega arith); range = range }

  pub high_misplaced : (s : Times) → 0 < length m.lows → Unfit (growing t done m) (High s) at (BadRecord at)
  high_misplaced s some = misplaced out_of_order
    where
      out_of_order : (f : Front) → Next (growing t done m) (High s) f → ⊥
      out_of_order f (high none) = omega (arith, some, ap length none)

  pub high_crowded : (s : Times) → length m.lows ≡ 0 → 8 ≤ length m.highs → Unfit (growing t done m) (High s) at (TooMany at)
  high_crowded s none full = crowded _ (high (nil_from_length m.lows none)) (λ room. omega (arith, room.1, length_push m.highs (told s)))

  pub low_crowded : (c : ℕ) → 4 ≤ length m.lows → Unfit (growing t done m) (Low c) at (TooMany at)
  low_crowded c full = crowded _ low (λ room. omega (arith, room.2, length_push m.lows c))

  module _ (few : length done < 8) where
    module _ (s : Times) (none : length m.lows ≡ 0) (room : length m.highs < 8) where
      high_room : Room (growing t done (with_high m (told s)))
      high_room = (few, omega (arith, length_push m.highs (told s)), omega arith)

      pub high_beyond : (StreamInRange (told s) → ⊥) → Unfit (growing t done m) (High s) at (OutOfRange at)
      high_beyond off = beyond _ (high (nil_from_length m.lows none)) high_room off

      pub high_fits : (m' : Station) → m' ≡ with_high m (told s) → StreamInRange (told s) → Fits (growing t done m) (High s) (growing t done m')
      high_fits m' e range = rw e record { next = high (nil_from_length m.lows none); room = high_room; range = range }

    module _ (c : ℕ) (few_highs : length m.highs ≤ 8) (room : length m.lows < 4) where
      low_room : Room (growing t done (with_low m c))
      low_room = (few, few_highs, omega (arith, length_push m.lows c))

      pub low_beyond : (CycleInRange c → ⊥) → Unfit (growing t done m) (Low c) at (OutOfRange at)
      low_beyond off = beyond _ low low_room off

      pub low_fits : (m' : Station) → m' ≡ with_low m c → CycleInRange c → Fits (growing t done m) (Low c) (growing t done m')
      low_fits m' e range = rw e record { next = low; room = low_room; range = range }

module _ (g : Growing) where
  pub few_done : length (map station_of (items g.done)) < 8
  few_done = omega (arith, length-map (items g.done) station_of, g.room)

  -- its masters, with the last one pushed
  pub pushed : (ms : List plan.Master) → ms ≡ items g.done ++ g.last ∷ [] → map station_of ms ≡ map station_of (items g.done) ++ station_of g.last ∷ []
  pushed ms e = ap (map station_of) e ∙ map_push station_of (items g.done) g.last

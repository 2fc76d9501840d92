-- A record in range, which there is room for, keeps a front good.
use Rattle.std.proofs.Common.{ℕ, ◌<◌, ◌≤◌, List, [], ◌∷◌, ◌++◌, length, Some, refl, arith}
use Rattle.std.specs.List.{AllByRecursion}
use Rattle.std.proofs.lemmas.List.{length_push}
use Rattle.std.proofs.lemmas.List.Elements.{All-from_recursion, All-pop, All-push, recursion_from_All}
use Rattle.plan.specs.Net.{Stream, Station, bare, with_high, with_low, planned, TargetInRange, HopInRange, CycleInRange, StreamInRange, StationInRange, NetInRange}
use Rattle.planfile.specs.declared.records.Record.{Record}
use Rattle.plan.specs.Views.{told}
use Rattle.planfile.specs.Reading.{Front, Next, Room, InRange, Good}
use Rattle.planfile.specs.Reading.Next.{ring, first, master, high, low}

-- what is in range in a plan whose last master is m
pub record Parts (t : ℕ) (done : List Station) (m : Station) : Type 0 where
  pub target : TargetInRange t
  pub each_done : AllByRecursion StationInRange done
  pub last : StationInRange m
  pub few : length done < 8

module _ {X : Type 0} (P : X → Type 0) (xs : List X) (x : X) where
  all_push : AllByRecursion P xs → P x → AllByRecursion P (xs ++ x ∷ [])
  all_push h p = recursion_from_All P (xs ++ x ∷ []) (All-push P xs x (All-from_recursion P xs h) p)

  all_from_push : AllByRecursion P (xs ++ x ∷ []) → AllByRecursion P xs × P x
  all_from_push h =
      let k = All-pop P (xs ++ x ∷ []) xs (Some x) refl (All-from_recursion P (xs ++ x ∷ []) h) in
      (recursion_from_All P xs k.0, k.1)

pub apart : (t : ℕ) (done : List Station) (m : Station) → NetInRange (planned t (done ++ m ∷ [])) → Parts t done m
apart t done m h =
    let k = all_from_push StationInRange done m h.each in
    record { target = h.target; each_done = k.0; last = k.1; few = omega (arith, length_push done m) }

together : (t : ℕ) (done : List Station) (m : Station) → Parts t done m → NetInRange (planned t (done ++ m ∷ []))
together t done m p = record {
  target = p.target;
  some = omega (arith, length_push done m);
  few = omega (arith, length_push done m);
  each = all_push StationInRange done m p.each_done p.last;
}

-- another master in the place of the last
instead : (t : ℕ) (done : List Station) (m n : Station) → (StationInRange m → StationInRange n)
    → NetInRange (planned t (done ++ m ∷ [])) → NetInRange (planned t (done ++ n ∷ []))
instead t done m n k h =
    let p = apart t done m h in
    together t done n record { target = p.target; each_done = p.each_done; last = k p.last; few = p.few }

bare_in_range : (h : ℕ) → HopInRange h → StationInRange (bare h)
bare_in_range h k = record { hop = k; few_highs = omega arith; few_lows = omega arith; each_high = tt; each_low = tt }

high_in_range : (m : Station) (s : Stream) → length (m.highs ++ s ∷ []) ≤ 8 → StreamInRange s → StationInRange m → StationInRange (with_high m s)
high_in_range m s few h k = record {
  hop = k.hop;
  few_highs = few;
  few_lows = k.few_lows;
  each_high = all_push StreamInRange m.highs s k.each_high h;
  each_low = k.each_low;
}

low_in_range : (m : Station) (c : ℕ) → length (m.lows ++ c ∷ []) ≤ 4 → CycleInRange c → StationInRange m → StationInRange (with_low m c)
low_in_range m c few h k = record {
  hop = k.hop;
  few_highs = k.few_highs;
  few_lows = few;
  each_high = k.each_high;
  each_low = all_push CycleInRange m.lows c k.each_low h;
}

pub next_good : (f g : Front) (r : Record) → Good f → Next f r g → Room g → InRange r → Good g
next_good f g r good ring room range = range
next_good f g r good (first {t} {h}) room range = together t [] (bare h) record { target = good; each_done = tt; last = bare_in_range h range; few = room.0 }
next_good f g r good (master {t} {h} {done} {m}) room range =
    together t (done ++ m ∷ []) (bare h) record { target = good.target; each_done = good.each; last = bare_in_range h range; few = room.0 }
next_good f g r good (high {t} {s} {done} {m} e) room range = instead t done m (with_high m (told s)) (high_in_range m (told s) room.1 range) good
next_good f g r good (low {t} {c} {done} {m}) room range = instead t done m (with_low m c) (low_in_range m c room.2 range) good

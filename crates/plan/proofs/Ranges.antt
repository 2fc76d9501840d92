-- Every stream, master and plan that can exist keeps its ranges: each value carries its own.
use Rattle.std.proofs.Common.{◌≡◌, ℕ, ◌≤◌, List, [], ◌∷◌, map, length, arith}
use Rattle.std.specs.List.{AllByRecursion}
use Rattle.std.proofs.lemmas.List.{length-map, length-take-le}
use Rattle.bounded.specs.Items.{items}
use Rattle.bounded.specs.declared.ArrayVec.{ArrayVec}
use Rattle.plan.specs.Net.{CycleInRange, StreamInRange, StationInRange, NetInRange}
use Rattle.plan.specs.Views.{stream_of, cycle_of, station_of, net}
use Rattle.plan.specs.declared.HighStream.{HighStream}
use Rattle.plan.specs.declared.LowStream.{LowStream}
use Rattle.plan.specs.declared.Master.{Master}
use Rattle.plan.specs.declared.Plan.{Plan}

all_of : {X Y : Type 0} (f : X → Y) (P : Y → Type 0) → ((x : X) → P (f x)) → (xs : List X) → AllByRecursion P (map f xs)
all_of f P h [] = tt
all_of f P h (x ∷ xs) = (h x, all_of f P h xs)

-- a view of a bounded list is as short as the list
few : {X Y : Type 0} {N : ℕ} (f : X → Y) (v : ArrayVec X N) → length (map f (items v)) ≤ N
few f v =
    let a = length-map (items v) f in
    let b : length (items v) ≡ v.len = length-take-le v.len v.slots v.within in
    omega (arith, a, b, v.within, v.full)

pub stream_in_range : (s : HighStream) → StreamInRange (stream_of s)
stream_in_range s = record {
  cycle = s.cycles;
  deadline = s.deadlines;
  generation = s.delays.0;
  delivery = s.delays.1;
}

pub cycle_in_range : (s : LowStream) → CycleInRange (cycle_of s)
cycle_in_range s = s.range

pub station_in_range : (m : Master) → StationInRange (station_of m)
station_in_range m = record {
  hop = m.range;
  few_highs = few stream_of m.highs;
  few_lows = few cycle_of m.lows;
  each_high = all_of stream_of StreamInRange stream_in_range (items m.highs);
  each_low = all_of cycle_of CycleInRange cycle_in_range (items m.lows);
}

pub net_in_range : (p : Plan) → NetInRange (net p)
net_in_range p = record {
  target = p.target.range;
  some = omega (arith, length-map (items p.masters) station_of, p.some);
  few = few station_of p.masters;
  each = all_of station_of StationInRange station_in_range (items p.masters);
}

-- The plain numbers that the code's streams, masters and plans stand for. Unused slots never show.
use Rattle.std.specs.Prelude.{ℕ, map}
use Rattle.bounded.specs.Items.{items}
use Rattle.plan.specs.Net.{Stream, Station, Net, NetInRange}
use Rattle.plan.specs.declared.HighStream.{HighStream}
use Rattle.plan.specs.declared.LowStream.{LowStream}
use Rattle.plan.specs.declared.Master.{Master}
use Rattle.plan.specs.declared.Plan.{Plan}
use Rattle.plan.specs.declared.Times.{Times}

abbrev pub told : Times → Stream
told t = record { cycle = t.cycle; deadline = t.deadline; generation = t.generation; delivery = t.delivery }

abbrev pub stream_of : HighStream → Stream
stream_of s = told s.times

abbrev pub cycle_of : LowStream → ℕ
cycle_of s = s.cycle

abbrev pub station_of : Master → Station
station_of m = record { hop = m.hop; highs = map stream_of (items m.highs); lows = map cycle_of (items m.lows) }

abbrev pub net : Plan → Net
net p = record { target = p.target.time; masters = map station_of (items p.masters) }

-- every plan that can exist keeps the ranges
abbrev pub EveryPlanInRange : Type 0
EveryPlanInRange = (p : Plan) → NetInRange (net p)

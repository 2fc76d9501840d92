-- The plan file, as bytes: the version 1, then the records of the plan. A record is the length of
-- what follows in two bytes, its kind, and its body. Every number has its higher byte first.
use Rattle.std.specs.Prelude.{ℕ, ◌/◌, ◌%◌, List, [], ◌∷◌, ◌++◌, map, length}
use Rattle.std.specs.List.{flat_map}
use Rattle.plan.specs.Net.{Stream, Station, Net}
use Rattle.planfile.specs.declared.records.Record.{Record}
use Rattle.planfile.specs.declared.records.Record.TheVariants.{Ring, Master, High, Low}

-- a number in two bytes, and in four
abbrev pub two : ℕ → List ℕ
two n = (n / 256) ∷ (n % 256) ∷ []

abbrev pub four : ℕ → List ℕ
four n = (n / 16777216) ∷ (n / 65536 % 256) ∷ (n / 256 % 256) ∷ (n % 256) ∷ []

-- the kind and the body of a record
abbrev pub contents : Record → List ℕ
contents (Ring target) = 1 ∷ four target
contents (Master hop) = 2 ∷ two hop
contents (High t) = 3 ∷ (two t.cycle ++ (four t.deadline ++ (two t.generation ++ two t.delivery)))
contents (Low cycle) = 4 ∷ two cycle

-- behind the length of what follows
abbrev pub framed : List ℕ → List ℕ
framed xs = two (length xs) ++ xs

abbrev pub record_bytes : Record → List ℕ
record_bytes r = framed (contents r)

abbrev pub high_record : Stream → Record
high_record s = High record { cycle = s.cycle; deadline = s.deadline; generation = s.generation; delivery = s.delivery }

-- a master, then its high streams, then its low ones
abbrev pub station_records : Station → List Record
station_records m = Master m.hop ∷ (map high_record m.highs ++ map Low m.lows)

-- the ring once and first, then the masters in token order
abbrev pub records : Net → List Record
records n = Ring n.target ∷ flat_map station_records n.masters

-- the bytes of the version and of these records
abbrev pub file_of : List Record → List ℕ
file_of rs = 1 ∷ flat_map record_bytes rs

abbrev pub encoded : Net → List ℕ
encoded n = file_of (records n)

-- the bytes of high streams, of low streams, of a master's streams, and of a master with them
abbrev pub highs_bytes : List Stream → List ℕ
highs_bytes ss = flat_map record_bytes (map high_record ss)

abbrev pub lows_bytes : List ℕ → List ℕ
lows_bytes cs = flat_map record_bytes (map Low cs)

abbrev pub streams_bytes : Station → List ℕ
streams_bytes m = highs_bytes m.highs ++ lows_bytes m.lows

abbrev pub station_bytes : Station → List ℕ
station_bytes m = flat_map record_bytes (station_records m)

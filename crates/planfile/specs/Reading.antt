-- Why a file is refused. Reading goes record by record. In front of the first thing that is wrong
-- stand the version and whole records that are right, which make a plan in the making.
use Rattle.std.specs.Prelude.{◌≡◌, ℕ, ◌+◌, ◌*◌, ◌<◌, ◌≤◌, ◌⊎◌, List, [], ◌∷◌, ◌++◌, length, ◌≢◌, slice_index}
use Rattle.refusal.specs.declared.Refusal.{Refusal}
use Rattle.refusal.specs.declared.Refusal.TheVariants.{BadVersion, CutShort, BadRecord, OutOfRange, TooMany, NoMaster}
use Rattle.plan.specs.Net.{Station, bare, with_high, with_low, planned, TargetInRange, HopInRange, CycleInRange, StreamInRange, NetInRange}
use Rattle.plan.specs.Views.{told}
use Rattle.plan.specs.declared.Times.{Times}
use Rattle.planfile.specs.declared.records.Record.{Record}
use Rattle.planfile.specs.declared.records.Record.TheVariants.{Ring, Master, High, Low}
use Rattle.planfile.specs.Format.{contents, framed, record_bytes, records, file_of}

-- what the records so far make: nothing, a target, or masters, of which the last may still get streams
pub data Front : Type 0 where
  start : Front
  ringed : (target : ℕ) → Front
  growing : (target : ℕ) (done : List Station) (last : Station) → Front

-- which record may come next, and what it makes of the front: the ring once and first, then
-- masters, and behind a master its high streams before its low ones
pub data Next : Front → Record → Front → Type 0 where
  ring : {t : ℕ} → Next start (Ring t) (ringed t)
  first : {t h : ℕ} → Next (ringed t) (Master h) (growing t [] (bare h))
  master : {t h : ℕ} {done : List Station} {m : Station} → Next (growing t done m) (Master h) (growing t (done ++ m ∷ []) (bare h))
  high : {t : ℕ} {s : Times} {done : List Station} {m : Station} → m.lows ≡ [] → Next (growing t done m) (High s) (growing t done (with_high m (told s)))
  low : {t c : ℕ} {done : List Station} {m : Station} → Next (growing t done m) (Low c) (growing t done (with_low m c))

-- at most 8 masters, the last one counted with those that are done, and at most 8 high and 4 low streams of the last
abbrev pub Room : Front → Type 0
Room start = Unit {0}
Room (ringed t) = Unit {0}
Room (growing t done m) = (length done < 8) × (length m.highs ≤ 8) × (length m.lows ≤ 4)

abbrev pub InRange : Record → Type 0
InRange (Ring t) = TargetInRange t
InRange (Master h) = HopInRange h
InRange (High s) = StreamInRange (told s)
InRange (Low c) = CycleInRange c

-- the record r may come next, and makes g of f within room and range
pub record Fits (f : Front) (r : Record) (g : Front) : Type 0 where
  pub next : Next f r g
  pub room : Room g
  pub range : InRange r

-- the bytes begin with a whole record that makes g of the front f; `more` is left behind it
pub record Taken (f : Front) (bytes : List ℕ) (g : Front) (more : List ℕ) : Type 0 where
  pub r : Record
  pub fits : Fits f r g
  pub split : bytes ≡ record_bytes r ++ more

-- a front whose numbers are all in range, with no more masters and streams than a plan has room for
abbrev pub Good : Front → Type 0
Good start = Unit {0}
Good (ringed t) = TargetInRange t
Good (growing t done m) = NetInRange (planned t (done ++ m ∷ []))

abbrev pub Masterless : Front → Type 0
Masterless start = Unit {0}
Masterless (ringed t) = Unit {0}
Masterless (growing t done m) = ⊥

abbrev pub front_records : Front → List Record
front_records start = []
front_records (ringed t) = records (planned t [])
front_records (growing t done m) = records (planned t (done ++ m ∷ []))

-- the bytes in front
abbrev pub written : Front → List ℕ
written f = file_of (front_records f)

-- the length that the next record announces
abbrev pub announced : List ℕ → ℕ
announced rest = slice_index rest 0 * 256 + slice_index rest 1

-- a record begins and is not whole: the bytes end within its length field, or before what that announces
abbrev pub Cut : List ℕ → Type 0
Cut rest = (0 < length rest) × ((length rest < 2) ⊎ (length rest < 2 + announced rest))

-- a whole record that cannot be taken, in the order in which it is looked at
pub data Unfit (f : Front) (r : Record) (at : ℕ) : Refusal → Type 0 where
  misplaced : ((f' : Front) → Next f r f' → ⊥) → Unfit f r at (BadRecord at)
  crowded : (f' : Front) → Next f r f' → (Room f' → ⊥) → Unfit f r at (TooMany at)
  beyond : (f' : Front) → Next f r f' → Room f' → (InRange r → ⊥) → Unfit f r at (OutOfRange at)

-- why reading cannot go on behind the front f, where `rest` is left from the place `at` on
pub data Stuck (f : Front) (rest : List ℕ) (at : ℕ) : Refusal → Type 0 where
  cut : Cut rest → Stuck f rest at (CutShort at)
  unknown : (c more : List ℕ) → rest ≡ framed c ++ more → ((r : Record) → contents r ≢ c) → Stuck f rest at (BadRecord at)
  unfit : {e : Refusal} (r : Record) (more : List ℕ) → rest ≡ record_bytes r ++ more → Unfit f r at e → Stuck f rest at e
  ended : rest ≡ [] → Masterless f → Stuck f rest at (NoMaster at)

-- the file begins with the good front f; at the place `at` the rest begins
pub record Behind (file : List ℕ) (f : Front) (rest : List ℕ) (at : ℕ) : Type 0 where
  pub good : Good f
  pub split : file ≡ written f ++ rest
  pub place : at ≡ length (written f)

-- a version byte 1
abbrev pub Versioned : List ℕ → Type 0
Versioned file = (rest : List ℕ) × (file ≡ 1 ∷ rest)

-- the file is refused for the first thing that is wrong in it
pub data Refused (file : List ℕ) : Refusal → Type 0 where
  version : (Versioned file → ⊥) → Refused file BadVersion
  stuck : {e : Refusal} (f : Front) (rest : List ℕ) (at : ℕ) → Behind file f rest at → Stuck f rest at e → Refused file e

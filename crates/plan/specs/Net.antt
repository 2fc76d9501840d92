-- A bus plan in plain numbers, its ranges, and its walk.
use Rattle.std.specs.Prelude.{ℕ, ◌≤◌, List, [], ◌∷◌, ◌++◌, length, map, sum}
use Rattle.std.specs.List.{AllByRecursion}

-- a high stream: its longest cycle with all retries, its deadline, and the delays of generation and delivery
pub record Stream : Type 0 where
  pub cycle : ℕ
  pub deadline : ℕ
  pub generation : ℕ
  pub delivery : ℕ

-- a master: the time of its token to the next master, its high streams, and the longest cycles of its low streams
pub record Station : Type 0 where
  pub hop : ℕ
  pub highs : List Stream
  pub lows : List ℕ

-- a plan: the target rotation time, 0 where it is not set, and the masters in token order
pub record Net : Type 0 where
  pub target : ℕ
  pub masters : List Station

abbrev pub times : (cycle deadline generation delivery : ℕ) → Stream
times c d g v = record { cycle = c; deadline = d; generation = g; delivery = v }

-- a master without streams
abbrev pub bare : (hop : ℕ) → Station
bare h = record { hop = h; highs = []; lows = [] }

-- a master with one more stream behind the others
abbrev pub with_high : Station → Stream → Station
with_high m s = record { hop = m.hop; highs = m.highs ++ s ∷ []; lows = m.lows }

abbrev pub with_low : Station → ℕ → Station
with_low m c = record { hop = m.hop; highs = m.highs; lows = m.lows ++ c ∷ [] }

abbrev pub planned : (target : ℕ) → List Station → Net
planned t ms = record { target = t; masters = ms }

-- a plan with one more master behind the others
abbrev pub with_master : Net → Station → Net
with_master n m = planned n.target (n.masters ++ m ∷ [])

-- a plan at another target
abbrev pub with_target : Net → ℕ → Net
with_target n t = planned t n.masters

abbrev pub TargetInRange : ℕ → Type 0
TargetInRange t = t ≤ 16777215

abbrev pub HopInRange : ℕ → Type 0
HopInRange h = (1 ≤ h) × (h ≤ 10000)

abbrev pub CycleInRange : ℕ → Type 0
CycleInRange c = (1 ≤ c) × (c ≤ 60000)

pub record StreamInRange (s : Stream) : Type 0 where
  pub cycle : CycleInRange s.cycle
  pub deadline : (1 ≤ s.deadline) × (s.deadline ≤ 4294967295)
  pub generation : s.generation ≤ 60000
  pub delivery : s.delivery ≤ 60000

-- at most 8 high and 4 low streams
pub record StationInRange (m : Station) : Type 0 where
  pub hop : HopInRange m.hop
  pub few_highs : length m.highs ≤ 8
  pub few_lows : length m.lows ≤ 4
  pub each_high : AllByRecursion StreamInRange m.highs
  pub each_low : AllByRecursion CycleInRange m.lows

-- 1 to 8 masters
pub record NetInRange (n : Net) : Type 0 where
  pub target : TargetInRange n.target
  pub some : 1 ≤ length n.masters
  pub few : length n.masters ≤ 8
  pub each : AllByRecursion StationInRange n.masters

abbrev pub hops : List Station → ℕ
hops ms = sum (map (λ m. m.hop) ms)

-- the time of one idle rotation
abbrev pub walk : Net → ℕ
walk n = hops n.masters

-- one master with hop 1, no streams, and no target
abbrev pub fresh : Net
fresh = planned 0 (bare 1 ∷ [])

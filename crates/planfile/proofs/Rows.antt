-- Rows of records, one behind the other: their bytes, their lengths, and a loop that writes them.
use Rattle.std.proofs.Common.{◌≡◌, ℕ, ◌+◌, ◌-◌, ◌*◌, ◌<◌, ◌≤◌, List, [], ◌∷◌, ◌++◌, map, length, get_or, take, sym, refl, ap, ◌∙◌, arith}
use borrow.Rule.Slice.PartMut.{put_mid}
use Rattle.std.specs.List.{flat_map, sum_by}
use Rattle.std.proofs.lemmas.List.{append-nil, length-append, take_all, take_more}
use Rattle.std.proofs.lemmas.List.Concat.{flat_map-append}
use Rattle.std.proofs.lemmas.List.Folds.{flat_map-map, length-flat_map-take}
use Rattle.std.proofs.lemmas.List.Sums.{sum_by-cons}
use Rattle.plan.proofs.Ranges.{station_in_range}
use Rattle.plan.specs.Net.{Stream, Station, Net}
use Rattle.plan.specs.Views.{cycle_of, station_of, stream_of}
use Rattle.plan.specs.declared.HighStream.{HighStream}
use Rattle.plan.specs.declared.LowStream.{LowStream}
use Rattle.plan.specs.declared.Master as plan
use Rattle.planfile.specs.declared.records.Record.TheVariants.{Ring, Master, Low}
use Rattle.planfile.specs.Format.{encoded, high_record, highs_bytes, lows_bytes, record_bytes, station_bytes, station_records, streams_bytes}
use Rattle.planfile.specs.Laying.{Put, laid}
use Rattle.planfile.proofs.Laid.{Parts, rest, put_room, put_more}

flat_map-flat_map : {X Y A : Type 0} (f : Y → List A) (g : X → List Y) (xs : List X) → flat_map f (flat_map g xs) ≡ flat_map (λ x. flat_map f (g x)) xs
flat_map-flat_map f g [] = refl
flat_map-flat_map f g (x ∷ xs) = flat_map-append f (g x) (flat_map g xs) ∙ ap (λ bs. flat_map f (g x) ++ bs) (flat_map-flat_map f g xs)

-- rows of what xs show as ys
viewed : {X Y A : Type 0} (f : Y → List A) (g : X → Y) (xs : List X) (ys : List Y) → map g xs ≡ ys → flat_map f ys ≡ flat_map (λ x. f (g x)) xs
viewed f g xs ys e = ap (flat_map f) (sym e) ∙ flat_map-map f g xs

-- a master is its own record, then its high streams, then its low ones
station_streams : (m : Station) → station_bytes m ≡ record_bytes (Master m.hop) ++ streams_bytes m
station_streams m = ap (λ bs. record_bytes (Master m.hop) ++ bs) (flat_map-append record_bytes (map high_record m.highs) (map Low m.lows))

pub station_parts : (hop : ℕ) (highs : List HighStream) (lows : List LowStream) (m : Station) → hop ≡ m.hop → map stream_of highs ≡ m.highs → map cycle_of lows ≡ m.lows
    → Parts (station_bytes m) (record_bytes (Master hop)) (flat_map (λ s. record_bytes (high_record (stream_of s))) highs) (flat_map (λ s. record_bytes (Low (cycle_of s))) lows)
station_parts hop highs lows m is h l =
    let own = ap (λ n. record_bytes (Master n)) (sym is) in
    let first = flat_map-map record_bytes high_record m.highs ∙ viewed (λ s. record_bytes (high_record s)) stream_of highs m.highs h in
    let second = flat_map-map record_bytes Low m.lows ∙ viewed (λ c. record_bytes (Low c)) cycle_of lows m.lows l in
    record { is = station_streams m ∙ (λ i. own i ++ (first i ++ second i)) }

-- a file is the version, the ring, and then the masters
pub encoded_parts : (target : ℕ) (masters : List plan.Master) (n : Net) → target ≡ n.target → map station_of masters ≡ n.masters
    → Parts (encoded n) (1 ∷ []) (record_bytes (Ring target)) (flat_map (λ m. station_bytes (station_of m)) masters)
encoded_parts target masters n t e =
    let ring = ap (λ u. record_bytes (Ring u)) (sym t) in
    let rows = flat_map-flat_map record_bytes station_records n.masters ∙ viewed station_bytes station_of masters n.masters e in
    record { is = λ i. 1 ∷ (ring i ++ rows i) }

highs_size : (ss : List Stream) → length (highs_bytes ss) ≡ 13 * length ss
highs_size [] = refl
highs_size (s ∷ ss) = omega (arith, highs_size ss)

lows_size : (cs : List ℕ) → length (lows_bytes cs) ≡ 5 * length cs
lows_size [] = refl
lows_size (c ∷ cs) = omega (arith, lows_size cs)

pub station_size : (m : Station) → length (station_bytes m) ≡ 5 + 13 * length m.highs + 5 * length m.lows
station_size m =
    omega (arith, ap length (station_streams m), length-append (highs_bytes m.highs) (lows_bytes m.lows), highs_size m.highs, lows_size m.lows)

pub stations_size : (ms : List plan.Master) → sum_by (λ m. length (station_bytes (station_of m))) ms ≤ length ms * 129
stations_size [] = omega arith
stations_size (m ∷ ms) =
    let k = station_in_range m in
    omega (arith, sum_by-cons (λ m. length (station_bytes (station_of m))) m ms, station_size (station_of m), k.few_highs, k.few_lows, stations_size ms)

-- a loop that writes the rows of xs has come to the place i, `at` bytes into the buffer
pub record Written {X : Type 0} (f : X → List ℕ) (xs : List X) (i at : ℕ) (buffer now : List ℕ) : Type 0 where
  pub within : i ≤ length xs
  pub room : length (flat_map f xs) ≤ length buffer
  pub begun : Put (flat_map f (take i xs)) buffer now at

module _ {X : Type 0} {f : X → List ℕ} {xs : List X} {i at : ℕ} {buffer now : List ℕ} (w : Written f xs i at buffer now) where
  pub written_all : length xs ≤ i → Put (flat_map f xs) buffer now at
  written_all over =
      let all : flat_map f (take i xs) ≡ flat_map f xs = ap (flat_map f) (take_all i xs over) in
      record { count = w.begun.count ∙ ap length all; front = w.begun.front ∙ ap (λ bs. laid bs buffer) all }

  module _ (x : X) (l : i < length xs) (is : x ≡ get_or xs i x) where
    -- one more item
    more : flat_map f (take (i + 1) xs) ≡ flat_map f (take i xs) ++ f x
    more =
        ap (flat_map f) (take_more xs i x l) ∙ flat_map-append f (take i xs) (get_or xs i x ∷ [])
        ∙ ap (λ bs. flat_map f (take i xs) ++ bs) (append-nil (f (get_or xs i x)) ∙ ap f (sym is))

    fits : length (flat_map f (take i xs) ++ f x) ≤ length buffer
    fits = omega (arith, w.room, length-flat_map-take f xs i x l, ap (λ y. length (f y)) is, length-append (flat_map f (take i xs)) (f x))

    pub written_room : length (f x) ≤ length (rest now at)
    written_room = put_room w.begun (f x) fits

    pub written_more : (after : List ℕ) (n : ℕ) → Put (f x) (rest now at) after n → Written f xs (i + 1) (at + n) buffer (put_mid at (length now - at) now after)
    written_more after n p =
        let next : Put (flat_map f (take i xs) ++ f x) buffer (put_mid at (length now - at) now after) (at + n) = put_more w.begun (f x) after n p in
        record {
          within = omega arith;
          room = w.room;
          begun = record { count = next.count ∙ ap length (sym more); front = next.front ∙ ap (λ bs. laid bs buffer) (sym more) };
        }

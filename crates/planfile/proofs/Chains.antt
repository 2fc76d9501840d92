-- The records of a good front lead to it from the start, one by one. Where no further record goes on, their bytes lead to no other front.
use Rattle.std.proofs.Common.{◌≡◌, ℕ, ◌<◌, ◌≤◌, List, [], ◌∷◌, ◌++◌, map, length, drop, sym, refl, ap, ◌∙◌, subst, arith}
use Rattle.std.specs.List.{flat_map, AllByRecursion}
use Rattle.std.proofs.lemmas.List.{append-nil, append_assoc, length-append, length_push}
use Rattle.plan.specs.Net.{Stream, Station, bare, CycleInRange, StreamInRange, StationInRange}
use Rattle.planfile.specs.declared.records.Record.{Record}
use Rattle.planfile.specs.declared.records.Record.TheVariants.{Master, Low}
use Rattle.planfile.specs.Format.{record_bytes, high_record, station_records}
use Rattle.planfile.specs.Reading.{Front, Next, Fits, Taken, Good, front_records, written}
use Rattle.planfile.specs.Reading.Front.{start, ringed, growing}
use Rattle.planfile.specs.Reading.Next.{ring, first, master, high, low}
use Rattle.planfile.proofs.Framing.{record_once}
use Rattle.planfile.proofs.Steps.{next_once}
use Rattle.planfile.proofs.Goods.{apart}

pub data Chain : Front → List Record → Front → Type 0 where
  none : {f : Front} → Chain f [] f
  more : {f g h : Front} {r : Record} {rs : List Record} → Fits f r g → Chain g rs h → Chain f (r ∷ rs) h

linked : {f g h : Front} {rs ss : List Record} → Chain f rs g → Chain g ss h → Chain f (rs ++ ss) h
linked none d = d
linked (more k c) d = more k (linked c d)

-- streams of one kind, of which there are at most n
module _ {X : Type 0} (at : List X → Front) (tells : X → Record) (P : X → Type 0) (n : ℕ)
    (step : (xs : List X) (x : X) → length (xs ++ x ∷ []) ≤ n → P x → Fits (at xs) (tells x) (at (xs ++ x ∷ []))) where
  streams : (xs ys : List X) → length (xs ++ ys) ≤ n → AllByRecursion P ys → Chain (at xs) (map tells ys) (at (xs ++ ys))
  streams xs [] few each = rw append-nil none
  streams xs (y ∷ ys) few each =
      let few-y : length (xs ++ y ∷ []) ≤ n = omega (arith, length_push xs y, length-append xs (y ∷ ys)) in
      let few-ys : length ((xs ++ y ∷ []) ++ ys) ≤ n = rw append_assoc few in
      more (step xs y few-y each.0) (rw append_assoc at (streams (xs ++ y ∷ []) ys few-ys each.1))

-- the last of the masters, with these streams
abbrev with_streams : (target : ℕ) (done : List Station) (hop : ℕ) → List Stream → List ℕ → Front
with_streams t done h hs ls = growing t done record { hop = h; highs = hs; lows = ls }

module _ (t : ℕ) (done : List Station) (few : length done < 8) where
  high_taken : (h : ℕ) (hs : List Stream) (s : Stream) → length (hs ++ s ∷ []) ≤ 8 → StreamInRange s
      → Fits (with_streams t done h hs []) (high_record s) (with_streams t done h (hs ++ s ∷ []) [])
  high_taken h hs s few_highs range = record { next = high refl; room = (few, few_highs, omega arith); range = range }

  low_taken : (h : ℕ) (hs : List Stream) → length hs ≤ 8 → (ls : List ℕ) (c : ℕ) → length (ls ++ c ∷ []) ≤ 4 → CycleInRange c
      → Fits (with_streams t done h hs ls) (Low c) (with_streams t done h hs (ls ++ c ∷ []))
  low_taken h hs few_highs ls c few_lows range = record { next = low; room = (few, few_highs, few_lows); range = range }

  -- a master and all its streams
  station : {f : Front} (m : Station) → StationInRange m → Next f (Master m.hop) (growing t done (bare m.hop))
      → Chain f (station_records m) (growing t done m)
  station m k next =
      let at : List Stream → List ℕ → Front = with_streams t done m.hop in
      let first-low = low_taken m.hop m.highs k.few_highs in
      let highs = streams (λ hs. at hs []) high_record StreamInRange 8 (high_taken m.hop) [] m.highs k.few_highs k.each_high in
      let lows = streams (at m.highs) Low CycleInRange 4 first-low [] m.lows k.few_lows k.each_low in
      more record { next = next; room = (few, omega arith, omega arith); range = k.hop } (linked highs lows)

-- masters, up to m, behind those of `before`
masters : (t : ℕ) (before : List Station) {f : Front} → ((h : ℕ) → Next f (Master h) (growing t before (bare h)))
    → (done : List Station) (m : Station) → length (before ++ done) < 8 → AllByRecursion StationInRange done → StationInRange m
    → Chain f (flat_map station_records (done ++ m ∷ [])) (growing t (before ++ done) m)
masters t before next [] m few each k =
    let few-before : length before < 8 = rw append-nil at few in
    simp append-nil (station t before few-before m k (next m.hop))
masters t before next (n ∷ done) m few each k =
    let few-before : length before < 8 = omega (arith, length-append before (n ∷ done)) in
    let few_done : length ((before ++ n ∷ []) ++ done) < 8 = rw append_assoc few in
    let rest = masters t (before ++ n ∷ []) {f = growing t before n} (λ h. master) done m few_done each.1 k in
    linked (station t before few-before n each.0 (next n.hop)) (rw append_assoc at rest)

pub chain : (f : Front) → Good f → Chain start (front_records f) f
chain start good = none
chain (ringed t) good = more record { next = ring; room = tt; range = good } none
chain (growing t done m) good =
    let p = apart t done m good in
    more record { next = ring; room = tt; range = p.target } (masters t [] (λ h. first) done m p.few p.each_done p.last)

-- behind f, the bytes begin with a record that is taken
abbrev pub GoesOn : Front → List ℕ → Type 0
GoesOn f bytes = (g : Front) × (more : List ℕ) × Taken f bytes g more

goes_on : {f g : Front} {r : Record} (rs : List Record) (bytes x : List ℕ) → Fits f r g → bytes ≡ flat_map record_bytes (r ∷ rs) ++ x → GoesOn f bytes
goes_on {g = g} {r} rs bytes x k e =
    let xs : List ℕ = flat_map record_bytes rs in
    (g, xs ++ x, record { r = r; fits = k; split = e ∙ append_assoc (record_bytes r) xs x })

same_step : (f g h : Front) (r s : Record) (x y : List ℕ) → Next f r g → Next f s h → record_bytes r ++ x ≡ record_bytes s ++ y → (g ≡ h) × (x ≡ y)
same_step f g h r s x y n k e =
    let w = record_once r s x y e in
    (next_once f g h s (subst (λ z. Next f z g) w.0 n) k, w.1)

-- chains from the same front
same_end : {s f g : Front} {rs ss : List Record} (x y : List ℕ) → Chain s rs f → Chain s ss g → flat_map record_bytes rs ++ x ≡ flat_map record_bytes ss ++ y
    → (GoesOn f x → ⊥) → (GoesOn g y → ⊥) → (f ≡ g) × (x ≡ y)
same_end x y none none e p q = (refl, e)
same_end x y none (more {rs = ss} l d) e p q = absurd (p (goes_on ss x y l e))
same_end x y (more {rs = rs} k c) none e p q = absurd (q (goes_on rs y x k (sym e)))
same_end {s} {f} {g} x y (more {g = a} {r = r} {rs = rs} k c) (more {g = b} {r = r'} {rs = ss} l d) e p q =
    let xs : List ℕ = flat_map record_bytes rs in
    let ys : List ℕ = flat_map record_bytes ss in
    let split = sym (append_assoc (record_bytes r) xs x) ∙ e ∙ append_assoc (record_bytes r') ys y in
    let w = same_step s a b r r' (xs ++ x) (ys ++ y) k.next l.next split in
    same_end x y c (subst (λ z. Chain z ss g) (sym w.0) d) w.1 p q

pub same_front : (f g : Front) (x y : List ℕ) → Good f → Good g → written f ++ x ≡ written g ++ y
    → (GoesOn f x → ⊥) → (GoesOn g y → ⊥) → (f ≡ g) × (x ≡ y)
same_front f g x y h k e = same_end x y (chain f h) (chain g k) (ap (drop 1) e)

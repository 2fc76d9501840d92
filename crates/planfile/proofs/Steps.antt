-- One more record makes one front of another, and adds its own bytes.
use Rattle.std.proofs.Common.{◌≡◌, ℕ, List, [], ◌∷◌, ◌++◌, sym, refl, ap, ◌∙◌}
use Rattle.std.proofs.lemmas.List.{append-nil, append_assoc, map_push, flat_map_more}
use Rattle.plan.specs.Net.{Stream, Station, bare, with_high, with_low, planned}
use Rattle.planfile.specs.declared.records.Record.{Record}
use Rattle.planfile.specs.declared.records.Record.TheVariants.{Ring, Low}
use Rattle.plan.specs.Views.{told}
use Rattle.planfile.specs.Format.{record_bytes, high_record, station_records, records, file_of}
use Rattle.planfile.specs.Reading.{Front, Next, front_records, written}
use Rattle.planfile.specs.Reading.Next.{ring, first, master, high, low}

pub next_once : (f g h : Front) (r : Record) → Next f r g → Next f r h → g ≡ h
next_once f g h r ring ring = refl
next_once f g h r first first = refl
next_once f g h r master master = refl
next_once f g h r (high e) (high e') = refl
next_once f g h r low low = refl

high_records : (m : Station) (s : Stream) → m.lows ≡ [] → station_records (with_high m s) ≡ station_records m ++ high_record s ∷ []
high_records m s e = simp (e, map_push, append-nil)

low_records : (m : Station) (c : ℕ) → station_records (with_low m c) ≡ station_records m ++ Low c ∷ []
low_records m c = simp (map_push, append_assoc)

-- a record of the last master is the last record
last_records : (t : ℕ) (done : List Station) (m n : Station) (r : Record)
    → station_records n ≡ station_records m ++ r ∷ [] → records (planned t (done ++ n ∷ [])) ≡ records (planned t (done ++ m ∷ [])) ++ r ∷ []
last_records t done m n r e =
    let front : List Record = records (planned t done) in
    let whole = flat_map_more station_records (Ring t ∷ []) done in
    sym (whole n) ∙ ap (λ rs. front ++ rs) e ∙ sym (append_assoc front (station_records m) (r ∷ [])) ∙ ap (λ rs. rs ++ r ∷ []) (whole m)

pub next_records : (f g : Front) (r : Record) → Next f r g → front_records g ≡ front_records f ++ r ∷ []
next_records f g r ring = refl
next_records f g r first = refl
next_records f g r (master {t} {h} {done} {m}) = sym (flat_map_more station_records (Ring t ∷ []) (done ++ m ∷ []) (bare h))
next_records f g r (high {t} {s} {done} {m} e) = last_records t done m (with_high m (told s)) r (high_records m (told s) e)
next_records f g r (low {t} {c} {done} {m}) = last_records t done m (with_low m c) r (low_records m c)

pub next_written : (f g : Front) (r : Record) → Next f r g → written g ≡ written f ++ record_bytes r
next_written f g r n = ap file_of (next_records f g r n) ∙ sym (flat_map_more record_bytes (1 ∷ []) (front_records f) r)

-- A file is refused for one reason at most, and not at all where it is the file of a plan. It is the file of one plan at most.
use Rattle.std.proofs.Common.{◌≡◌, ℕ, List, [], ◌∷◌, ◌++◌, length, drop, sym, refl, ap, ◌∙◌, arith}
use mathlib.Core.Path.{transport}
use Rattle.std.specs.List.{flat_map}
use Rattle.std.proofs.lemmas.List.{append-nil, append_assoc}
use Rattle.refusal.specs.declared.Refusal.{Refusal}
use Rattle.plan.specs.Net.{Station, Net, planned, NetInRange}
use Rattle.planfile.specs.Format.{record_bytes, records, encoded}
use Rattle.planfile.specs.Reading.Front.{start, ringed, growing}
use Rattle.planfile.specs.Reading.{Front, Good, Masterless, Stuck, Behind, Versioned, Refused, written}
use Rattle.planfile.specs.Reading.Refused.{version, stuck}
use Rattle.planfile.proofs.Chains.{same_front}
use Rattle.planfile.proofs.Stops.{stuck_once, filled_not_stuck, stuck_not_going, nil_not_going}

moved : {f g : Front} {x y : List ℕ} {at at' : ℕ} {e : Refusal} → f ≡ g → x ≡ y → at ≡ at' → Stuck f x at e → Stuck g y at' e
moved {e = e} p q r s = transport (λ i. Stuck (p i) (q i) (r i) e) s

module _ (file : List ℕ) where
  versioned : (f : Front) (rest : List ℕ) (at : ℕ) → Behind file f rest at → Versioned file
  versioned f rest at b = (drop 1 (written f) ++ rest, b.split)

  same_reason : (f g : Front) (x y : List ℕ) (at at' : ℕ) (e e' : Refusal) → Behind file f x at → Behind file g y at'
      → Stuck f x at e → Stuck g y at' e' → e ≡ e'
  same_reason f g x y at at' e e' b c s t =
      let w = same_front f g x y b.good c.good (sym b.split ∙ c.split) (stuck_not_going f x at e s) (stuck_not_going g y at' e' t) in
      let place : at ≡ at' = b.place ∙ ap (λ h. length (written h)) w.0 ∙ sym c.place in
      stuck_once g y at' e e' (moved w.0 w.1 place s) t

  pub refused_once : (e e' : Refusal) → Refused file e → Refused file e' → e ≡ e'
  refused_once e e' (version p) (version q) = refl
  refused_once e e' (version p) (stuck g y at c t) = absurd (p (versioned g y at c))
  refused_once e e' (stuck f x at b s) (version q) = absurd (q (versioned f x at b))
  refused_once e e' (stuck f x at b s) (stuck g y at' c t) = same_reason f g x y at at' e e' b c s t

-- the plan that a front makes
abbrev made : Front → Net
made start = planned 0 []
made (ringed t) = planned t []
made (growing t done m) = planned t (done ++ m ∷ [])

-- a good front that makes the plan n
record Whole (n : Net) : Type 0 where
  front : Front
  good : Good front
  filled : Masterless front → ⊥
  bytes : encoded n ≡ written front ++ []
  makes : made front ≡ n

whole_behind : (t : ℕ) (done : List Station) (m : Station) (ms : List Station) → NetInRange (planned t (done ++ m ∷ ms)) → Whole (planned t (done ++ m ∷ ms))
whole_behind t done m [] h = record {
  front = growing t done m;
  good = h;
  filled = λ z. z;
  bytes = sym (append-nil (written (growing t done m)));
  makes = refl;
}
whole_behind t done m (n ∷ ms) h = rw append_assoc at (whole_behind t (done ++ m ∷ []) n ms (rw append_assoc h))

whole_from : (t : ℕ) (ms : List Station) → NetInRange (planned t ms) → Whole (planned t ms)
whole_from t [] h = absurd (omega (arith, h.some))
whole_from t (m ∷ ms) h = whole_behind t [] m ms h

whole : (n : Net) → NetInRange n → Whole n
whole n h = whole_from n.target n.masters h

pub accepted_not_refused : (n : Net) (file : List ℕ) (e : Refusal) → NetInRange n → file ≡ encoded n → Refused file e → ⊥
accepted_not_refused n file e h w (version p) = p (flat_map record_bytes (records n), w)
accepted_not_refused n file e h w (stuck f x at b s) =
    let a = whole n h in
    let c = same_front f a.front x [] b.good a.good (sym b.split ∙ w ∙ a.bytes) (stuck_not_going f x at e s) (nil_not_going a.front) in
    filled_not_stuck a.front [] at e a.filled refl (moved c.0 c.1 refl s)

pub encoded_once : (n m : Net) → NetInRange n → NetInRange m → encoded n ≡ encoded m → n ≡ m
encoded_once n m h k e =
    let a = whole n h in
    let b = whole m k in
    let c = same_front a.front b.front [] [] a.good b.good (sym a.bytes ∙ e ∙ b.bytes) (nil_not_going a.front) (nil_not_going b.front) in
    sym a.makes ∙ ap made c.0 ∙ b.makes

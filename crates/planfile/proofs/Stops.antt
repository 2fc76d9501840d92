-- Where reading is stuck, it is for one reason, and no further record goes on.
use Rattle.std.proofs.Common.{◌≡◌, ℕ, List, [], ◌++◌, length, sym, refl, ap, ◌∙◌, subst, arith}
use Rattle.refusal.specs.declared.Refusal.{Refusal}
use Rattle.planfile.specs.declared.records.Record.{Record}
use Rattle.planfile.specs.Format.{contents, framed, record_bytes}
use Rattle.planfile.specs.Reading.{Front, Next, Room, InRange, Masterless, Cut, Unfit, Stuck}
use Rattle.planfile.specs.Reading.Unfit.{misplaced, crowded, beyond}
use Rattle.planfile.specs.Reading.Stuck.{cut, unknown, unfit, ended}
use Rattle.planfile.proofs.Framing.{framed_once, record_once, cut_not_whole}
use Rattle.planfile.proofs.Steps.{next_once}
use Rattle.planfile.proofs.Chains.{GoesOn}

module _ (f : Front) (r : Record) (at : ℕ) where
  unfit_once : (e e' : Refusal) → Unfit f r at e → Unfit f r at e' → e ≡ e'
  unfit_once e e' (misplaced p) (misplaced q) = refl
  unfit_once e e' (misplaced p) (crowded h m q) = absurd (p h m)
  unfit_once e e' (misplaced p) (beyond h m q o) = absurd (p h m)
  unfit_once e e' (crowded g n p) (misplaced q) = absurd (q g n)
  unfit_once e e' (crowded g n p) (crowded h m q) = refl
  unfit_once e e' (crowded g n p) (beyond h m q o) = absurd (p (subst Room (next_once f h g r m n) q))
  unfit_once e e' (beyond g n p o) (misplaced q) = absurd (q g n)
  unfit_once e e' (beyond g n p o) (crowded h m q) = absurd (q (subst Room (next_once f g h r n m) p))
  unfit_once e e' (beyond g n p o) (beyond h m q o') = refl

  taken_not_unfit : (g : Front) (e : Refusal) → Next f r g → Room g → InRange r → Unfit f r at e → ⊥
  taken_not_unfit g e n room range (misplaced p) = p g n
  taken_not_unfit g e n room range (crowded h m p) = p (subst Room (next_once f g h r n m) room)
  taken_not_unfit g e n room range (beyond h m p o) = o range

-- what the bytes that are left begin with
module _ (rest : List ℕ) where
  nil_not_whole : (c x : List ℕ) → rest ≡ [] → rest ≡ framed c ++ x → ⊥
  nil_not_whole c x e w = omega (arith, ap length (sym e ∙ w))

  nil_not_cut : rest ≡ [] → Cut rest → ⊥
  nil_not_cut e k = omega (arith, ap length e, k.0)

  same_contents : (r : Record) (c x y : List ℕ) → rest ≡ record_bytes r ++ x → rest ≡ framed c ++ y → contents r ≡ c
  same_contents r c x y v w = (framed_once (contents r) c x y (sym v ∙ w)).0

  same_record : (r s : Record) (x y : List ℕ) → rest ≡ record_bytes r ++ x → rest ≡ record_bytes s ++ y → r ≡ s
  same_record r s x y v w = (record_once r s x y (sym v ∙ w)).0

module _ (f : Front) (rest : List ℕ) (at : ℕ) where
  pub stuck_once : (e e' : Refusal) → Stuck f rest at e → Stuck f rest at e' → e ≡ e'
  stuck_once e e' (cut k) (cut l) = refl
  stuck_once e e' (cut k) (unknown d y w q) = absurd (cut_not_whole rest d y k w)
  stuck_once e e' (cut k) (unfit s y w u) = absurd (cut_not_whole rest (contents s) y k w)
  stuck_once e e' (cut k) (ended w h) = absurd (nil_not_cut rest w k)
  stuck_once e e' (unknown c x v p) (cut l) = absurd (cut_not_whole rest c x l v)
  stuck_once e e' (unknown c x v p) (unknown d y w q) = refl
  stuck_once e e' (unknown c x v p) (unfit s y w u) = absurd (p s (same_contents rest s c y x w v))
  stuck_once e e' (unknown c x v p) (ended w h) = absurd (nil_not_whole rest c x w v)
  stuck_once e e' (unfit r x v u) (cut l) = absurd (cut_not_whole rest (contents r) x l v)
  stuck_once e e' (unfit r x v u) (unknown d y w q) = absurd (q r (same_contents rest r d x y v w))
  stuck_once e e' (unfit r x v u) (unfit s y w t) = unfit_once f s at e e' (subst (λ z. Unfit f z at e) (same_record rest r s x y v w) u) t
  stuck_once e e' (unfit r x v u) (ended w h) = absurd (nil_not_whole rest (contents r) x w v)
  stuck_once e e' (ended v h) (cut l) = absurd (nil_not_cut rest v l)
  stuck_once e e' (ended v h) (unknown d y w q) = absurd (nil_not_whole rest d y v w)
  stuck_once e e' (ended v h) (unfit s y w u) = absurd (nil_not_whole rest (contents s) y v w)
  stuck_once e e' (ended v h) (ended w k) = refl

  -- nothing is left behind a master
  pub filled_not_stuck : (e : Refusal) → (Masterless f → ⊥) → rest ≡ [] → Stuck f rest at e → ⊥
  filled_not_stuck e filled w (cut k) = nil_not_cut rest w k
  filled_not_stuck e filled w (unknown c x v p) = nil_not_whole rest c x w v
  filled_not_stuck e filled w (unfit r x v u) = nil_not_whole rest (contents r) x w v
  filled_not_stuck e filled w (ended v h) = filled h

module _ (f g : Front) (r : Record) (rest more : List ℕ) (at : ℕ) where
  pub fits_not_stuck : (e : Refusal) → Next f r g → Room g → InRange r → rest ≡ record_bytes r ++ more → Stuck f rest at e → ⊥
  fits_not_stuck e n room range w (cut k) = cut_not_whole rest (contents r) more k w
  fits_not_stuck e n room range w (unknown c x v p) = p r (same_contents rest r c more x w v)
  fits_not_stuck e n room range w (unfit s x v u) = taken_not_unfit f r at g e n room range (subst (λ z. Unfit f z at e) (same_record rest s r x more v w) u)
  fits_not_stuck e n room range w (ended v h) = nil_not_whole rest (contents r) more v w

pub stuck_not_going : (f : Front) (rest : List ℕ) (at : ℕ) (e : Refusal) → Stuck f rest at e → GoesOn f rest → ⊥
stuck_not_going f rest at e s (g, more, k) = fits_not_stuck f g k.r rest more at e k.fits.next k.fits.room k.fits.range k.split s

pub nil_not_going : (f : Front) → GoesOn f [] → ⊥
nil_not_going f (g, more, k) = nil_not_whole [] (contents k.r) more refl k.split

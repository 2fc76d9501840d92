-- The loop of reading: what becomes of a file of which a good front and the rest are known.
use Rattle.std.proofs.Common.{◌≡◌, ℕ, ◌-◌, List, ◌++◌, length, sym, ap, ◌∙◌, subst, arith}
use Rattle.std.proofs.lemmas.List.{append_assoc, append-nil, length-append, nil_from_length}
use Rattle.refusal.specs.declared.Refusal.{Refusal}
use Rattle.refusal.specs.declared.Refusal.TheVariants.{NoMaster}
use Rattle.plan.specs.Net.{Net}
use Rattle.planfile.specs.Format.{encoded, file_of, record_bytes, records}
use Rattle.planfile.specs.Reading.{Front, Taken, Masterless, Behind, Refused, front_records, written}
use Rattle.planfile.specs.Reading.Stuck.{ended}
use Rattle.planfile.specs.Reading.Refused.{stuck}
use Rattle.planfile.proofs.Steps.{next_written}
use Rattle.planfile.proofs.Goods.{next_good}

-- the bytes that are left stand at the end of the file
pub at_end : {file rest : List ℕ} {f : Front} {at : ℕ} → Behind file f rest at → at ≡ length file - length rest
at_end {rest = rest} {f} b = omega (arith, b.place, ap length b.split, length-append (written f) rest)

-- a record is taken
pub goes_on : {file rest more : List ℕ} {f g : Front} {at : ℕ} → Behind file f rest at → Taken f rest g more → Behind file g more (length file - length more)
goes_on {file} {rest} {more} {f} {g} b k =
    let longer : written g ≡ written f ++ record_bytes k.r = next_written f g k.r k.fits.next in
    let split : file ≡ written g ++ more =
    b.split ∙ ap (λ x. written f ++ x) k.split ∙ sym (append_assoc (written f) (record_bytes k.r) more) ∙ ap (λ x. x ++ more) (sym longer) in
    record {
      good = next_good f g k.r b.good k.fits.next k.fits.room k.fits.range;
      split = split;
      place = omega (arith, ap length split, length-append (written g) more);
    }

-- the file ends
module _ {file rest : List ℕ} {f : Front} {at : ℕ} (b : Behind file f rest at) (end : length rest ≡ 0) where
  pub whole : (n : Net) → front_records f ≡ records n → file ≡ encoded n
  whole n e = b.split ∙ ap (λ xs. written f ++ xs) (nil_from_length rest end) ∙ append-nil (written f) ∙ ap file_of e

  pub no_master : (e : Refusal) → e ≡ NoMaster (length file) → Masterless f → Refused file e
  no_master e is none =
      let place : at ≡ length file = omega (arith, end, at_end b) in
      subst (λ x. Refused file x) (sym (is ∙ ap NoMaster (sym place))) (stuck f rest at b (ended (nil_from_length rest end) none))

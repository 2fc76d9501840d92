-- How a refusal is shown: its layer, its number, its place and its reason.
use Rattle.std.specs.Prelude.{ℕ, List, ◌++◌, codes, decimal}
use Rattle.refusal.specs.Refusals.{layer_of, number_of, place_of, reason_of}
use Rattle.refusal.specs.declared.Layer.{Layer}
use Rattle.refusal.specs.declared.Layer.TheVariants.{File, Plan, Bank}
use Rattle.refusal.specs.declared.Place.{Place}
use Rattle.refusal.specs.declared.Place.TheVariants.{Nowhere, At}
use Rattle.refusal.specs.declared.Refusal.{Refusal}

abbrev pub layer_text : Layer → List ℕ
layer_text File = codes "file"
layer_text Plan = codes "plan"
layer_text Bank = codes "bank"

abbrev pub place_text : Place → List ℕ
place_text Nowhere = codes "0"
place_text (At n) = decimal n

abbrev pub refusal_text : Refusal → List ℕ
refusal_text r = codes "refused by " ++ (layer_text (layer_of r) ++ (codes ", number " ++ (decimal (number_of r) ++ (codes ", place " ++ (place_text (place_of r) ++ (codes ": " ++ reason_of r))))))

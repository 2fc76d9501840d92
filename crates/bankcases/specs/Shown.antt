-- How an answer is shown, and why a call cannot be read.
use Rattle.std.specs.Prelude.{ℕ, List, Some, None, Ok, Err, true, false, codes, decimal}
use Rattle.refusal.specs.Refusals.{number_of}
use Rattle.bankcases.specs.declared.answer.Answer.{Answer}
use Rattle.bankcases.specs.declared.answer.Answer.TheVariants.{Count, Told, Given, Shaped}
use Rattle.bankcases.specs.declared.call.Unreadable.{Unreadable}
use Rattle.bankcases.specs.declared.call.Unreadable.TheVariants.{CutShort, NoSuchCall}

abbrev pub answer_text : Answer → List ℕ
answer_text (Count n) = decimal n
answer_text (Told true) = codes "true"
answer_text (Told false) = codes "false"
answer_text (Given (Some n)) = decimal n
answer_text (Given None) = codes "none"
answer_text (Shaped (Ok u)) = codes "shaped"
answer_text (Shaped (Err e)) = decimal (number_of e)

abbrev pub unreadable_text : Unreadable → List ℕ
unreadable_text CutShort = codes "cut short"
unreadable_text NoSuchCall = codes "no such call"

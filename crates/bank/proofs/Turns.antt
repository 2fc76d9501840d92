-- Whatever is called on a bank, a stream that waits is given in its turn.
use Rattle.std.proofs.Common.{◌≡◌, ℕ, ◌+◌, ◌<◌, true, false, List, ◌∷◌, arith}
use Rattle.std.proofs.lemmas.Bool.Decides.{nat_tests}
use Rattle.std.proofs.lemmas.List.Sums.{sum_by-cons}
use Rattle.bank.specs.Meaning.{Meaning, Put}
use Rattle.bank.specs.Runs.{Call, Does, Fair, given, InTurn, Runs, taken, takes_one}
use Rattle.bank.specs.Runs.Runs.{rest, then}

-- one call more
one_more : (m : Meaning) (cs : List Call) (m' : Meaning) (c : Call) (m'' : Meaning) → InTurn m cs m' → Does m' c m'' → InTurn m (c ∷ cs) m''
one_more m cs m' c m'' so_far d =
    let more : (k : ℕ) → taken k (c ∷ cs) ≡ takes_one k c + taken k cs = λ k. sum_by-cons (takes_one k) c cs in
    grind (arith, nat_tests, more)

in_turn : (m : Meaning) (cs : List Call) (m' : Meaning) → Runs m cs m' → InTurn m cs m'
in_turn m cs m' rest = grind (arith, nat_tests)
in_turn m cs m'' (then {c = c} {cs = older} {m' = m'} r d) = one_more m older m' c m'' (in_turn m older m' r) d

prompt : (m : Meaning) (k i : ℕ) (m' : Meaning) (cs : List Call) (m'' : Meaning) → Put m k i true m' → Runs m' cs m'' → given k i cs ≡ false → taken k cs < (m k).turns i
prompt m k i m' cs m'' p r f = grind (arith, nat_tests, in_turn m' cs m'' r)

pub fair : Fair
fair = record { in_turn = in_turn; prompt = prompt }

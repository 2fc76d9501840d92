-- What one call on a bank does to a line.
use Rattle.std.proofs.Common.{◌≡◌, ℕ, ◌+◌, ◌≤◌, Bool, true, false, Some, None, Option, arith}
use Rattle.std.proofs.lemmas.Bool.Decides.{nat_tests}
use Rattle.bank.specs.Meaning.{Line, LinePut, LineTake, Meaning, SameShape, Waits}
use Rattle.bank.specs.Runs.{Call, Does, gives, puts, takes_one}
use Rattle.bank.specs.Runs.Call.{put, take}

-- sizes and turns stay
put_shape : (l : Line) (i : ℕ) (r : Bool) (l' : Line) → LinePut l i r l' → SameShape l l'
put_shape l i true l' p = grind (arith, nat_tests)
put_shape l i false l' p = grind (arith, nat_tests)

take_shape : (l : Line) (r : Option ℕ) (l' : Line) → LineTake l r l' → SameShape l l'
take_shape l None l' t = grind (arith, nat_tests)
take_shape l (Some i) l' t = grind (arith, nat_tests)

shapes : (m : Meaning) (c : Call) (m' : Meaning) → Does m c m' → (k : ℕ) → SameShape (m k) (m' k)
shapes m (put k i r) m' v j = grind (arith, nat_tests, put_shape (m k) i r (m' k))
shapes m (take k r) m' v j = grind (arith, nat_tests, take_shape (m k) r (m' k))

-- what waits and is not given goes on, and a take at its master lowers what is left to it
abbrev GoesOn : Call → ℕ → ℕ → Line → Line → Type 0
GoesOn c i k l l' = Waits l i → gives k i c ≡ false → Waits l' i × (takes_one k c + l'.left i ≤ l.left i)

put_goes_on : (k i₀ i : ℕ) (r : Bool) (l l' : Line) → LinePut l i₀ r l' → GoesOn (put k i₀ r) i k l l'
put_goes_on k i₀ i true l l' p h f = (grind (arith, nat_tests), grind (arith, nat_tests))
put_goes_on k i₀ i false l l' p h f = (grind (arith, nat_tests), grind (arith, nat_tests))

take_goes_on : (k i : ℕ) (r : Option ℕ) (l l' : Line) → LineTake l r l' → GoesOn (take k r) i k l l'
take_goes_on k i None l l' t h f = absurd (omega (arith, t.0 i))
take_goes_on k i (Some j) l l' t h f = (grind (arith, nat_tests), grind (arith, nat_tests))

goes_on : (m : Meaning) (c : Call) (m' : Meaning) → Does m c m' → (i k : ℕ) → GoesOn c i k (m k) (m' k)
goes_on m (put k i₀ r) m' v i j h f = grind (arith, nat_tests, put_goes_on k i₀ i r (m k) (m' k))
goes_on m (take k r) m' v i j h f = grind (arith, nat_tests, take_goes_on k i r (m k) (m' k))

-- what does not wait and is not put does not wait
abbrev StaysIdle : Call → ℕ → ℕ → Line → Line → Type 0
StaysIdle c i k l l' = l.left i ≡ 0 → puts k i c ≡ false → l'.left i ≡ 0

put_idle : (k i₀ i : ℕ) (r : Bool) (l l' : Line) → LinePut l i₀ r l' → StaysIdle (put k i₀ r) i k l l'
put_idle k i₀ i true l l' p z f = grind (arith, nat_tests)
put_idle k i₀ i false l l' p z f = grind (arith, nat_tests)

take_idle : (k i : ℕ) (r : Option ℕ) (l l' : Line) → LineTake l r l' → StaysIdle (take k r) i k l l'
take_idle k i None l l' t z f = grind (arith, nat_tests)
take_idle k i (Some j) l l' t z f = grind (arith, nat_tests)

stays_idle : (m : Meaning) (c : Call) (m' : Meaning) → Does m c m' → (i k : ℕ) → StaysIdle c i k (m k) (m' k)
stays_idle m (put k i₀ r) m' v i j z f = grind (arith, nat_tests, put_idle k i₀ i r (m k) (m' k))
stays_idle m (take k r) m' v i j z f = grind (arith, nat_tests, take_idle k i r (m k) (m' k))

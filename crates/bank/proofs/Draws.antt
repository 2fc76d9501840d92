-- Takes until a stream is given: what each take does to the number left to it.
use Rattle.std.proofs.Common.{◌≡◌, ℕ, ◌+◌, ◌≤◌, Option, arith}
use Rattle.bank.specs.Meaning.{Meaning, Waits}
use Rattle.bank.specs.Waiting.{Drawn, GivenBy, Passed, Taken}
use Rattle.bank.specs.Waiting.Passed.{more}

module _ {B : Type 0} (meaning : B → Meaning) (takes : B → ℕ → Option ℕ → B → Type 0) (k i : ℕ) where
  -- after n takes the stream i still waits, or did not wait at all; or the last of them gave it
  pub data Drawing (b : B) (n : ℕ) (b' : B) : Type 0 where
    passed : Passed meaning takes k i b n b' → n + (meaning b' k).left i ≤ (meaning b k).left i → (Waits (meaning b k) i → Waits (meaning b' k) i) → Drawing b n b'
    reached : GivenBy meaning takes k i b n b' → n ≤ (meaning b k).left i → Waits (meaning b k) i → (meaning b' k).left i ≡ 0 → Drawing b n b'

  -- one more take
  pub draws : (b : B) (n : ℕ) (b' : B) (r : Option ℕ) (b'' : B) → Drawing b n b' → Waits (meaning b' k) i → Taken meaning takes b' k r b'' → Drawing b (n + 1) b''
  draws b n b' r b'' d h t = grind (arith, passed, reached, more)

  passed_none : (b : B) (n : ℕ) (b' : B) → Passed meaning takes k i b n b' → n ≡ 0 → b' ≡ b
  passed_none b n b' p e = grind arith

  -- the stream waits no more: it was given by then
  pub drawn : (b : B) (n : ℕ) (b' : B) → Drawing b n b' → (meaning b' k).left i ≡ 0 → Drawn meaning takes k i b n b'
  drawn b n b' d z = grind (arith, passed_none)

  -- what was taken is at most what was left
  pub draws_few : (b : B) (n : ℕ) (b' : B) → Drawing b n b' → n ≤ (meaning b k).left i
  draws_few b n b' d = grind arith

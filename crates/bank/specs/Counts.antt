-- How many streams a master may have.
use Rattle.std.specs.Prelude.{◌≡◌, ℕ, ◌<◌, Bool, cond, ◌&&◌, Some, None, Option, Result, MatchResult, nat_le}
use Rattle.refusal.specs.declared.Refusal.{Refusal}
use Rattle.refusal.specs.declared.Refusal.TheVariants.{SizeTooLarge}
use Rattle.bank.specs.declared.StreamCount.{StreamCount}

-- a number becomes a count exactly if it is at most 8
abbrev pub Counted : ℕ → Option StreamCount → Type 0
Counted n None = 8 < n
Counted n (Some c) = c.count ≡ n

-- and is refused above 8
abbrev pub CountTried : ℕ → Result StreamCount Refusal → Type 0
CountTried n r = MatchResult r (λ c. c.count ≡ n) (λ e. (8 < n) × (e ≡ SizeTooLarge))

-- i is one of 1 to n
abbrev pub among : ℕ → ℕ → Bool
among n i = nat_le 1 i && nat_le i n

-- as many turns as there are streams, for each stream that there is
abbrev pub even_turns : ℕ → ℕ → ℕ
even_turns n i = cond (among n i) n 0

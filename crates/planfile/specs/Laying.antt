-- What a buffer holds after bytes were written to its front: those, and behind them what it held.
use Rattle.std.specs.Prelude.{◌≡◌, ℕ, ◌<◌, ◌≤◌, List, ◌++◌, length, drop, Ok, Err, Result}
use Rattle.refusal.specs.declared.Refusal.{Refusal}
use Rattle.refusal.specs.declared.Refusal.TheVariants.{BufferTooShort}

abbrev pub laid : List ℕ → List ℕ → List ℕ
laid bytes buffer = bytes ++ drop (length bytes) buffer

-- bytes were put in front of a buffer, and n is how many they are
pub record Put (bytes buffer after : List ℕ) (n : ℕ) : Type 0 where
  pub count : n ≡ length bytes
  pub front : after ≡ laid bytes buffer

-- a file was to be written to a buffer: with room it is there, and without nothing changes
pub record Wrote (file buffer after : List ℕ) (r : Result ℕ Refusal) : Type 0 where
  pub fits : length file ≤ length buffer → (r ≡ Ok (length file)) × (after ≡ laid file buffer)
  pub short : length buffer < length file → (r ≡ Err (BufferTooShort (length file))) × (after ≡ buffer)

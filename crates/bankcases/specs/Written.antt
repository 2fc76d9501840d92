-- How a call is written: a letter, and eight numbers of one letter each.
use Rattle.std.specs.Prelude.{ℕ, ◌-◌, cond, ◌&&◌, ◌==◌, nat_le, List, [], ◌∷◌, length, map, Result, Ok, Err, slice_index}
use Rattle.bankcases.specs.declared.call.Call.{Call}
use Rattle.bankcases.specs.declared.call.Call.TheVariants.{Shape, Size, Turns, Waits, Put, Take}
use Rattle.bankcases.specs.declared.call.Unreadable.{Unreadable}
use Rattle.bankcases.specs.declared.call.Unreadable.TheVariants.{CutShort, NoSuchCall}

-- a digit stands for itself, h for 256, i for 2 ^ 32, and any other letter for 2 ^ 64 - 1
abbrev pub number_of_letter : ℕ → ℕ
number_of_letter l =
    cond (nat_le 48 l && nat_le l 57) (l - 48)
    (cond (l == 104) 256 (cond (l == 105) 4294967296 18446744073709551615))

abbrev pub numbers_of : List ℕ → Result (List ℕ) Unreadable
numbers_of ls = cond (length ls == 8) (Ok (map number_of_letter ls)) (Err CutShort)

-- the letters are those of s, n, t, w, p and g
abbrev pub call_of : ℕ → List ℕ → Result Call Unreadable
call_of l ns =
    cond (l == 115) (Ok (Shape ns))
    (cond (l == 110) (Ok (Size (slice_index ns 0)))
    (cond (l == 116) (Ok (Turns (slice_index ns 0) (slice_index ns 1)))
    (cond (l == 119) (Ok (Waits (slice_index ns 0) (slice_index ns 1)))
    (cond (l == 112) (Ok (Put (slice_index ns 0) (slice_index ns 1)))
    (cond (l == 103) (Ok (Take (slice_index ns 0)))
    (Err NoSuchCall))))))

abbrev pub call_written : List ℕ → Result Call Unreadable
call_written [] = Err CutShort
call_written (l ∷ ls) = cond (length ls == 8) (call_of l (map number_of_letter ls)) (Err CutShort)

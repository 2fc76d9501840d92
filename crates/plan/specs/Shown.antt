-- How streams are shown.
use Rattle.std.specs.Prelude.{ℕ, List, ◌++◌, codes, decimal}
use Rattle.plan.specs.Net.{Stream}

abbrev pub stream_text : Stream → List ℕ
stream_text s = codes "cycle " ++ (decimal s.cycle ++ (codes ", deadline " ++ (decimal s.deadline ++ (codes ", generation " ++ (decimal s.generation ++ (codes ", delivery " ++ decimal s.delivery))))))

-- a low stream, of which there is only its cycle
abbrev pub cycle_text : ℕ → List ℕ
cycle_text c = codes "cycle " ++ decimal c

-- The ending of a reading in numbers.
use Rattle.std.specs.Prelude.{ℕ, min}
use Rattle.markup.specs.Reading.{Ending, failed, finish}

-- the fault's number, or 0
abbrev pub ending_number : Ending → ℕ
ending_number finish = 0
ending_number (failed n p) = n

-- the fault's place, or 0
abbrev pub ending_place : Ending → ℕ
ending_place finish = 0
ending_place (failed n p) = p

-- a count in 64 bits
abbrev pub capped : ℕ → ℕ
capped n = min n 18446744073709551615

-- Printed lines, each ended by a line feed.
use Rattle.std.specs.Prelude.{ℕ, List, ◌++◌, codes, decimal}

-- a label and a number
abbrev pub fact_line : List ℕ → ℕ → List ℕ
fact_line label n = label ++ (codes " " ++ (decimal n ++ codes "\n"))

-- the number and the place of a refusal
abbrev pub refusal_line : ℕ → ℕ → List ℕ
refusal_line number place = codes "refused " ++ (decimal number ++ (codes " at " ++ (decimal place ++ codes "\n")))

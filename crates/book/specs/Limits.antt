-- The numbers that the subject fixes.
use Rattle.std.specs.Prelude.{ℕ}

-- tags are 0 to 31
abbrev pub tags : ℕ
tags = 32

-- the greatest width of a book
abbrev pub most_states : ℕ
most_states = 64

-- the most steps of a path book; a path of n steps has 2 ^ n + 2 states
abbrev pub most_steps : ℕ
most_steps = 4

-- the greatest depth of a level shape
abbrev pub most_depth : ℕ
most_depth = 32

-- how many items may be open at once
abbrev pub most_open : ℕ
most_open = 64

-- how many items a scan or a watch takes
abbrev pub most_items : ℕ
most_items = 16777215

-- how many items a scan may hold
abbrev pub most_held : ℕ
most_held = 128

-- how many records a list must have: each held item and one new one may be ordered at one event
abbrev pub least_room : ℕ
least_room = 129

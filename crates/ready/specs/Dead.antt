-- States from which a book can never come to accept: dead ones, within the items where the run stands, and useless ones,
-- wherever it stands.
use Rattle.std.specs.Prelude.{◌≡◌, ℕ, ◌<◌, Bool, true, false, ◌⊎◌, List, [], ◌∷◌}
use Rattle.book.specs.Limits.{tags}
use Rattle.book.specs.Machines.{Machine}
use Rattle.book.specs.Levels.{Possible}
use Rattle.book.specs.Rows.{Reach}

-- Meaning ---------------------------------------------------------------------------------------------------------

-- q is a state of the book, and no row of whole items leads from it to an accepting state
abbrev pub Dead : Machine → ℕ → Type 0
Dead m q = (q < m.width) × ((p : ℕ) → Reach m q p → m.accepts p ≡ false)

-- the open items around a run: their tags, and the states of the book that were set aside for them
abbrev pub Around : Machine → List ℕ → List ℕ → Type 0
Around m [] [] = Unit {0}
Around m [] (s ∷ ss) = ⊥
Around m (t ∷ ts) [] = ⊥
Around m (t ∷ ts) (s ∷ ss) = (t < tags) × (s < m.width) × Around m ts ss

-- a run that stands in q, inside some items, has a way on that is accepted
abbrev pub Useful : Machine → ℕ → Type 0
Useful m q = (ts : List ℕ) × (ss : List ℕ) × Around m ts ss × Possible m true ts ss q

-- q is a state of the book, and a run that stands in it, inside whatever items, has no way on that is accepted
abbrev pub Useless : Machine → ℕ → Type 0
Useless m q = (q < m.width) × (Useful m q → ⊥)

-- How useful states are found ---------------------------------------------------------------------------------------

-- the close of an item whose inner row ends in p leads to a useful state, for some outer state and tag
abbrev pub Closes : Machine → (ℕ → Bool) → ℕ → Type 0
Closes m useful p = (s : ℕ) × (s < m.width) × ((t : ℕ) × (t < tags) × (useful (m.back s p t) ≡ true))

-- a row may end in p: p accepts, or its item's close leads to a useful state
abbrev pub Stops : Machine → (ℕ → Bool) → ℕ → Type 0
Stops m useful p = (m.accepts p ≡ true) ⊎ Closes m useful p

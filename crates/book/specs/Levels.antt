-- What rows of whole items leave sure or possible, level by level, and that this is what the endings decide.
use Rattle.std.specs.Prelude.{◌≡◌, ℕ, Bool, ◌↔◌, List, [], ◌∷◌}
use Rattle.book.specs.declared.event.Event.{Event}
use Rattle.book.specs.Catalogue.{nest, within}
use Rattle.book.specs.Machines.{Machine, Selecting, Stand, last, others, run, plainly, marking, accepted, selected}
use Rattle.book.specs.Rows.{Reach}
use Rattle.book.specs.Orders.{Every, Some, Opened}

-- Definitions -----------------------------------------------------------------------------------------------------

-- A run stands in state q, inside open items with the tags ts, the innermost first, and has set aside the states ss.
-- Before the innermost item closes, any row of whole items may still come inside it; and so on outwards.

-- every way on ends with the answer b
abbrev pub Sure : Machine → Bool → List ℕ → List ℕ → ℕ → Type 0
Sure m b [] ss q = (p : ℕ) → Reach m q p → m.accepts p ≡ b
Sure m b (t ∷ ts) ss q = (p : ℕ) → Reach m q p → Sure m b ts (others ss) (m.back (last ss) p t)

-- some way on ends with the answer b
abbrev pub Possible : Machine → Bool → List ℕ → List ℕ → ℕ → Type 0
Possible m b [] ss q = (p : ℕ) × Reach m q p × (m.accepts p ≡ b)
Possible m b (t ∷ ts) ss q = (p : ℕ) × Reach m q p × Possible m b ts (others ss) (m.back (last ss) p t)

-- Statements ------------------------------------------------------------------------------------------------------

-- the levels of a run that stands at c say what every ending, and what some ending, answers to a question
abbrev pub LevelsTell : Machine → List ℕ → Stand → (List Event → Bool) → List Event → Type 0
LevelsTell m ts c question h = (b : Bool) →
    (Sure m b ts c.aside c.state ↔ Every question b h)
    × (Possible m b ts c.aside c.state ↔ Some question b h)

-- for an opened item and the run in which it alone is entered by mark: is it selected?
abbrev pub LevelsDecideSelected : Type 0
LevelsDecideSelected = (m : Selecting) (h : List Event) (i : ℕ) (ts : List ℕ) → nest h ≡ within ts → Opened h i →
    LevelsTell m.shape ts (run m.shape (marking m i) h) (selected m i) h

-- for the plain run: is the catalogue accepted?
abbrev pub LevelsDecideAccepted : Type 0
LevelsDecideAccepted = (m : Machine) (h : List Event) (ts : List ℕ) → nest h ≡ within ts →
    LevelsTell m ts (run m (plainly m) h) (accepted m) h

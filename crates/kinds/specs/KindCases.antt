-- Worked cases of the kinds of book and their layers.
use Rattle.std.specs.Prelude.{◌≡◌, ℕ, ◌*◌, ◌<◌, ◌≤◌, true, List, [], ◌∷◌, map}
use Rattle.book.specs.Limits.{most_states}
use Rattle.book.specs.declared.event.Event.{Event}
use Rattle.kinds.specs.declared.path.PathStep.{PathStep}
use Rattle.book.specs.Catalogue.{opened}
use Rattle.book.specs.Machines.{Machine, Marks, Lawful, LawfulMarks, Selecting, selecting, selected}
use Rattle.kinds.specs.Path.{step_of, path_machine, path_marks}
use Rattle.kinds.specs.Opposite.{opposite}
use Rattle.kinds.specs.Both.{both, both_marks}

-- child any, descendant tag 1
abbrev pub below_the_top : List PathStep
below_the_top = map step_of (record { axis = 0; tag = 255 } ∷ record { axis = 1; tag = 1 } ∷ [])

-- opposite over both over the opposite of a book and the book itself
abbrev pub either_way : Machine → Marks → Selecting
either_way m k = selecting (opposite (both (opposite m) m)) (both_marks (opposite m) m k k)

pub record KindCases : Type 0 where
  -- inside the top item: one step is matched
  pub entered : (path_machine below_the_top).enter 1 7 ≡ 2
  -- a top item is no descendant of one: miss
  pub missed : path_marks below_the_top 1 1 ≡ 4
  pub hits : path_marks below_the_top 2 1 ≡ 5
  -- the widths of two books, at the limit and past it
  pub fits : (m n : Machine) → m.width ≡ 8 → n.width ≡ 8 → (both m n).width ≡ 64
  pub too_wide : (m n : Machine) → m.width ≡ 18 → n.width ≡ 4 → (both m n).width ≡ 0
  -- each opened item is selected or left out
  pub nested : (m : Machine) (k : Marks) → Lawful m → LawfulMarks m k → 0 < m.width → m.width * m.width ≤ most_states
      → (c : List Event) (i : ℕ) → 1 ≤ i → i ≤ opened c → selected (either_way m k) i c ≡ true

-- What a book means: its answers, their rules of range, and the runs that they give.
use Rattle.std.specs.Prelude.{◌≡◌, ℕ, suc, ◌-◌, ◌≤◌, Bool, false, cond, ◌&&◌, ◌⊎◌, List, [], ◌∷◌, ◌==◌, nat_le}
use Rattle.book.specs.Limits.{tags, most_states}
use Rattle.book.specs.declared.event.Event.{Event}
use Rattle.book.specs.declared.event.Event.TheVariants.{Open, Close, End}
use Rattle.book.specs.Catalogue.{follow, opened}

-- Answers ---------------------------------------------------------------------------------------------------------

-- all answers of a shape book together
pub record Machine : Type 0 where
  pub width : ℕ
  pub start : ℕ
  -- state, tag
  pub enter : ℕ → ℕ → ℕ
  -- outer state, inner state, tag
  pub back : ℕ → ℕ → ℕ → ℕ
  pub accepts : ℕ → Bool

-- all answers to mark: state, tag
abbrev pub Marks : Type 0
Marks = ℕ → ℕ → ℕ

-- all answers of a selecting book together
pub record Selecting : Type 0 where
  pub shape : Machine
  pub mark : Marks

abbrev pub selecting : Machine → Marks → Selecting
selecting m k = record { shape = m; mark = k }

-- Rules of range --------------------------------------------------------------------------------------------------

-- At most 64 states. Each state answered is below the width, or 0 where the width is 0 (w - 1 stops at 0).
-- A question with a state not below the width, or a tag above 31, gets 0, or no.
pub record Lawful (m : Machine) : Type 0 where
  pub narrow : m.width ≤ most_states
  pub starts : m.start ≤ m.width - 1
  pub enters : (s t : ℕ) → m.enter s t ≤ m.width - 1
  pub backs : (s q t : ℕ) → m.back s q t ≤ m.width - 1
  pub no_enter : (s t : ℕ) → (m.width ≤ s) ⊎ (tags ≤ t) → m.enter s t ≡ 0
  pub no_back : (s q t : ℕ) → (m.width ≤ s) ⊎ ((m.width ≤ q) ⊎ (tags ≤ t)) → m.back s q t ≡ 0
  pub no_accept : (s : ℕ) → m.width ≤ s → m.accepts s ≡ false

pub record LawfulMarks (m : Machine) (k : Marks) : Type 0 where
  pub marks : (s t : ℕ) → k s t ≤ m.width - 1
  pub no_mark : (s t : ℕ) → (m.width ≤ s) ⊎ (tags ≤ t) → k s t ≡ 0

-- Runs ------------------------------------------------------------------------------------------------------------

-- how the item of a number is entered, from a state and with a tag
abbrev pub Entering : Type 0
Entering = ℕ → ℕ → ℕ → ℕ

abbrev pub plainly : Machine → Entering
plainly m k s t = m.enter s t

-- item i alone is entered by mark
abbrev pub marking : Selecting → ℕ → Entering
marking m i k s t = cond (k == i) (m.mark s t) (m.shape.enter s t)

-- where a run stands: its state, the states set aside, the last first, and how many items it has entered
pub record Stand : Type 0 where
  pub state : ℕ
  pub aside : List ℕ
  pub items : ℕ

abbrev pub stand : ℕ → List ℕ → ℕ → Stand
stand q ss n = record { state = q; aside = ss; items = n }

-- the state set aside last, and the others (events that nest never ask for the 0)
abbrev pub last : List ℕ → ℕ
last [] = 0
last (s ∷ ss) = s

abbrev pub others : List ℕ → List ℕ
others [] = []
others (s ∷ ss) = ss

abbrev pub step : Machine → Entering → Stand → Event → Stand
step m f c (Open t) = stand (f (suc c.items) c.state t) (c.state ∷ c.aside) (suc c.items)
step m f c (Close t) = stand (m.back (last c.aside) c.state t) (others c.aside) c.items
step m f c End = c

abbrev pub run : Machine → Entering → List Event → Stand
run m f h = follow (step m f) (stand m.start [] 0) h

-- Accepted and selected -------------------------------------------------------------------------------------------

-- the plain run ends in an accepting state
abbrev pub accepted : Machine → List Event → Bool
accepted m c = m.accepts (run m (plainly m) c).state

-- item i is one of the catalogue's, and the run in which it alone is entered by mark ends in an accepting state
abbrev pub selected : Selecting → ℕ → List Event → Bool
selected m i c = nat_le 1 i && nat_le i (opened c) && m.shape.accepts (run m.shape (marking m i) c).state

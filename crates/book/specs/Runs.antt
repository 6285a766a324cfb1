-- What is proved of runs: what each event does to them, that one item alone is entered by mark, and what is selected.
use Rattle.std.specs.Prelude.{◌≡◌, ℕ, suc, ◌<◌, ◌≤◌, true, ◌↔◌, List, [], ◌∷◌, ◌++◌, length}
use Rattle.book.specs.declared.event.Event.{Event}
use Rattle.book.specs.declared.event.Event.TheVariants.{Open, Close, End}
use Rattle.book.specs.Catalogue.{within, nest, opened}
use Rattle.book.specs.Machines.{Machine, Selecting, Entering, Stand, stand, run, plainly, marking, selected}
use Rattle.book.specs.Orders.{Opened}

-- a run begins in the start state
abbrev pub RunBegins : Type 0
RunBegins = (m : Machine) (f : Entering) → run m f [] ≡ stand m.start [] 0

-- At an open the state is set aside. At a close the state set aside and the inner state give the next one. The end
-- changes nothing.
abbrev pub RunGoesOn : Type 0
RunGoesOn = (m : Machine) (f : Entering) (h : List Event) (t : ℕ) →
    let c : Stand = run m f h in
    (run m f (h ++ (Open t ∷ [])) ≡ stand (f (suc (opened h)) c.state t) (c.state ∷ c.aside) (suc (opened h)))
    × ((s : ℕ) (ss : List ℕ) → c.aside ≡ s ∷ ss → run m f (h ++ (Close t ∷ [])) ≡ stand (m.back s c.state t) ss (opened h))
    × (run m f (h ++ (End ∷ [])) ≡ c)

-- one state is set aside for each open item
abbrev pub OneAsideForEach : Type 0
OneAsideForEach = (m : Machine) (f : Entering) (h : List Event) (ts : List ℕ) → nest h ≡ within ts → length (run m f h).aside ≡ length ts

-- The run of item i is the plain run until item i opens; that open enters by mark, and each later one by enter.
abbrev pub OneItemMarked : Type 0
OneItemMarked = (m : Selecting) (h : List Event) (i t : ℕ) →
    let plain : Stand = run m.shape (plainly m.shape) h in
    let own : Stand = run m.shape (marking m i) h in
    (opened h < i → own ≡ plain)
    × (suc (opened h) ≡ i → run m.shape (marking m i) (h ++ (Open t ∷ [])) ≡ stand (m.mark plain.state t) (plain.state ∷ plain.aside) i)
    × (i ≤ opened h → run m.shape (marking m i) (h ++ (Open t ∷ [])) ≡ stand (m.shape.enter own.state t) (own.state ∷ own.aside) (suc (opened h)))

-- an item is selected just if it is opened and its run ends in an accepting state
abbrev pub SelectedByOwnRun : Type 0
SelectedByOwnRun = (m : Selecting) (i : ℕ) (c : List Event) →
    (selected m i c ≡ true) ↔ (Opened c i × (m.shape.accepts (run m.shape (marking m i) c).state ≡ true))

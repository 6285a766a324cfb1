-- What is proved of due, dropped and held items, of right rules and of right orders.
use Rattle.std.specs.Prelude.{◌≡◌, ℕ, Bool, true, false, ◌⊎◌, ◌↔◌, List, [], ◌∷◌, ◌++◌}
use Rattle.book.specs.declared.event.Event.{Event}
use Rattle.book.specs.Catalogue.{nest, over, Catalogue, Sound, Ending}
use Rattle.book.specs.Machines.{Selecting, Lawful, LawfulMarks, selected}
use Rattle.book.specs.Orders.{Some, Opened, Due, Dropped, Held, Rule, Right}
use Rattle.book.specs.Tables.{Fits}

-- Due, dropped, held ----------------------------------------------------------------------------------------------

-- events break no rule just if they have an ending
abbrev pub AlwaysEnding : Type 0
AlwaysEnding = (h : List Event) → Sound h ↔ ((e : List Event) × Ending h e)

-- no item is two of due, dropped and held
abbrev pub NotTwo : Selecting → List Event → ℕ → Type 0
NotTwo m h i = (Due m h i → Dropped m h i → ⊥) × (Due m h i → Held m h i → ⊥) × (Dropped m h i → Held m h i → ⊥)

abbrev pub OneOfThree : Selecting → List Event → ℕ → Type 0
OneOfThree m h i = Due m h i ⊎ (Dropped m h i ⊎ Held m h i)

-- And an opened item is one of them where the questions behind them have an answer, which they have wherever a table fits.
abbrev pub ItemsAreOneOfThree : Type 0
ItemsAreOneOfThree =
    ((m : Selecting) (h : List Event) (i : ℕ) → Sound h → NotTwo m h i)
    × ((m : Selecting) (h : List Event) (i : ℕ) → Opened h i →
    Dec (Some (selected m i) true h) → Dec (Some (selected m i) false h) → OneOfThree m h i)
    × ((m : Selecting) (reach : ℕ → ℕ → Bool) → Lawful m.shape → LawfulMarks m.shape m.mark → Fits m.shape reach →
    (h : List Event) (i : ℕ) → Sound h → Opened h i → OneOfThree m h i)

-- only an opened item is due; what is due stays due, and what is dropped stays dropped
abbrev pub DecisionsLast : Type 0
DecisionsLast = (m : Selecting) (h d : List Event) (i : ℕ) → Sound h →
    (Due m h i → Opened h i × Due m (h ++ d) i) × (Dropped m h i → Dropped m (h ++ d) i)

-- after the end the catalogue is whole: what it selects is due, what it leaves out is dropped, nothing is held
abbrev pub EndDecides : Type 0
EndDecides = (m : Selecting) (h : List Event) (i : ℕ) → nest h ≡ over →
    (Due m h i ↔ (selected m i h ≡ true)) × (Dropped m h i ↔ (Opened h i × (selected m i h ≡ false))) × (Held m h i → ⊥)

-- Right rules -----------------------------------------------------------------------------------------------------

-- a rule is right just if it orders nothing that is not due then
abbrev pub RightIfDue : Type 0
RightIfDue = (m : Selecting) (rule : Rule) →
    Right m rule ↔ ((p : List Event) (x : Event) (i : ℕ) → rule p x i ≡ true → Due m (p ++ (x ∷ [])) i)

-- what a right rule ordered at any event so far was opened and due at that event, and is due now
abbrev pub RightRuleOrdersDue : Type 0
RightRuleOrdersDue = (m : Selecting) (rule : Rule) → Right m rule →
    (p : List Event) (x : Event) (d : List Event) (i : ℕ) → Sound (p ++ (x ∷ d)) → rule p x i ≡ true →
    Opened (p ++ (x ∷ [])) i × Due m (p ++ (x ∷ [])) i × Due m (p ++ (x ∷ d)) i

-- Right orders, whoever gives them --------------------------------------------------------------------------------

-- c is a catalogue that the events h begin
abbrev pub Begins : List Event → List Event → Type 0
Begins h c = Catalogue c × ((e : List Event) × (c ≡ h ++ e))

-- an order of item i after the events h is right: each catalogue that they begin selects it
abbrev pub OrderRight : Selecting → List Event → ℕ → Type 0
OrderRight m h i = (c : List Event) → Begins h c → selected m i c ≡ true

abbrev pub OrderRightIfDue : Type 0
OrderRightIfDue = (m : Selecting) (h : List Event) (i : ℕ) → OrderRight m h i ↔ Due m h i

-- some catalogue that the events begin leaves item i out
abbrev pub LeftOut : Selecting → List Event → ℕ → Type 0
LeftOut m h i = (c : List Event) × Begins h c × (selected m i c ≡ false)

-- An order of an item that is not due is wrong in some catalogue that the events begin: it can't be that there is
-- none; there is one for an item that is not opened; and for any item wherever a table fits.
abbrev pub TooEarlyIsWrong : Type 0
TooEarlyIsWrong =
    ((m : Selecting) (h : List Event) (i : ℕ) → (Due m h i → ⊥) → (LeftOut m h i → ⊥) → ⊥)
    × ((m : Selecting) (h : List Event) (i : ℕ) → Sound h → (Opened h i → ⊥) → LeftOut m h i)
    × ((m : Selecting) (reach : ℕ → ℕ → Bool) → Lawful m.shape → LawfulMarks m.shape m.mark → Fits m.shape reach →
    (h : List Event) (i : ℕ) → Sound h → (Due m h i → ⊥) → LeftOut m h i)

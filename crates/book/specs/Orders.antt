-- What the events so far decide, and who may order what.
use Rattle.std.specs.Prelude.{◌≡◌, ℕ, ◌≤◌, Bool, true, false, List, ◌∷◌, ◌++◌}
use Rattle.book.specs.declared.event.Event.{Event}
use Rattle.book.specs.Catalogue.{Catalogue, Ending, opened}
use Rattle.book.specs.Machines.{Selecting, selected}

-- a question about catalogues gets the answer b: in every catalogue that h begins, or in some
abbrev pub Every : (List Event → Bool) → Bool → List Event → Type 0
Every p b h = (e : List Event) → Ending h e → p (h ++ e) ≡ b

abbrev pub Some : (List Event → Bool) → Bool → List Event → Type 0
Some p b h = (e : List Event) × Ending h e × (p (h ++ e) ≡ b)

abbrev pub Opened : List Event → ℕ → Type 0
Opened h i = (1 ≤ i) × (i ≤ opened h)

-- every ending selects item i; none does; some does and another leaves it out
abbrev pub Due : Selecting → List Event → ℕ → Type 0
Due m h i = Every (selected m i) true h

abbrev pub Dropped : Selecting → List Event → ℕ → Type 0
Dropped m h i = Opened h i × Every (selected m i) false h

abbrev pub Held : Selecting → List Event → ℕ → Type 0
Held m h i = Opened h i × Some (selected m i) true h × Some (selected m i) false h

-- Any rule that orders items by the events so far alone: does it order item i at the event x, after the events p?
abbrev pub Rule : Type 0
Rule = List Event → Event → ℕ → Bool

-- A rule is right if in every catalogue each item that it orders at any event is selected.
abbrev pub Right : Selecting → Rule → Type 0
Right m rule = (p : List Event) (x : Event) (e : List Event) (i : ℕ) → Catalogue (p ++ (x ∷ e)) → rule p x i ≡ true → selected m i (p ++ (x ∷ e)) ≡ true

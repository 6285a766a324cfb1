-- The levels by computation, from a table of which states rows of whole items lead to.
use Rattle.std.specs.Prelude.{◌≡◌, ℕ, zero, suc, ◌<◌, Bool, true, false, cond, not, ◌&&◌, ◌||◌, ◌↔◌, List, [], ◌∷◌}
use Rattle.book.specs.declared.event.Event.{Event}
use Rattle.book.specs.Catalogue.{nest, within}
use Rattle.book.specs.Machines.{Machine, Selecting, Lawful, LawfulMarks, Stand, last, others, run, plainly, marking, accepted}
use Rattle.book.specs.Rows.{Reach}
use Rattle.book.specs.Orders.{Every, Some, Opened, Due, Dropped, Held}

-- Definitions -----------------------------------------------------------------------------------------------------

-- the table has just the pairs of states that a row of whole items connects
abbrev pub Fits : Machine → (ℕ → ℕ → Bool) → Type 0
Fits m reach = (q p : ℕ) → q < m.width → p < m.width → (reach q p ≡ true) ↔ Reach m q p

abbrev pub some_below : ℕ → (ℕ → Bool) → Bool
some_below zero test = false
some_below (suc n) test = test n || some_below n test

-- does some way on from state q, inside items with the tags ts and with the states ss set aside, end with the answer b?
abbrev pub possible : (ℕ → ℕ → Bool) → Machine → Bool → List ℕ → List ℕ → ℕ → Bool
possible reach m b [] ss q = some_below m.width (λ p. reach q p && cond b (m.accepts p) (not (m.accepts p)))
possible reach m b (t ∷ ts) ss q = some_below m.width (λ p. reach q p && possible reach m b ts (others ss) (m.back (last ss) p t))

-- the same, for a run that stands at c
abbrev pub may_end : (ℕ → ℕ → Bool) → Machine → List ℕ → Stand → Bool → Bool
may_end reach m ts c b = possible reach m b ts c.aside c.state

-- what two tests say of a question about catalogues: can the answer be yes, and can it be no?
abbrev pub TwoTests : (List Event → Bool) → List Event → Bool → Bool → Type 0
TwoTests question h true true = Some question true h × Some question false h
TwoTests question h true false = Every question true h
TwoTests question h false true = Every question false h
TwoTests question h false false = ⊥

-- what two tests say of an opened item: can it be selected, and can it be left out?
abbrev pub Decided : Selecting → List Event → ℕ → Bool → Bool → Type 0
Decided m h i true true = Held m h i
Decided m h i true false = Due m h i
Decided m h i false true = Dropped m h i
Decided m h i false false = ⊥

-- Statements ------------------------------------------------------------------------------------------------------

-- with a table that fits, two tests decide whether an opened item is due, dropped or held
abbrev pub TablesDecideItem : Type 0
TablesDecideItem = (m : Selecting) (reach : ℕ → ℕ → Bool) →
    Lawful m.shape → LawfulMarks m.shape m.mark → 0 < m.shape.width → Fits m.shape reach →
    (h : List Event) (i : ℕ) (ts : List ℕ) → nest h ≡ within ts → Opened h i →
    let can : Bool → Bool = may_end reach m.shape ts (run m.shape (marking m i) h) in
    Decided m h i (can true) (can false)

-- and whether every, none or some of the catalogues that the events begin are accepted
abbrev pub TablesDecideAcceptance : Type 0
TablesDecideAcceptance = (m : Machine) (reach : ℕ → ℕ → Bool) → Lawful m → 0 < m.width → Fits m reach →
    (h : List Event) (ts : List ℕ) → nest h ≡ within ts →
    let can : Bool → Bool = may_end reach m ts (run m (plainly m) h) in
    TwoTests (accepted m) h (can true) (can false)

-- The events so far: which events a list of calls brings, from the book's meaning, the calls and their lists' lengths.
use Rattle.std.specs.Prelude.{◌≡◌, ℕ, Bool, ◌⊎◌, List, [], ◌∷◌, ◌++◌}
use Rattle.book.specs.declared.event.Event.{Event}
use Rattle.book.specs.declared.answer.Refusal.{Refusal}
use Rattle.book.specs.Catalogue.{Sound}
use Rattle.book.specs.Machines.{Machine, Selecting, Lawful, LawfulMarks}
use Rattle.book.specs.Tables.{Fits}
use Rattle.book.specs.Checks.{Accepts, Refuses, WatchAccepts, WatchRefuses}

-- Definitions -----------------------------------------------------------------------------------------------------

-- after the events h, the calls bring these events: an accepted call adds its event, a refused one adds nothing
abbrev pub Bring : {C : Type 0} → (C → Event) → (List Event → C → Type 0) → (List Event → C → Refusal → Type 0) → List Event → List C → List Event → Type 0
Bring event accepts refuses h [] all = all ≡ h
Bring event accepts refuses h (c ∷ cs) all =
    (accepts h c × Bring event accepts refuses (h ++ (event c ∷ [])) cs all)
    ⊎ (((r : Refusal) × refuses h c r) × Bring event accepts refuses h cs all)

-- a call of a scan: its event, and how many records the list has that is lent to it
pub record Call : Type 0 where
  pub event : Event
  pub room : ℕ

abbrev pub event_of : Call → Event
event_of c = c.event

-- the events so far after these calls of a scan, since it began
abbrev pub EventsSoFar : Selecting → List Call → List Event → Type 0
EventsSoFar m calls h = Bring event_of (λ g c. Accepts m g c.room c.event) (λ g c r. Refuses m g c.room c.event r) [] calls h

-- a call of a watch is its event
abbrev pub itself : Event → Event
itself e = e

abbrev pub WatchedSoFar : Machine → List Event → List Event → Type 0
WatchedSoFar m calls h = Bring itself (WatchAccepts m) (WatchRefuses m) [] calls h

-- Statements ------------------------------------------------------------------------------------------------------

-- calls bring one list of events at most
abbrev pub OneHistory : Type 0
OneHistory =
    ((m : Selecting) (calls : List Call) (h g : List Event) → EventsSoFar m calls h → EventsSoFar m calls g → h ≡ g)
    × ((m : Machine) (calls : List Event) (h g : List Event) → WatchedSoFar m calls h → WatchedSoFar m calls g → h ≡ g)

-- and those break no rule of the catalogue
abbrev pub HistoryIsSound : Type 0
HistoryIsSound =
    ((m : Selecting) (calls : List Call) (h : List Event) → EventsSoFar m calls h → Sound h)
    × ((m : Machine) (calls : List Event) (h : List Event) → WatchedSoFar m calls h → Sound h)

-- any calls bring some list of events: those of a scan where a table fits, those of a watch always
abbrev pub SomeHistory : Type 0
SomeHistory =
    ((m : Selecting) (reach : ℕ → ℕ → Bool) → Lawful m.shape → LawfulMarks m.shape m.mark → Fits m.shape reach →
    (calls : List Call) → (h : List Event) × EventsSoFar m calls h)
    × ((m : Machine) (calls : List Event) → (h : List Event) × WatchedSoFar m calls h)

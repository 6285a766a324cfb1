-- A scan over lists: the base run, and one run for each held item.
use Rattle.std.specs.Prelude.{ℕ, suc, ◌+◌, ◌-◌, Bool, true, false, not, ◌&&◌, List, [], ◌∷◌, ◌++◌, map, length, drop, Ok, Err, filter, Result, nat_lt}
use Rattle.book.specs.declared.event.Event.{Event}
use Rattle.book.specs.declared.event.Event.TheVariants.{Open, Close, End}
use Rattle.book.specs.declared.answer.Order.{Order}
use Rattle.book.specs.declared.answer.Totals.{Totals}
use Rattle.book.specs.declared.answer.Refusal.{Refusal}
use Rattle.book.specs.declared.answer.Refusal.TheVariants.{NoStates, Ended, ShortList, BadTag, TooDeep, TooMany, HoldFull, NoneOpen, OtherTag, StillOpen}
use Rattle.book.specs.Limits.{most_held, least_room}
use Rattle.book.specs.Catalogue.{Nest, within, after, count}
use Rattle.book.specs.Machines.{Machine, Selecting}
use Rattle.book.specs.Checks.{scan_lines}
use Rattle.scan.specs.Tracks.{Track, first, marked, moved, may}
use Rattle.scan.specs.Tests.{on_open, shared_test, checked}

-- an item that is neither ordered nor dropped: its number, the event that opened it, its run
pub record Holding : Type 0 where
  pub item : ℕ
  pub since : ℕ
  pub track : Track

-- where the events stand, how many they are, how many items were opened and ordered, the base run, and the held items
pub record Model : Type 0 where
  pub place : Nest
  pub events : ℕ
  pub opened : ℕ
  pub ordered : ℕ
  pub base : Track
  pub held : List Holding

-- before any event
abbrev pub begun : (ℕ → ℕ → Bool) → Machine → Model
begun reach m = record { place = within []; events = 0; opened = 0; ordered = 0; base = first reach m; held = [] }

-- One event -------------------------------------------------------------------------------------------------------

-- a held item after the event e
abbrev pub onward : (ℕ → ℕ → Bool) → Machine → Event → Holding → Holding
onward reach m e x = record { item = x.item; since = x.since; track = moved reach m e x.track }

-- the item that the event opens
abbrev pub fresh : (ℕ → ℕ → Bool) → Selecting → Model → Event → List Holding
fresh reach m s (Open t) = record { item = suc s.opened; since = suc s.events; track = marked reach m t s.base } ∷ []
fresh reach m s (Close t) = []
fresh reach m s End = []

-- the items to judge at the event
abbrev pub pending : (ℕ → ℕ → Bool) → Selecting → Model → Event → List Holding
pending reach m s e = map (onward reach m.shape e) s.held ++ fresh reach m s e

-- it cannot be left out; it can be selected, and can be left out
abbrev pub is_due : Machine → Event → Holding → Bool
is_due m e x = not (may m e false x.track)

abbrev pub is_held : Machine → Event → Holding → Bool
is_held m e x = may m e true x.track && may m e false x.track

abbrev pub due_at : (ℕ → ℕ → Bool) → Selecting → Model → Event → List Holding
due_at reach m s e = filter (is_due m.shape e) (pending reach m s e)

abbrev pub held_at : (ℕ → ℕ → Bool) → Selecting → Model → Event → List Holding
held_at reach m s e = filter (is_held m.shape e) (pending reach m s e)

abbrev pub next : (ℕ → ℕ → Bool) → Selecting → Model → Event → Model
next reach m s e = record {
  place = after s.place e;
  events = suc s.events;
  opened = count s.opened e;
  ordered = s.ordered + length (due_at reach m s e);
  base = moved reach m.shape e s.base;
  held = held_at reach m s e;
}

-- Calls -----------------------------------------------------------------------------------------------------------

-- the table of checks, for a call that is lent a list of room records
abbrev pub test : (ℕ → ℕ → Bool) → Selecting → Model → ℕ → Event → Refusal → Bool
test reach m s room e NoStates = shared_test m.shape.width s.place s.opened e NoStates
test reach m s room e Ended = shared_test m.shape.width s.place s.opened e Ended
test reach m s room e ShortList = nat_lt room least_room
test reach m s room e BadTag = shared_test m.shape.width s.place s.opened e BadTag
test reach m s room e TooDeep = shared_test m.shape.width s.place s.opened e TooDeep
test reach m s room e TooMany = shared_test m.shape.width s.place s.opened e TooMany
test reach m s room e HoldFull = on_open (λ t. nat_lt most_held (length (held_at reach m s e))) e
test reach m s room e NoneOpen = shared_test m.shape.width s.place s.opened e NoneOpen
test reach m s room e OtherTag = shared_test m.shape.width s.place s.opened e OtherTag
test reach m s room e StillOpen = shared_test m.shape.width s.place s.opened e StillOpen

-- n orders, and the totals; what is neither ordered nor held is dropped
abbrev pub totals : ℕ → Model → Totals
totals n s = record { orders = n; opened = s.opened; ordered = s.ordered; dropped = s.opened - (s.ordered + length s.held); held = length s.held }

abbrev pub answer : (ℕ → ℕ → Bool) → Selecting → Model → ℕ → Event → Result Totals Refusal
answer reach m s room e = checked (test reach m s room e) scan_lines (totals (length (due_at reach m s e)) (next reach m s e))

-- the record of an order at an event
abbrev pub note : ℕ → Holding → Order
note event x = record { item = x.item; opened = x.since; ordered = event }

-- the list after a call with this answer, and the model after it
abbrev pub list_after : (ℕ → ℕ → Bool) → Selecting → Model → Event → List Order → Result Totals Refusal → List Order
list_after reach m s e before (Ok a) = map (note (suc s.events)) (due_at reach m s e) ++ drop a.orders before
list_after reach m s e before (Err r) = before

abbrev pub model_after : (ℕ → ℕ → Bool) → Selecting → Model → Event → Result Totals Refusal → Model
model_after reach m s e (Ok a) = next reach m s e
model_after reach m s e (Err r) = s

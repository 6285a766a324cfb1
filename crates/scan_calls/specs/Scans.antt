-- A scan as the scan over lists that it stands for, and what its calls owe.
use Rattle.std.specs.Prelude.{◌≡◌, ℕ, zero, suc, ◌+◌, ◌-◌, Bool, cond, List, [], ◌∷◌, length, Err, Result, slice_index}
use Rattle.book.specs.declared.event.Event.{Event}
use Rattle.book.specs.declared.answer.Order.{Order}
use Rattle.book.specs.declared.answer.Totals.{Totals}
use Rattle.book.specs.declared.answer.Refusal.{Refusal}
use Rattle.book.specs.declared.answer.Refusal.TheVariants.{NoStates, Ended, ShortList}
use Rattle.book.specs.Catalogue.{Nest, within, over}
use Rattle.book.specs.Machines.{Selecting, selecting}
use Rattle.book.specs.Promise.{exchange, with_orders, Keeps}
use Rattle.book.specs.PromiseLaws.{with_event}
use Rattle.levels.specs.Sets.{reach_of}
use Rattle.scan.specs.Model.{Model, answer as answered, list_after, model_after}
use Rattle.scan.specs.Standing.{Stands}
use Rattle.scan_calls.specs.declared.scanning.Scan.{Scan}
use Rattle.scan_calls.specs.Rows.{base_of, held_of}

-- the tags of the open items, the innermost first
abbrev pub stack : List ℕ → ℕ → List ℕ
stack tags zero = []
stack tags (suc d) = slice_index tags d ∷ stack tags d

abbrev pub place_of : Bool → List ℕ → Nest
place_of ended ts = cond ended over (within ts)

abbrev pub model_of : {B : Type 0} {selects : _} {book : _} → Scan B selects book → Model
model_of s = record {
  place = place_of s.ended (stack s.tags s.rows.depth);
  events = s.events;
  opened = s.opened;
  ordered = s.ordered;
  base = base_of s.rows;
  held = held_of s.rows;
}

-- the pairs of states in its table, and the meaning of its book
abbrev pub table_of : {B : Type 0} {selects : _} {book : _} → Scan B selects book → ℕ → ℕ → Bool
table_of s = reach_of s.ready

abbrev pub meaning_of : {B : Type 0} {selects : _} {book : _} → Scan B selects book → Selecting
meaning_of {selects = selects} {book = book} s = selecting (book.machine s.ready.book) (selects.marks s.ready.book)

-- the totals, after a call that gave so many orders
abbrev pub totals_of : {B : Type 0} {selects : _} {book : _} → ℕ → Scan B selects book → Totals
totals_of sent s = record { orders = sent; opened = s.opened; ordered = s.ordered; dropped = s.opened - (s.ordered + (s.rows.count - 1)); held = s.rows.count - 1 }

-- The scan s' is s with one event more, which has this number and gave so many orders; its rows were already behind it.
pub record Counted {B : Type 0} {selects : _} {book : _} (event sent : ℕ) (s s' : Scan B selects book) : Type 0 where
  pub ready : s'.ready ≡ s.ready
  pub rows : s'.rows ≡ s.rows
  pub model : model_of s' ≡ record (model_of s) { events = event; ordered = s.ordered + sent }

-- the lines of the checks that each call has
abbrev pub first_lines : List Refusal
first_lines = NoStates ∷ Ended ∷ ShortList ∷ []

-- What a call owes ------------------------------------------------------------------------------------------------

-- The call e of the scan s is lent the list before, and answers a; then the list is later and the scan s'.
pub record Stepped {B : Type 0} {selects : _} {book : _} (e : Event) (s s' : Scan B selects book) (before later : List Order) (a : Result Totals Refusal) : Type 0 where
  -- the ready book is the same
  pub same : s'.ready ≡ s.ready
  -- answer, list and scan are those of the scan over lists
  pub answer : a ≡ answered (table_of s) (meaning_of s) (model_of s) (length before) e
  pub list : later ≡ list_after (table_of s) (meaning_of s) (model_of s) e before a
  pub model : model_of s' ≡ model_after (table_of s) (meaning_of s) (model_of s) e a
  -- a refused call leaves the scan as it was
  pub unchanged : (r : Refusal) → a ≡ Err r → s' ≡ s

-- For whatever events so far, and orders given, the scan s stands before the call: the call keeps the promise, and the
-- scan, then s', stands for the events and orders with the call's own.
abbrev pub Kept : {B : Type 0} {selects : _} {book : _} → Event → Scan B selects book → Scan B selects book → List Order → List Order → Result Totals Refusal → Type 0
Kept e s s' before later a = (h : List Event) (given : List Order) → Stands (table_of s) (meaning_of s) (model_of s) h given →
    Keeps (meaning_of s) h given (exchange e before a later) × Stands (table_of s) (meaning_of s) (model_of s') (with_event h e a) (with_orders given a later)

-- Such a call gives each order at the first event at which every ending selects its item.
pub record Called {B : Type 0} {selects : _} {book : _} (e : Event) (s s' : Scan B selects book) (before later : List Order) (a : Result Totals Refusal) : Type 0 where
  pub stepped : Stepped e s s' before later a
  pub kept : Kept e s s' before later a

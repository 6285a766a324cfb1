-- When a scan over lists stands for the events so far and the orders given, and what its step owes.
use Rattle.std.specs.Prelude.{◌≡◌, ℕ, Bool, List, [], map, length, Result}
use Rattle.std.specs.List.{All}
use Rattle.book.specs.declared.event.Event.{Event}
use Rattle.book.specs.declared.answer.Order.{Order}
use Rattle.book.specs.declared.answer.Totals.{Totals}
use Rattle.book.specs.declared.answer.Refusal.{Refusal}
use Rattle.book.specs.Catalogue.{nest, opened}
use Rattle.book.specs.Machines.{Selecting, Lawful, LawfulMarks, run, plainly, marking}
use Rattle.book.specs.Orders.{Held}
use Rattle.book.specs.Tables.{Fits}
use Rattle.book.specs.ItemLists.{Lists}
use Rattle.book.specs.Promise.{exchange, opening, with_orders, Keeps}
use Rattle.book.specs.PromiseLaws.{with_event}
use Rattle.book.specs.Shown.{Exact}
use Rattle.scan.specs.Tracks.{Follows}
use Rattle.scan.specs.Model.{Holding, Model, begun, answer, list_after, model_after}

-- Stands ----------------------------------------------------------------------------------------------------------

-- a held item has the track of its own run, and the event that opened it
abbrev pub HeldRight : (ℕ → ℕ → Bool) → Selecting → List Event → Holding → Type 0
HeldRight reach m h x = Follows reach m.shape (nest h) x.track (run m.shape (marking m x.item) h) × (x.since ≡ opening x.item h)

abbrev pub item_in : Holding → ℕ
item_in x = x.item

-- After the events h, with the orders given so far: just the due items were ordered, just the held ones are held, and
-- each run is where the events lead it.
pub record Stands (reach : ℕ → ℕ → Bool) (m : Selecting) (s : Model) (h : List Event) (given : List Order) : Type 0 where
  pub exact : Exact m h given
  pub place : s.place ≡ nest h
  pub events : s.events ≡ length h
  pub opens : s.opened ≡ opened h
  pub ordered : s.ordered ≡ length given
  pub base : Follows reach m.shape (nest h) s.base (run m.shape (plainly m.shape) h)
  pub held : Lists (Held m h) (map item_in s.held)
  pub each : All (HeldRight reach m h) s.held

-- Statements ------------------------------------------------------------------------------------------------------

-- What a call owes, wherever the scan stands before it: the call keeps the promise, and the scan stands after it.
abbrev pub StepKept : (ℕ → ℕ → Bool) → Selecting → Model → Event → List Order → Result Totals Refusal → List Order → Model → Type 0
StepKept reach m s e before a later s' = Lawful m.shape → LawfulMarks m.shape m.mark → Fits m.shape reach →
    (h : List Event) (given : List Order) → Stands reach m s h given →
    Keeps m h given (exchange e before a later) × Stands reach m s' (with_event h e a) (with_orders given a later)

-- the scan over lists begins where no event was and no order given
abbrev pub BeginsRight : Type 0
BeginsRight = (reach : ℕ → ℕ → Bool) (m : Selecting) → Stands reach m (begun reach m.shape) [] []

-- each of its calls keeps the promise
abbrev pub StepsRight : Type 0
StepsRight = (reach : ℕ → ℕ → Bool) (m : Selecting) (s : Model) (e : Event) (before : List Order) →
    let a : Result Totals Refusal = answer reach m s (length before) e in
    StepKept reach m s e before a (list_after reach m s e before a) (model_after reach m s e a)

-- What a scan has to show for an accepted call, and what lasts from call to call; the rest of the promise follows.
use Rattle.std.specs.Prelude.{◌≡◌, ℕ, ◌+◌, ◌↔◌, List, [], ◌∷◌, ◌++◌, map, length, drop}
use Rattle.book.specs.declared.event.Event.{Event}
use Rattle.book.specs.declared.answer.Order.{Order}
use Rattle.book.specs.declared.answer.Totals.{Totals}
use Rattle.book.specs.Catalogue.{Sound, opened}
use Rattle.book.specs.Machines.{Selecting}
use Rattle.book.specs.Orders.{Due, Dropped, Held}
use Rattle.book.specs.ItemLists.{In, Once, Lists, Counts}
use Rattle.book.specs.Checks.{Accepts}
use Rattle.book.specs.Promise.{Exchange, order, item_of, Fulfilled}

-- the events break no rule, and the orders given are those of just the due items, each once
pub record Exact (m : Selecting) (h : List Event) (given : List Order) : Type 0 where
  pub sound : Sound h
  pub due : (i : ℕ) → In i (map item_of given) ↔ Due m h i
  pub once : Once (map item_of given)

-- item i is due at the event e and was not before it
abbrev pub JustDue : Selecting → List Event → Event → ℕ → Type 0
JustDue m h e i = Due m (h ++ (e ∷ [])) i × (Due m h i → ⊥)

-- the parts of an accepted call's promise that do not follow from the others
pub record Shown (m : Selecting) (h : List Event) (given : List Order) (x : Exchange) (a : Totals) : Type 0 where
  pub accepted : Accepts m h (length x.before) x.call
  pub orders : (items : List ℕ) × Lists (JustDue m h x.call) items
      × (a.orders ≡ length items) × (x.later ≡ map (order (h ++ (x.call ∷ []))) items ++ drop (length items) x.before)
  pub opens : a.opened ≡ opened (h ++ (x.call ∷ []))
  pub ordered : a.ordered ≡ length given + a.orders
  pub dropped : Counts (Dropped m (h ++ (x.call ∷ []))) a.dropped
  pub held : Counts (Held m (h ++ (x.call ∷ []))) a.held

-- Statement -------------------------------------------------------------------------------------------------------

-- what is shown is enough: the call keeps the promise
abbrev pub ShownIsEnough : Type 0
ShownIsEnough = (m : Selecting) (h : List Event) (given : List Order) (x : Exchange) (a : Totals) →
    Exact m h given → Shown m h given x a → Fulfilled m h given x a

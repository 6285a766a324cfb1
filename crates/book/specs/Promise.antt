-- The promise of a scan: what it owes for each call, over any list of calls with what they answered.
use Rattle.std.specs.Prelude.{◌≡◌, ℕ, suc, pred, ◌+◌, true, cond, List, [], ◌∷◌, ◌++◌, map, length, take, drop, Ok, Err, Result, ◌==◌}
use Rattle.book.specs.declared.event.Event.{Event}
use Rattle.book.specs.declared.event.Event.TheVariants.{Open, Close, End}
use Rattle.book.specs.declared.answer.Order.{Order}
use Rattle.book.specs.declared.answer.Totals.{Totals}
use Rattle.book.specs.declared.answer.Refusal.{Refusal}
use Rattle.book.specs.Catalogue.{opened}
use Rattle.book.specs.Machines.{Selecting}
use Rattle.book.specs.Orders.{Opened, Due, Dropped, Held, Rule, Right}
use Rattle.book.specs.ItemLists.{In, Lists, Counts}
use Rattle.book.specs.Checks.{Accepts, Refuses}
use Rattle.book.specs.History.{Call, EventsSoFar}

-- Exchanges -------------------------------------------------------------------------------------------------------

-- a call, the list of order records that it was lent, its answer, and the list after it
pub record Exchange : Type 0 where
  pub call : Event
  pub before : List Order
  pub answer : Result Totals Refusal
  pub later : List Order

abbrev pub exchange : Event → List Order → Result Totals Refusal → List Order → Exchange
exchange e before a later = record { call = e; before = before; answer = a; later = later }

abbrev pub call_of : Exchange → Call
call_of x = record { event = x.call; room = length x.before }

-- the orders so far: an accepted call adds the first records of its list
abbrev pub with_orders : List Order → Result Totals Refusal → List Order → List Order
with_orders given (Ok a) later = given ++ take a.orders later
with_orders given (Err r) later = given

abbrev pub orders_after : List Order → List Exchange → List Order
orders_after given [] = given
orders_after given (x ∷ xs) = orders_after (with_orders given x.answer x.later) xs

abbrev pub orders_of : List Exchange → List Order
orders_of xs = orders_after [] xs

-- Records ---------------------------------------------------------------------------------------------------------

-- the number of the event that opens item i: events are numbered from 1
abbrev pub opening : ℕ → List Event → ℕ
opening i [] = 0
opening i (Open t ∷ es) = cond (i == 1) 1 (suc (opening (pred i) es))
opening i (Close t ∷ es) = suc (opening i es)
opening i (End ∷ es) = suc (opening i es)

-- the record of an order of item i at the last event of h
abbrev pub order : List Event → ℕ → Order
order h i = record { item = i; opened = opening i h; ordered = length h }

abbrev pub item_of : Order → ℕ
item_of r = r.item

-- The promise -----------------------------------------------------------------------------------------------------

-- item i is due at the event e, after the events h, and was due at no earlier event since its open
abbrev pub NewlyDue : Selecting → List Event → Event → ℕ → Type 0
NewlyDue m h e i = Due m (h ++ (e ∷ [])) i × ((p d : List Event) → h ≡ p ++ d → Opened p i → Due m p i → ⊥)

-- An accepted call, after the events h and with the orders given before it.
pub record Fulfilled (m : Selecting) (h : List Event) (given : List Order) (x : Exchange) (a : Totals) : Type 0 where
  -- no line of the checks is met
  pub accepted : Accepts m h (length x.before) x.call
  -- the first records are the orders of just the newly due items, by rising number, and the others are as they were
  pub orders : (items : List ℕ) × Lists (NewlyDue m h x.call) items
      × (a.orders ≡ length items) × (x.later ≡ map (order (h ++ (x.call ∷ []))) items ++ drop (length items) x.before)
  -- the totals after it
  pub opens : a.opened ≡ opened (h ++ (x.call ∷ []))
  pub ordered : a.ordered ≡ length given + a.orders
  pub dropped : Counts (Dropped m (h ++ (x.call ∷ []))) a.dropped
  pub held : Counts (Held m (h ++ (x.call ∷ []))) a.held
  pub all : a.opened ≡ a.ordered + a.dropped + a.held
  -- what a right rule has ordered at any event so far is ordered
  pub earliest : (rule : Rule) → Right m rule → (p : List Event) (e : Event) (d : List Event) (i : ℕ) →
      h ++ (x.call ∷ []) ≡ p ++ (e ∷ d) → rule p e i ≡ true → In i (map item_of (given ++ take a.orders x.later))

-- a refused call answers the topmost line that is met, and leaves the list as it was
abbrev pub Answered : Selecting → List Event → List Order → Exchange → Result Totals Refusal → Type 0
Answered m h given x (Ok a) = Fulfilled m h given x a
Answered m h given x (Err r) = Refuses m h (length x.before) x.call r × (x.later ≡ x.before)

abbrev pub Keeps : Selecting → List Event → List Order → Exchange → Type 0
Keeps m h given x = Answered m h given x x.answer

-- Each exchange keeps it, after the events that the calls before it bring and the orders given before it.
abbrev pub Promise : Selecting → List Exchange → Type 0
Promise m xs = (ys : List Exchange) (x : Exchange) (zs : List Exchange) → xs ≡ ys ++ (x ∷ zs) →
    (h : List Event) × EventsSoFar m (map call_of ys) h × Keeps m h (orders_of ys) x

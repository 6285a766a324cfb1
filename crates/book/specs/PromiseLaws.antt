-- What is proved of the promise of a scan, whoever keeps it.
use Rattle.std.specs.Prelude.{◌≡◌, ℕ, suc, ◌+◌, ◌<◌, ◌≤◌, Bool, true, ◌⊎◌, ◌↔◌, List, [], ◌∷◌, ◌++◌, map, length, drop, Ok, Err, Result, slice_index}
use Rattle.book.specs.declared.event.Event.{Event}
use Rattle.book.specs.declared.event.Event.TheVariants.{Open}
use Rattle.book.specs.declared.answer.Order.{Order}
use Rattle.book.specs.declared.answer.Totals.{Totals}
use Rattle.book.specs.declared.answer.Refusal.{Refusal}
use Rattle.book.specs.Catalogue.{nest, over, opened}
use Rattle.book.specs.Machines.{Selecting, Lawful, LawfulMarks, selected}
use Rattle.book.specs.Orders.{Due, Dropped, Held}
use Rattle.book.specs.Tables.{Fits}
use Rattle.book.specs.Earliest.{OrderRight}
use Rattle.book.specs.ItemLists.{In, Once, Counts}
use Rattle.book.specs.Checks.{Accepts, Refuses}
use Rattle.book.specs.History.{EventsSoFar}
use Rattle.book.specs.Promise.{Exchange, exchange, call_of, orders_of, item_of, NewlyDue, Keeps, Promise}

-- One answer ------------------------------------------------------------------------------------------------------

-- after the same events and orders, the same call with the same list has one answer, and leaves one list
abbrev pub OneAnswer : Type 0
OneAnswer = (m : Selecting) (h : List Event) (given : List Order) (e : Event) (before l k : List Order) (a b : Result Totals Refusal) →
    Keeps m h given (exchange e before a l) → Keeps m h given (exchange e before b k) → (a ≡ b) × (l ≡ k)

-- what is asked by a call: its event, and the list that it is lent
pub record Asked : Type 0 where
  pub call : Event
  pub before : List Order

abbrev pub asked : Exchange → Asked
asked x = record { call = x.call; before = x.before }

-- so the same calls with the same lists give the same exchanges throughout
abbrev pub OneRun : Type 0
OneRun = (m : Selecting) (xs ys : List Exchange) → Promise m xs → Promise m ys → map asked xs ≡ map asked ys → xs ≡ ys

-- Where a table fits, each call has an answer that keeps the promise, after any exchanges that keep it; so have
-- any calls whatever.
abbrev pub SomeAnswer : Type 0
SomeAnswer = (m : Selecting) (reach : ℕ → ℕ → Bool) → Lawful m.shape → LawfulMarks m.shape m.mark → Fits m.shape reach →
    ((xs : List Exchange) → Promise m xs → (e : Event) (before : List Order) →
    (a : Result Totals Refusal) × (later : List Order) × Promise m (xs ++ (exchange e before a later ∷ [])))
    × ((calls : List Asked) → (xs : List Exchange) × (map asked xs ≡ calls) × Promise m xs)

-- Answers and events ----------------------------------------------------------------------------------------------

-- the events of the calls that were answered Ok
abbrev pub with_event : List Event → Event → Result Totals Refusal → List Event
with_event h e (Ok a) = h ++ (e ∷ [])
with_event h e (Err r) = h

abbrev pub events_after : List Event → List Exchange → List Event
events_after h [] = h
events_after h (x ∷ xs) = events_after (with_event h x.call x.answer) xs

abbrev pub events_of : List Exchange → List Event
events_of xs = events_after [] xs

-- an answer is Ok just if the call is accepted, and Err r just if it is refused with r
abbrev pub AnswerAgrees : Selecting → List Event → Exchange → Type 0
AnswerAgrees m h x =
    (((a : Totals) × (x.answer ≡ Ok a)) ↔ Accepts m h (length x.before) x.call)
    × ((r : Refusal) → (x.answer ≡ Err r) ↔ Refuses m h (length x.before) x.call r)

abbrev pub AnswersAgree : Type 0
AnswersAgree = (m : Selecting) (xs : List Exchange) → Promise m xs →
    EventsSoFar m (map call_of xs) (events_of xs)
    × ((ys : List Exchange) (x : Exchange) (zs : List Exchange) → xs ≡ ys ++ (x ∷ zs) → AnswerAgrees m (events_of ys) x)

-- Orders ----------------------------------------------------------------------------------------------------------

-- the orders so far are those of just the items that are due, each once; after the end, of just the selected ones
abbrev pub OrdersAreTheDue : Type 0
OrdersAreTheDue = (m : Selecting) (xs : List Exchange) (h : List Event) → Promise m xs → EventsSoFar m (map call_of xs) h →
    let items : List ℕ = map item_of (orders_of xs) in
    Once items
    × ((i : ℕ) → In i items ↔ Due m h i)
    × (nest h ≡ over → (i : ℕ) → In i items ↔ (selected m i h ≡ true))

-- the event of number n opens item i
abbrev pub OpensAt : List Event → ℕ → ℕ → Type 0
OpensAt h i n = (p : List Event) × (t : ℕ) × (d : List Event) × (h ≡ p ++ (Open t ∷ d)) × (suc (length p) ≡ n) × (suc (opened p) ≡ i)

-- item i is due at the event of number n, and was due at no earlier event since its open
abbrev pub DueAt : Selecting → List Event → ℕ → ℕ → Type 0
DueAt m h i n = (p : List Event) × (x : Event) × (d : List Event) × (h ≡ p ++ (x ∷ d)) × (suc (length p) ≡ n) × NewlyDue m p x i

abbrev pub Each : (Order → Type 0) → List Order → Type 0
Each P [] = Unit {0}
Each P (r ∷ rs) = P r × Each P rs

-- each order so far has its item, the number of the event that opened it, and of the event at which it became due
abbrev pub RecordsAreTrue : Type 0
RecordsAreTrue = (m : Selecting) (xs : List Exchange) (h : List Event) → Promise m xs → EventsSoFar m (map call_of xs) h →
    Each (λ r. OpensAt h r.item r.opened × DueAt m h r.item r.ordered) (orders_of xs)

-- Earliest --------------------------------------------------------------------------------------------------------

abbrev pub Has : (Order → Type 0) → List Order → Type 0
Has P [] = ⊥
Has P (r ∷ rs) = P r ⊎ Has P rs

-- Whoever gives a right order after some of the events so far, by whatever rule, gives it no earlier: the item was
-- ordered at one of those events.
abbrev pub NoneIsEarlier : Type 0
NoneIsEarlier = (m : Selecting) (xs : List Exchange) (h : List Event) → Promise m xs → EventsSoFar m (map call_of xs) h →
    (p d : List Event) (i : ℕ) → h ≡ p ++ d → OrderRight m p i → Has (λ r. (r.item ≡ i) × (r.ordered ≤ length p)) (orders_of xs)

-- Totals and lists ------------------------------------------------------------------------------------------------

-- an exchange of the run that was answered Ok a
abbrev pub AnsweredOk : List Exchange → List Exchange → Exchange → Totals → Type 0
AnsweredOk xs ys x a = ((zs : List Exchange) × (xs ≡ ys ++ (x ∷ zs))) × (x.answer ≡ Ok a)

-- the totals after an accepted call count the items of each kind, of which each opened item is of one
abbrev pub TotalsAreTrue : Type 0
TotalsAreTrue = (m : Selecting) (xs ys : List Exchange) (x : Exchange) (a : Totals) → Promise m xs → AnsweredOk xs ys x a →
    let now : List Event = events_of ys ++ (x.call ∷ []) in
    (a.opened ≡ opened now) × Counts (Due m now) a.ordered × Counts (Dropped m now) a.dropped × Counts (Held m now) a.held
    × (a.opened ≡ a.ordered + a.dropped + a.held)

-- The orders of one call stand first in its list, by rising item number.
abbrev pub RecordsRise : Type 0
RecordsRise = (m : Selecting) (xs ys : List Exchange) (x : Exchange) (a : Totals) → Promise m xs → AnsweredOk xs ys x a →
    (j k : ℕ) → j < k → k < a.orders → slice_index (map item_of x.later) j < slice_index (map item_of x.later) k

-- No call orders more than 129 items, so that the orders fit, and the records behind them are as they were; a refused
-- call leaves its list as it was; and no list changes its length.
abbrev pub ListsAreKept : Type 0
ListsAreKept =
    ((m : Selecting) (xs ys : List Exchange) (x : Exchange) (a : Totals) → Promise m xs → AnsweredOk xs ys x a →
    (a.orders ≤ 129) × (drop a.orders x.later ≡ drop a.orders x.before))
    × ((m : Selecting) (xs ys : List Exchange) (x : Exchange) (zs : List Exchange) → Promise m xs → xs ≡ ys ++ (x ∷ zs) →
    ((r : Refusal) → x.answer ≡ Err r → x.later ≡ x.before) × (length x.later ≡ length x.before))

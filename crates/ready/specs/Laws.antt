-- What a table that fits decides, said of one table; that every lawful book has one; and what follows for scans
-- and watches.
use Rattle.std.specs.Prelude.{◌≡◌, ℕ, ◌<◌, true, false, List, [], ◌∷◌, ◌++◌, map, Result}
use Rattle.book.specs.declared.event.Event.{Event}
use Rattle.book.specs.Catalogue.{nest, within, Sound}
use Rattle.book.specs.Machines.{Machine, Marks, Selecting, selecting, Lawful, LawfulMarks, run, plainly, marking, accepted}
use Rattle.book.specs.Orders.{Opened, Due}
use Rattle.book.specs.Tables.{Fits, may_end, TwoTests, Decided}
use Rattle.book.specs.Earliest.{OneOfThree, LeftOut}
use Rattle.book.specs.declared.answer.Order.{Order}
use Rattle.book.specs.declared.answer.Totals.{Totals}
use Rattle.book.specs.declared.answer.Refusal.{Refusal}
use Rattle.book.specs.declared.answer.Verdict.{Verdict}
use Rattle.book.specs.Promise.{Exchange, exchange, Promise}
use Rattle.book.specs.PromiseLaws.{Asked, asked}
use Rattle.book.specs.Watch.{WatchExchange, watch_exchange, watch_call, WatchPromise}
use Rattle.ready.specs.Pairs.{Rel}

-- Of one table ----------------------------------------------------------------------------------------------------

-- two computed tests decide whether every, none or some of the catalogues that the events begin are accepted
abbrev pub DecidesAcceptance : Machine → Rel → Type 0
DecidesAcceptance m reach = (h : List Event) (ts : List ℕ) → nest h ≡ within ts →
    TwoTests (accepted m) h (may_end reach m ts (run m (plainly m) h) true) (may_end reach m ts (run m (plainly m) h) false)

-- and, whatever lawful answers to mark the book has, whether an opened item is due, dropped or held
abbrev pub DecidesItems : Machine → Rel → Type 0
DecidesItems m reach = (k : Marks) → LawfulMarks m k →
    (h : List Event) (i : ℕ) (ts : List ℕ) → nest h ≡ within ts → Opened h i →
    Decided (selecting m k) h i (may_end reach m ts (run m (marking (selecting m k) i) h) true) (may_end reach m ts (run m (marking (selecting m k) i) h) false)

-- Of scans and watches --------------------------------------------------------------------------------------------

-- the promise of a scan can be kept: each call has an answer that keeps it, after any exchanges that keep it, and so
-- have any calls whatever
abbrev pub Answerable : Selecting → Type 0
Answerable m =
    ((xs : List Exchange) → Promise m xs → (e : Event) (before : List Order) →
    (a : Result Totals Refusal) × (later : List Order) × Promise m (xs ++ (exchange e before a later ∷ [])))
    × ((calls : List Asked) → (xs : List Exchange) × (map asked xs ≡ calls) × Promise m xs)

-- whatever lawful answers to mark the book has
abbrev pub AlwaysAnswerable : Machine → Type 0
AlwaysAnswerable m = (k : Marks) → LawfulMarks m k → Answerable (selecting m k)

-- the same of a watch
abbrev pub Watchable : Machine → Type 0
Watchable m =
    ((xs : List WatchExchange) → WatchPromise m xs → (e : Event) → (a : Result Verdict Refusal) × WatchPromise m (xs ++ (watch_exchange e a ∷ [])))
    × ((calls : List Event) → (xs : List WatchExchange) × (map watch_call xs ≡ calls) × WatchPromise m xs)

-- Of every lawful book --------------------------------------------------------------------------------------------

abbrev pub TableExists : Type 0
TableExists = (m : Machine) → Lawful m → (reach : Rel) × Fits m reach

-- with a table that fits, which there is, two tests decide
abbrev pub TestsExist : Type 0
TestsExist = (m : Machine) → Lawful m → 0 < m.width → (reach : Rel) × Fits m reach × DecidesAcceptance m reach × DecidesItems m reach

-- each opened item is due, dropped or held; and an item that is not due is left out of some catalogue that the events begin
abbrev pub ItemsDecided : Type 0
ItemsDecided = (m : Selecting) → Lawful m.shape → LawfulMarks m.shape m.mark → (h : List Event) (i : ℕ) → Sound h →
    (Opened h i → OneOfThree m h i) × ((Due m h i → ⊥) → LeftOut m h i)

abbrev pub AnswersExist : Type 0
AnswersExist = (m : Selecting) → Lawful m.shape → LawfulMarks m.shape m.mark → Answerable m

abbrev pub VerdictsExist : Type 0
VerdictsExist = (m : Machine) → Lawful m → Watchable m

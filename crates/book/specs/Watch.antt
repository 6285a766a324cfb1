-- The promise of a watch: its verdict after each call, over any list of calls, and what the verdict says.
use Rattle.std.specs.Prelude.{◌≡◌, ℕ, Bool, true, false, ◌↔◌, List, [], ◌∷◌, ◌++◌, map, Ok, Err, Result}
use Rattle.book.specs.declared.event.Event.{Event}
use Rattle.book.specs.declared.answer.Refusal.{Refusal}
use Rattle.book.specs.declared.answer.Verdict.{Verdict}
use Rattle.book.specs.declared.answer.Verdict.TheVariants.{Yes, No, Undecided}
use Rattle.book.specs.Catalogue.{nest, over, Sound}
use Rattle.book.specs.Machines.{Machine, Lawful, accepted}
use Rattle.book.specs.Orders.{Every, Some}
use Rattle.book.specs.Tables.{Fits}
use Rattle.book.specs.Earliest.{Begins}
use Rattle.book.specs.Checks.{WatchAccepts, WatchRefuses}
use Rattle.book.specs.History.{WatchedSoFar}

-- The promise -----------------------------------------------------------------------------------------------------

-- every ending gives an accepted catalogue; none does; some does and another does not
abbrev pub Says : Machine → List Event → Verdict → Type 0
Says m h Yes = Every (accepted m) true h
Says m h No = Every (accepted m) false h
Says m h Undecided = Some (accepted m) true h × Some (accepted m) false h

-- a call of a watch, and its answer
pub record WatchExchange : Type 0 where
  pub call : Event
  pub answer : Result Verdict Refusal

abbrev pub watch_exchange : Event → Result Verdict Refusal → WatchExchange
watch_exchange e a = record { call = e; answer = a }

abbrev pub watch_call : WatchExchange → Event
watch_call x = x.call

-- an accepted call answers the verdict after it, a refused one the topmost line that is met
abbrev pub WatchAnswered : Machine → List Event → Event → Result Verdict Refusal → Type 0
WatchAnswered m h e (Ok v) = WatchAccepts m h e × Says m (h ++ (e ∷ [])) v
WatchAnswered m h e (Err r) = WatchRefuses m h e r

abbrev pub WatchKeeps : Machine → List Event → WatchExchange → Type 0
WatchKeeps m h x = WatchAnswered m h x.call x.answer

-- each exchange keeps it, after the events that the calls before it bring
abbrev pub WatchPromise : Machine → List WatchExchange → Type 0
WatchPromise m xs = (ys : List WatchExchange) (x : WatchExchange) (zs : List WatchExchange) → xs ≡ ys ++ (x ∷ zs) →
    (h : List Event) × WatchedSoFar m (map watch_call ys) h × WatchKeeps m h x

-- Statements ------------------------------------------------------------------------------------------------------

-- what a verdict says of the catalogues that the events begin
abbrev pub VerdictMeans : Machine → List Event → Verdict → Type 0
VerdictMeans m h Yes = (c : List Event) → Begins h c → accepted m c ≡ true
VerdictMeans m h No = (c : List Event) → Begins h c → accepted m c ≡ false
VerdictMeans m h Undecided = ((c : List Event) × Begins h c × (accepted m c ≡ true)) × ((c : List Event) × Begins h c × (accepted m c ≡ false))

abbrev pub VerdictsMean : Type 0
VerdictsMean = (m : Machine) (h : List Event) (v : Verdict) → Says m h v ↔ VerdictMeans m h v

-- events that break no rule have one verdict at most
abbrev pub OneVerdict : Type 0
OneVerdict = (m : Machine) (h : List Event) (v w : Verdict) → Sound h → Says m h v → Says m h w → v ≡ w

-- after the end the verdict is yes just if the catalogue is accepted, and no just if it is not
abbrev pub EndVerdict : Type 0
EndVerdict = (m : Machine) (h : List Event) → nest h ≡ over →
    (Says m h Yes ↔ (accepted m h ≡ true)) × (Says m h No ↔ (accepted m h ≡ false)) × (Says m h Undecided → ⊥)

-- In a run that keeps the promise, the verdict of an accepted call is about the events with its own, and a refused
-- call brings none: h are the events before the call, g those after it.
abbrev pub VerdictsOfRuns : Type 0
VerdictsOfRuns = (m : Machine) (xs ys : List WatchExchange) (x : WatchExchange) (zs : List WatchExchange) → WatchPromise m xs → xs ≡ ys ++ (x ∷ zs) →
    (h g : List Event) → WatchedSoFar m (map watch_call ys) h → WatchedSoFar m (map watch_call (ys ++ (x ∷ []))) g →
    ((v : Verdict) → x.answer ≡ Ok v → (g ≡ h ++ (x.call ∷ [])) × VerdictMeans m g v)
    × ((r : Refusal) → x.answer ≡ Err r → g ≡ h)

-- the same calls have the same answers throughout
abbrev pub OneWatchRun : Type 0
OneWatchRun = (m : Machine) (xs ys : List WatchExchange) → WatchPromise m xs → WatchPromise m ys → map watch_call xs ≡ map watch_call ys → xs ≡ ys

-- where a table fits, any calls have answers that keep the promise
abbrev pub SomeWatchAnswer : Type 0
SomeWatchAnswer = (m : Machine) (reach : ℕ → ℕ → Bool) → Lawful m → Fits m reach →
    ((xs : List WatchExchange) → WatchPromise m xs → (e : Event) → (a : Result Verdict Refusal) × WatchPromise m (xs ++ (watch_exchange e a ∷ [])))
    × ((calls : List Event) → (xs : List WatchExchange) × (map watch_call xs ≡ calls) × WatchPromise m xs)

-- an answer is Ok just if the call is accepted, and Err r just if it is refused with r
abbrev pub WatchAnswersAgree : Type 0
WatchAnswersAgree = (m : Machine) (h : List Event) (x : WatchExchange) → WatchKeeps m h x →
    (((v : Verdict) × (x.answer ≡ Ok v)) ↔ WatchAccepts m h x.call)
    × ((r : Refusal) → (x.answer ≡ Err r) ↔ WatchRefuses m h x.call r)

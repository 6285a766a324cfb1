-- The table of checks: which calls of a scan or of a watch are accepted, and what the others are refused with.
-- All of it comes from the book's meaning, the events so far, the call and the length of its list.
use Rattle.std.specs.Prelude.{◌≡◌, ℕ, ◌<◌, ◌≤◌, ◌⊎◌, ◌↔◌, List, [], ◌∷◌, ◌++◌, length, ◌≢◌}
use Rattle.book.specs.Limits.{tags, most_open, most_items, most_held, least_room}
use Rattle.book.specs.declared.event.Event.{Event}
use Rattle.book.specs.declared.event.Event.TheVariants.{Open, Close, End}
use Rattle.book.specs.declared.answer.Refusal.{Refusal}
use Rattle.book.specs.declared.answer.Refusal.TheVariants.{NoStates, Ended, ShortList, BadTag, TooDeep, TooMany, HoldFull, NoneOpen, OtherTag, StillOpen}
use Rattle.book.specs.Catalogue.{within, over, nest, Sound, opened}
use Rattle.book.specs.Machines.{Machine, Selecting}
use Rattle.book.specs.Orders.{Held}
use Rattle.book.specs.ItemLists.{Counts}

-- Lines -----------------------------------------------------------------------------------------------------------

-- the table of a scan, from the top
abbrev pub scan_lines : List Refusal
scan_lines = NoStates ∷ Ended ∷ ShortList ∷ BadTag ∷ TooDeep ∷ TooMany ∷ HoldFull ∷ NoneOpen ∷ OtherTag ∷ StillOpen ∷ []

-- a watch has no list and no hold
abbrev pub watch_lines : List Refusal
watch_lines = NoStates ∷ Ended ∷ BadTag ∷ TooDeep ∷ TooMany ∷ NoneOpen ∷ OtherTag ∷ StillOpen ∷ []

-- Conditions ------------------------------------------------------------------------------------------------------

-- the call is an open (a close, an end) of which P holds
abbrev pub OnOpen : (ℕ → Type 0) → Event → Type 0
OnOpen P (Open t) = P t
OnOpen P (Close t) = ⊥
OnOpen P End = ⊥

abbrev pub OnClose : (ℕ → Type 0) → Event → Type 0
OnClose P (Open t) = ⊥
OnClose P (Close t) = P t
OnClose P End = ⊥

abbrev pub OnEnd : Type 0 → Event → Type 0
OnEnd P (Open t) = ⊥
OnEnd P (Close t) = ⊥
OnEnd P End = P

-- When the call e meets a line after the events h: the lines that scans and watches share.
abbrev pub SharedMet : Machine → List Event → Event → Refusal → Type 0
SharedMet m h e NoStates = m.width ≡ 0
SharedMet m h e Ended = nest h ≡ over
SharedMet m h e ShortList = ⊥
SharedMet m h e BadTag = OnOpen (λ t. tags ≤ t) e
SharedMet m h e TooDeep = OnOpen (λ t. (ts : List ℕ) × (nest h ≡ within ts) × (most_open ≤ length ts)) e
SharedMet m h e TooMany = OnOpen (λ t. most_items ≤ opened h) e
SharedMet m h e HoldFull = ⊥
SharedMet m h e NoneOpen = OnClose (λ t. nest h ≡ within []) e
SharedMet m h e OtherTag = OnClose (λ t. (u : ℕ) × (ts : List ℕ) × (nest h ≡ within (u ∷ ts)) × (u ≢ t)) e
SharedMet m h e StillOpen = OnEnd ((u : ℕ) × (ts : List ℕ) × (nest h ≡ within (u ∷ ts))) e

-- after the events h more items are held than a scan may hold
abbrev pub Overfull : Selecting → List Event → Type 0
Overfull m h = (n : ℕ) × Counts (Held m h) n × (most_held < n)

-- all lines of a scan, whose call is lent a list of room records
abbrev pub Met : Selecting → List Event → ℕ → Event → Refusal → Type 0
Met m h room e NoStates = SharedMet m.shape h e NoStates
Met m h room e Ended = SharedMet m.shape h e Ended
Met m h room e ShortList = room < least_room
Met m h room e BadTag = SharedMet m.shape h e BadTag
Met m h room e TooDeep = SharedMet m.shape h e TooDeep
Met m h room e TooMany = SharedMet m.shape h e TooMany
Met m h room e HoldFull = OnOpen (λ t. Overfull m (h ++ (Open t ∷ []))) e
Met m h room e NoneOpen = SharedMet m.shape h e NoneOpen
Met m h room e OtherTag = SharedMet m.shape h e OtherTag
Met m h room e StillOpen = SharedMet m.shape h e StillOpen

-- Outcomes --------------------------------------------------------------------------------------------------------

-- of these lines none is met
abbrev pub NoneMet : (Refusal → Type 0) → List Refusal → Type 0
NoneMet met [] = Unit {0}
NoneMet met (l ∷ ls) = (met l → ⊥) × NoneMet met ls

-- of these lines, from the top, r is the first that is met
abbrev pub Topmost : (Refusal → Type 0) → List Refusal → Refusal → Type 0
Topmost met [] r = ⊥
Topmost met (l ∷ ls) r = (met l × (r ≡ l)) ⊎ ((met l → ⊥) × Topmost met ls r)

abbrev pub Accepts : Selecting → List Event → ℕ → Event → Type 0
Accepts m h room e = NoneMet (Met m h room e) scan_lines

abbrev pub Refuses : Selecting → List Event → ℕ → Event → Refusal → Type 0
Refuses m h room e r = Topmost (Met m h room e) scan_lines r

abbrev pub WatchAccepts : Machine → List Event → Event → Type 0
WatchAccepts m h e = NoneMet (SharedMet m h e) watch_lines

abbrev pub WatchRefuses : Machine → List Event → Event → Refusal → Type 0
WatchRefuses m h e r = Topmost (SharedMet m h e) watch_lines r

-- Statements ------------------------------------------------------------------------------------------------------

-- a call has one outcome at most: it is accepted, or refused with one line
abbrev pub OneOutcomeOf : Type 0 → (Refusal → Type 0) → Type 0
OneOutcomeOf accepted refused = ((r : Refusal) → accepted → refused r → ⊥) × ((r s : Refusal) → refused r → refused s → r ≡ s)

abbrev pub OneOutcome : Type 0
OneOutcome =
    ((m : Selecting) (h : List Event) (room : ℕ) (e : Event) → OneOutcomeOf (Accepts m h room e) (Refuses m h room e))
    × ((m : Machine) (h : List Event) (e : Event) → OneOutcomeOf (WatchAccepts m h e) (WatchRefuses m h e))

-- a call is refused with r just if r is a line of the table that is met, and no line above it is
abbrev pub MetBelowUnmet : (Refusal → Type 0) → List Refusal → Refusal → Type 0
MetBelowUnmet met lines r = (above : List Refusal) × (below : List Refusal) × (lines ≡ above ++ (r ∷ below)) × met r × NoneMet met above

abbrev pub RefusedByTopmost : Type 0
RefusedByTopmost =
    ((m : Selecting) (h : List Event) (room : ℕ) (e : Event) (r : Refusal) → Refuses m h room e r ↔ MetBelowUnmet (Met m h room e) scan_lines r)
    × ((m : Machine) (h : List Event) (e : Event) (r : Refusal) → WatchRefuses m h e r ↔ MetBelowUnmet (SharedMet m h e) watch_lines r)

-- an accepted call breaks no rule of the catalogue
abbrev pub AcceptedStaysSound : Type 0
AcceptedStaysSound =
    ((m : Selecting) (h : List Event) (room : ℕ) (e : Event) → Sound h → Accepts m h room e → Sound (h ++ (e ∷ [])))
    × ((m : Machine) (h : List Event) (e : Event) → Sound h → WatchAccepts m h e → Sound (h ++ (e ∷ [])))

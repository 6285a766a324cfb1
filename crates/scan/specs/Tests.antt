-- The table of checks as tests, on what a scan or a watch knows of the events so far.
use Rattle.std.specs.Prelude.{ℕ, Bool, true, false, cond, not, List, [], ◌∷◌, length, Ok, Err, Result, ◌==◌, nat_le}
use Rattle.book.specs.declared.event.Event.{Event}
use Rattle.book.specs.declared.event.Event.TheVariants.{Open, Close, End}
use Rattle.book.specs.declared.answer.Refusal.{Refusal}
use Rattle.book.specs.declared.answer.Refusal.TheVariants.{NoStates, Ended, ShortList, BadTag, TooDeep, TooMany, HoldFull, NoneOpen, OtherTag, StillOpen}
use Rattle.book.specs.Limits.{tags, most_open, most_items}
use Rattle.book.specs.Catalogue.{Nest, within, over, broken}

-- Where the events stand ------------------------------------------------------------------------------------------

abbrev pub is_over : Nest → Bool
is_over (within ts) = false
is_over over = true
is_over broken = false

abbrev pub open_tags : Nest → List ℕ
open_tags (within ts) = ts
open_tags over = []
open_tags broken = []

-- no item is open, and the end may come
abbrev pub is_bare : Nest → Bool
is_bare (within []) = true
is_bare (within (u ∷ ts)) = false
is_bare over = false
is_bare broken = false

abbrev pub is_open : List ℕ → Bool
is_open [] = false
is_open (u ∷ ts) = true

-- an item is open, and the innermost has another tag than t
abbrev pub is_other : ℕ → List ℕ → Bool
is_other t [] = false
is_other t (u ∷ ts) = not (u == t)

-- Tests -----------------------------------------------------------------------------------------------------------

-- the call is an open (a close, an end) that passes
abbrev pub on_open : (ℕ → Bool) → Event → Bool
on_open passes (Open t) = passes t
on_open passes (Close t) = false
on_open passes End = false

abbrev pub on_close : (ℕ → Bool) → Event → Bool
on_close passes (Open t) = false
on_close passes (Close t) = passes t
on_close passes End = false

abbrev pub on_end : Bool → Event → Bool
on_end b (Open t) = false
on_end b (Close t) = false
on_end b End = b

-- the lines that scans and watches share: the book's width, where the events stand, how many items were opened
abbrev pub shared_test : ℕ → Nest → ℕ → Event → Refusal → Bool
shared_test width place opened e NoStates = width == 0
shared_test width place opened e Ended = is_over place
shared_test width place opened e ShortList = false
shared_test width place opened e BadTag = on_open (λ t. nat_le tags t) e
shared_test width place opened e TooDeep = on_open (λ t. nat_le most_open (length (open_tags place))) e
shared_test width place opened e TooMany = on_open (λ t. nat_le most_items opened) e
shared_test width place opened e HoldFull = false
shared_test width place opened e NoneOpen = on_close (λ t. is_bare place) e
shared_test width place opened e OtherTag = on_close (λ t. is_other t (open_tags place)) e
shared_test width place opened e StillOpen = on_end (is_open (open_tags place)) e

-- the first line that is met refuses; where none is, a is the answer
abbrev pub checked : {A : Type 0} → (Refusal → Bool) → List Refusal → A → Result A Refusal
checked test [] a = Ok a
checked test (l ∷ ls) a = cond (test l) (Err l) (checked test ls a)

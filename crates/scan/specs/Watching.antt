-- A watch over lists: the base run alone; when it stands for the events so far, and what its step owes.
use Rattle.std.specs.Prelude.{◌≡◌, ℕ, Bool, true, false, List, [], ◌∷◌, ◌++◌, Ok, Err, Result}
use Rattle.book.specs.declared.event.Event.{Event}
use Rattle.book.specs.declared.answer.Refusal.{Refusal}
use Rattle.book.specs.declared.answer.Verdict.{Verdict}
use Rattle.book.specs.declared.answer.Verdict.TheVariants.{Yes, No, Undecided}
use Rattle.book.specs.Catalogue.{Nest, within, after, nest, Sound, count, opened}
use Rattle.book.specs.Machines.{Machine, Lawful, run, plainly}
use Rattle.book.specs.Tables.{Fits}
use Rattle.book.specs.Checks.{watch_lines}
use Rattle.book.specs.Watch.{watch_exchange, WatchKeeps}
use Rattle.scan.specs.Tracks.{Track, first, moved, may, Follows}
use Rattle.scan.specs.Tests.{shared_test, checked}

-- The watch over lists --------------------------------------------------------------------------------------------

-- where the events stand, how many items were opened, and the base run
pub record WatchModel : Type 0 where
  pub place : Nest
  pub opened : ℕ
  pub base : Track

-- before any event
abbrev pub watch_begun : (ℕ → ℕ → Bool) → Machine → WatchModel
watch_begun reach m = record { place = within []; opened = 0; base = first reach m }

abbrev pub watch_next : (ℕ → ℕ → Bool) → Machine → WatchModel → Event → WatchModel
watch_next reach m s e = record { place = after s.place e; opened = count s.opened e; base = moved reach m e s.base }

-- can the catalogue be accepted, and can it be not?
abbrev pub verdict : Bool → Bool → Verdict
verdict true true = Undecided
verdict true false = Yes
verdict false n = No

abbrev pub watch_answer : (ℕ → ℕ → Bool) → Machine → WatchModel → Event → Result Verdict Refusal
watch_answer reach m s e =
    let base : Track = moved reach m e s.base in
    checked (shared_test m.width s.place s.opened e) watch_lines (verdict (may m e true base) (may m e false base))

-- the watch after a call with this answer
abbrev pub watch_after : (ℕ → ℕ → Bool) → Machine → WatchModel → Event → Result Verdict Refusal → WatchModel
watch_after reach m s e (Ok v) = watch_next reach m s e
watch_after reach m s e (Err r) = s

-- Stands ----------------------------------------------------------------------------------------------------------

-- after the events h, which break no rule, the run is where they lead it
pub record WatchStands (reach : ℕ → ℕ → Bool) (m : Machine) (s : WatchModel) (h : List Event) : Type 0 where
  pub sound : Sound h
  pub place : s.place ≡ nest h
  pub opens : s.opened ≡ opened h
  pub base : Follows reach m (nest h) s.base (run m (plainly m) h)

-- the events after a call with this answer
abbrev pub watch_event : List Event → Event → Result Verdict Refusal → List Event
watch_event h e (Ok v) = h ++ (e ∷ [])
watch_event h e (Err r) = h

-- Statements ------------------------------------------------------------------------------------------------------

-- What a call owes, wherever the watch stands before it: the call keeps the promise, and the watch stands after it.
abbrev pub WatchStepKept : (ℕ → ℕ → Bool) → Machine → WatchModel → Event → Result Verdict Refusal → WatchModel → Type 0
WatchStepKept reach m s e a s' = Lawful m → Fits m reach → (h : List Event) → WatchStands reach m s h →
    WatchKeeps m h (watch_exchange e a) × WatchStands reach m s' (watch_event h e a)

-- the watch over lists begins where no event was
abbrev pub WatchBeginsRight : Type 0
WatchBeginsRight = (reach : ℕ → ℕ → Bool) (m : Machine) → WatchStands reach m (watch_begun reach m) []

-- each of its calls keeps the promise
abbrev pub WatchStepsRight : Type 0
WatchStepsRight = (reach : ℕ → ℕ → Bool) (m : Machine) (s : WatchModel) (e : Event) →
    let a : Result Verdict Refusal = watch_answer reach m s e in
    WatchStepKept reach m s e a (watch_after reach m s e a)

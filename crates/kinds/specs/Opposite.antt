-- The opposite of a book: its meaning, its rules of range, and its laws.
use Rattle.std.specs.Prelude.{◌≡◌, ℕ, ◌<◌, ◌≤◌, Bool, not, ◌&&◌, List, nat_lt}
use Rattle.std.proofs.Common.{ap, le-ltb}
use Rattle.book.specs.declared.event.Event.{Event}
use Rattle.book.specs.Catalogue.{opened}
use Rattle.book.specs.Machines.{Machine, Marks, Lawful, LawfulMarks, selecting, accepted, selected}

-- Meaning ---------------------------------------------------------------------------------------------------------

-- It accepts those states below the width that the other does not, and is alike otherwise; its marks are the other's.
abbrev pub opposite : Machine → Machine
opposite m =
    record {
      width = m.width;
      start = m.start;
      enter = m.enter;
      back = m.back;
      accepts = λ s. nat_lt s m.width && not (m.accepts s);
    }

-- Rules of range --------------------------------------------------------------------------------------------------

-- The proofs stand here and not in proofs/, since the impl names `opposite_lawful` for the law of its trait, which may name
-- nothing of its own crate outside specs/; `opposite_marks_lawful`, for the method `marked`, stands beside it.

pub opposite_lawful : (m : Machine) → Lawful m → Lawful (opposite m)
opposite_lawful m law =
    record {
      narrow = law.narrow;
      starts = law.starts;
      enters = law.enters;
      backs = law.backs;
      no_enter = law.no_enter;
      no_back = law.no_back;
      no_accept = λ s h. ap (λ (b : Bool). b && not (m.accepts s)) (le-ltb s m.width h);
    }

pub opposite_marks_lawful : (m : Machine) (k : Marks) → LawfulMarks m k → LawfulMarks (opposite m) k
opposite_marks_lawful m k law = record { marks = law.marks; no_mark = law.no_mark }

-- Laws ------------------------------------------------------------------------------------------------------------

-- a catalogue is accepted just if the other does not accept it
abbrev pub OppositeAccepts : Machine → Type 0
OppositeAccepts m = 0 < m.width → (c : List Event) → accepted (opposite m) c ≡ not (accepted m c)

-- an opened item is selected just if the other leaves it out
abbrev pub OppositeSelects : Machine → Type 0
OppositeSelects m =
    0 < m.width → (k : Marks) → LawfulMarks m k → (c : List Event) (i : ℕ) → 1 ≤ i → i ≤ opened c
    → selected (selecting (opposite m) k) i c ≡ not (selected (selecting m k) i c)

-- The seal book, as the file examples/seal/book.sel holds it, and a small catalogue for it.
-- It selects a reel that a later sibling seal follows. Tags: 1 reel, 2 seal, 0 any other name.
use Rattle.std.specs.Prelude.{ℕ, List, [], ◌∷◌, ◌++◌, codes}
use Rattle.book.specs.declared.event.Event.{Event}
use Rattle.book.specs.declared.event.Event.TheVariants.{Open, Close, End}
use Rattle.book.specs.Machines.{Selecting, selecting}
use Rattle.book_file.specs.declared.header.Kind.TheVariants as kind
use Rattle.book_file.specs.Table.{table, table_machine, table_marks}
use Rattle.book_file.specs.Files.{File, file}

-- The tables ------------------------------------------------------------------------------------------------------

-- a row for each of the five states
abbrev pub seal_accept : List ℕ
seal_accept = 0 ∷ 0 ∷ 1 ∷ 0 ∷ 0 ∷ []

-- a column for each of the three tags
abbrev pub seal_enter : List ℕ
seal_enter = 0 ∷ 0 ∷ 0 ∷ 0 ∷ 0 ∷ 0 ∷ 2 ∷ 2 ∷ 2 ∷ 3 ∷ 3 ∷ 3 ∷ 0 ∷ 0 ∷ 0 ∷ []

abbrev pub seal_mark : List ℕ
seal_mark = 3 ∷ 4 ∷ 3 ∷ 3 ∷ 3 ∷ 3 ∷ 3 ∷ 3 ∷ 3 ∷ 3 ∷ 3 ∷ 3 ∷ 3 ∷ 3 ∷ 3 ∷ []

abbrev pub seal_up : List ℕ
seal_up = 0 ∷ 0 ∷ 4 ∷ 3 ∷ 3 ∷ 3 ∷ 2 ∷ 2 ∷ 2 ∷ 3 ∷ 3 ∷ 3 ∷ 1 ∷ 1 ∷ 1 ∷ []

-- a column for each of the five tree states
abbrev pub seal_side : List ℕ
seal_side = 0 ∷ 1 ∷ 2 ∷ 3 ∷ 0 ∷ 1 ∷ 1 ∷ 2 ∷ 3 ∷ 2 ∷ 2 ∷ 2 ∷ 2 ∷ 2 ∷ 2 ∷ 3 ∷ 3 ∷ 3 ∷ 3 ∷ 3 ∷ 4 ∷ 4 ∷ 2 ∷ 3 ∷ 4 ∷ []

-- The file --------------------------------------------------------------------------------------------------------

-- the 95 bytes: the letters SEL, version 1, five states, five tree states, three tags, selecting, start 0; the tables; the names
abbrev pub seal_bytes : List ℕ
seal_bytes =
    83 ∷ 69 ∷ 76 ∷ 1 ∷ 0 ∷ 5 ∷ 5 ∷ 3 ∷ 1 ∷ 0
    ∷ (seal_accept ++ (seal_enter ++ (seal_mark ++ (seal_up ++ (seal_side ++ (4 ∷ (codes "reel" ++ (4 ∷ codes "seal"))))))))

abbrev pub seal_file : File
seal_file = file kind.Selecting (table 5 5 3 0 seal_accept seal_enter seal_up seal_side) seal_mark (codes "reel" ∷ codes "seal" ∷ [])

-- what the book of the file means
abbrev pub seal : Selecting
seal = selecting (table_machine seal_file.tables) (table_marks seal_file.tables seal_file.mark)

-- The catalogue ---------------------------------------------------------------------------------------------------

-- the events of <box><reel/><seal/><reel/></box>
abbrev pub boxed : List Event
boxed = Open 0 ∷ Open 1 ∷ Close 1 ∷ Open 2 ∷ Close 2 ∷ Open 1 ∷ Close 1 ∷ Close 0 ∷ End ∷ []

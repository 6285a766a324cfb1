-- What the tables of a book file mean.
use Rattle.std.specs.Prelude.{ℕ, ◌+◌, ◌*◌, Bool, if◌then◌else◌, ◌&&◌, List, [], length, ◌==◌, nat_le, nat_lt, slice_index}
use Rattle.name_bytes.specs.Names.{all}
use Rattle.book.specs.Limits.{tags, most_states}
use Rattle.book.specs.Machines.{Machine, Marks}

-- The tables of a file, each row by row: a row for each state (of `up`, for each inner state), and in it a column for
-- each tag (of `side`, for each tree state).
pub record Table : Type 0 where
  -- how many states, tree states, and tags with a column of their own
  pub states : ℕ
  pub trees : ℕ
  pub columns : ℕ
  pub start : ℕ
  pub accept : List ℕ
  pub enter : List ℕ
  pub up : List ℕ
  pub side : List ℕ

abbrev pub table : ℕ → ℕ → ℕ → ℕ → List ℕ → List ℕ → List ℕ → List ℕ → Table
table states trees columns start accept enter up side =
    record { states = states; trees = trees; columns = columns; start = start; accept = accept; enter = enter; up = up; side = side }

-- what stands in a row and a column
abbrev pub entry : List ℕ → ℕ → ℕ → ℕ → ℕ
entry xs columns row column = slice_index xs (row * columns + column)

-- a tag that has no column of its own uses column 0
abbrev pub column : ℕ → ℕ → ℕ
column columns t = if nat_lt t columns then t else 0

-- an item goes up to a tree state, and the tree state goes to the side of the outer state
abbrev pub table_machine : Table → Machine
table_machine b =
    record {
      width = b.states;
      start = b.start;
      enter = λ s t. if nat_lt s b.states && nat_lt t tags then entry b.enter b.columns s (column b.columns t) else 0;
      back = λ s q t.
          if nat_lt s b.states && (nat_lt q b.states && nat_lt t tags)
          then entry b.side b.trees s (entry b.up b.columns q (column b.columns t)) else 0;
      accepts = λ s. nat_lt s b.states && (slice_index b.accept s == 1);
    }

abbrev pub table_marks : Table → List ℕ → Marks
table_marks b mark s t = if nat_lt s b.states && nat_lt t tags then entry mark b.columns s (column b.columns t) else 0

-- Rules of range --------------------------------------------------------------------------------------------------

-- each number of a list is below a bound
abbrev pub below : ℕ → List ℕ → Bool
below bound xs = all (λ x. nat_lt x bound) xs

-- Whole tables ----------------------------------------------------------------------------------------------------

-- tables of the right sizes, with entries in their ranges
abbrev pub filled : Table → Bool
filled b =
    nat_le b.states most_states && (nat_lt b.start b.states && (nat_le 1 b.columns
    && (length b.accept == b.states && (length b.enter == b.states * b.columns && (length b.up == b.states * b.columns && (length b.side == b.states * b.trees
    && (below b.states b.enter && (below b.trees b.up && below b.states b.side))))))))

-- no states at all
abbrev pub no_table : Table
no_table = table 0 0 1 0 [] [] [] []

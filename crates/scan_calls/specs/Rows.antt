-- Rows of cells, a row for each level, and the runs that they stand for.
use Rattle.std.specs.Prelude.{◌≡◌, ℕ, zero, suc, ◌-◌, Bool, List, [], ◌∷◌, ◌++◌, map, length, take, drop, filter, ◌≢◌, slice_index_or}
use Rattle.book.specs.declared.event.Event.{Event}
use Rattle.book.specs.declared.event.Event.TheVariants.{Open}
use Rattle.book.specs.declared.answer.Order.{Order}
use Rattle.book.specs.Machines.{Machine}
use Rattle.scan.specs.Tracks.{Level, Track, track}
use Rattle.scan.specs.Model.{Holding, is_due, is_held, note}
use Rattle.cells.specs.declared.cell.Cell.{Cell}
use Rattle.scan_calls.specs.declared.scanning.Rows.{Rows}
use Rattle.cells.specs.Cells.{Seen, seen, alone, cell_at, entered_seen}

-- Judging ---------------------------------------------------------------------------------------------------------

abbrev pub cell_due : Machine → Event → Cell → Bool
cell_due m e c = is_due m e (alone (seen c))

abbrev pub cell_held : Machine → Event → Cell → Bool
cell_held m e c = is_held m e (alone (seen c))

-- would its item be held inside an item of tag t that opens?
abbrev pub held_child : (ℕ → ℕ → Bool) → Machine → ℕ → Cell → Bool
held_child reach m t c = is_held m (Open t) (alone (entered_seen reach m 0 t (seen c)))

abbrev pub cell_note : ℕ → Cell → Order
cell_note event c = note event (alone (seen c))

-- Runs ------------------------------------------------------------------------------------------------------------

-- the levels around a cell of level d, the inner ones first: the cell at place k of the level around it, the cell around
-- that, and so on
abbrev pub around : List (List Cell) → ℕ → ℕ → List Level
around rows zero k = []
around rows (suc d) k = (seen (cell_at (slice_index_or rows d []) k)).level ∷ around rows d (cell_at (slice_index_or rows d []) k).parent

-- the item and the run of a cell of level d
abbrev pub holding : List (List Cell) → ℕ → Seen → Holding
holding rows d s = record { item = s.item; since = s.since; track = track s.level (around rows d s.parent) }

abbrev pub held_in : List (List Cell) → ℕ → Cell → Holding
held_in rows d c = holding rows d (seen c)

-- the base run at level d, and the items whose cells are the others of the first n
abbrev pub base_view : List (List Cell) → ℕ → Track
base_view rows d = (held_in rows d (cell_at (slice_index_or rows d []) 0)).track

abbrev pub held_view : List (List Cell) → ℕ → ℕ → List Holding
held_view rows d n = map (held_in rows d) (drop 1 (take n (slice_index_or rows d [])))

-- Where the rows stand --------------------------------------------------------------------------------------------

-- the row of the current level, and its cells in use behind the first
abbrev pub row_of : Rows → List Cell
row_of r = slice_index_or r.cells r.depth []

abbrev pub item_cells : Rows → List Cell
item_cells r = drop 1 (take r.count (row_of r))

abbrev pub base_of : Rows → Track
base_of r = base_view r.cells r.depth

abbrev pub held_of : Rows → List Holding
held_of r = held_view r.cells r.depth r.count

abbrev pub holding_new : ℕ → ℕ → Track → Holding
holding_new item since x = record { item = item; since = since; track = x }

-- no row but that of level d has changed
abbrev pub Only : ℕ → List (List Cell) → List (List Cell) → Type 0
Only d rows later = (j : ℕ) → (j ≢ d) → slice_index_or later j [] ≡ slice_index_or rows j []

-- Items that are judged at an event, before any is let go: sent of them are due, and their orders stand first in the list;
-- the held ones stay, and take all but one of the cells left.
pub record Settled (m : Machine) (e : Event) (event : ℕ) (items : List Holding) (before later : List Order) (sent : ℕ) (stay : List Holding) (left : ℕ) : Type 0 where
  pub due : sent ≡ length (filter (is_due m e) items)
  pub list : later ≡ map (note event) (filter (is_due m e) items) ++ drop sent before
  pub held : stay ≡ filter (is_held m e) items
  pub cells : length stay ≡ left - 1

-- A cell as the scan over lists has it: the item's number, the event that opened it, the place of the cell around it, and
-- the run's level.
use Rattle.std.specs.Prelude.{ℕ, Bool, List, [], slice_index_or}
use Rattle.book.specs.Machines.{Machine}
use Rattle.levels.specs.Levels.{level_of, blank}
use Rattle.scan.specs.Tracks.{Level, level, track, first, inside}
use Rattle.scan.specs.Model.{Holding}
use Rattle.cells.specs.declared.cell.Cell.{Cell}

pub record Seen : Type 0 where
  pub item : ℕ
  pub since : ℕ
  pub parent : ℕ
  pub level : Level

abbrev pub seen : Cell → Seen
seen c = record { item = c.item; since = c.since; parent = c.parent; level = level_of c.level }

-- the cell of no run, and the cell at a place
abbrev pub no_cell : Cell
no_cell = record { item = 0; since = 0; parent = 0; level = blank }

abbrev pub cell_at : List Cell → ℕ → Cell
cell_at cells k = slice_index_or cells k no_cell

-- the item with its level alone, by which it is judged
abbrev pub alone : Seen → Holding
alone s = record { item = s.item; since = s.since; track = track s.level [] }

-- Events ----------------------------------------------------------------------------------------------------------

-- the base run before any event
abbrev pub first_seen : (ℕ → ℕ → Bool) → Machine → Seen
first_seen reach m = record { item = 0; since = 0; parent = 0; level = (first reach m).top }

-- the run of the cell at k, inside an item of tag t
abbrev pub entered_seen : (ℕ → ℕ → Bool) → Machine → ℕ → ℕ → Seen → Seen
entered_seen reach m k t s = record { item = s.item; since = s.since; parent = k; level = level (m.enter s.level.state t) (inside reach m t s.level) }

-- the run behind an item of tag t, in the level of the cells ps
abbrev pub left_seen : Machine → ℕ → List Cell → Seen → Seen
left_seen m t ps s =
    let p : Seen = seen (cell_at ps s.parent) in
    record { item = s.item; since = s.since; parent = p.parent; level = level (m.back p.level.state s.level.state t) p.level.can }

-- the run of a new item in state q, beside another run
abbrev pub beside_seen : ℕ → ℕ → ℕ → Seen → Seen
beside_seen item since q s = record { item = item; since = since; parent = s.parent; level = level q s.level.can }

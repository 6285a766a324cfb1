-- The tables that a table book answers from.
use Rattle.std.specs.Prelude.{◌*◌, Bool, ℕ, if◌then◌else◌, ◌&&◌, List, [], length, ◌==◌}
use Rattle.book_file.specs.declared.books.SelectingTables.{SelectingTables}
use Rattle.book_file.specs.declared.books.ShapeTables.{ShapeTables}
use Rattle.book_file.specs.declared.table.TableBook.{TableBook}
use Rattle.book_file.specs.Table.{Table, below, filled, no_table, table}

abbrev pub tables_in : TableBook → Table
tables_in b = table b.states b.trees b.columns b.start b.accept.now b.enter.now b.up.now b.side.now

-- Tables from elsewhere -------------------------------------------------------------------------------------------

abbrev pub shape_tables : ShapeTables → Table
shape_tables s = table s.states s.trees s.columns s.start s.accept.now s.enter.now s.up.now s.side.now

-- what their book answers from: these tables where they are whole, else no states
abbrev pub book_tables : ShapeTables → Table
book_tables s = if filled (shape_tables s) then shape_tables s else no_table

-- the same with a table for mark
abbrev pub filled_mark : SelectingTables → Bool
filled_mark s = filled (shape_tables s.shape) && (length s.mark.now == s.shape.states * s.shape.columns && below s.shape.states s.mark.now)

abbrev pub selecting_tables : SelectingTables → Table
selecting_tables s = if filled_mark s then shape_tables s.shape else no_table

abbrev pub selecting_mark : SelectingTables → List ℕ
selecting_mark s = if filled_mark s then s.mark.now else []

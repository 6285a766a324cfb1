-- The width of a shape file, and bytes whose first one is cleared.
use Rattle.std.specs.Prelude.{ℕ, List, Ok, Err, Result, slice_set}
use Rattle.book.specs.declared.fault.BookFault.{BookFault}
use Rattle.book_file.specs.Files.{File, reading}
use Rattle.book_file.specs.declared.header.Kind.{Kind}
use Rattle.book_file.specs.declared.header.Kind.TheVariants.{Selecting, Shape}

abbrev pub width_if : Kind → ℕ → ℕ
width_if Shape n = n
width_if Selecting n = 0

abbrev pub width_read : Result File BookFault → ℕ
width_read (Ok f) = width_if f.kind f.tables.states
width_read (Err e) = 0

abbrev pub shape_width : List ℕ → ℕ
shape_width bs = width_read (reading bs)

abbrev pub cleared : List ℕ → List ℕ
cleared bs = slice_set bs 0 0

-- The parts of a file that were read, as what they hold.
use Rattle.std.specs.Prelude.{◌-◌, ◌*◌, ◌≤◌, [], Ok, Err, Result}
use Rattle.book.specs.Limits.{most_states, tags}
use Rattle.book.specs.declared.fault.BookFault.{BookFault}
use Rattle.book_file.specs.declared.header.Header.{Header}
use Rattle.book_file.specs.declared.rest.Tables.{Tables}
use Rattle.book_file.specs.declared.file.BookFile.{BookFile}
use Rattle.book_file.specs.declared.file.BookFile.TheVariants.{Selecting, Shape}
use Rattle.book_file.specs.declared.header.Kind.TheVariants as Kind
use Rattle.book_file.specs.Books.{tables_in}
use Rattle.book_file.specs.Files.{File, Filled, Rows, entries, file, mark_size}
use Rattle.book_file.specs.Names.{listed}

abbrev pub rows_of : Tables → Rows
rows_of t = record { accept = t.accept.now; enter = t.enter.now; mark = t.mark.now; up = t.up.now; side = t.side.now }

abbrev pub tables_of : Result Tables BookFault → Result Rows BookFault
tables_of (Ok t) = Ok (rows_of t)
tables_of (Err e) = Err e

-- the numbers of a header are in the ranges that a book asks for
pub record HeaderFits (h : Header) : Type 0 where
  pub narrow : h.states ≤ most_states
  pub starts : h.start ≤ h.states - 1
  pub some : 1 ≤ h.columns
  pub few : h.columns ≤ tags

-- each table has its size, and entries below its bound
pub record TablesFilled (h : Header) (t : Tables) : Type 0 where
  pub accept : Filled h.states 2 t.accept.now
  pub enter : Filled (entries h) h.states t.enter.now
  pub mark : Filled (mark_size h.kind (entries h)) h.states t.mark.now
  pub up : Filled (entries h) h.trees t.up.now
  pub side : Filled (h.states * h.trees) h.states t.side.now

-- what a file holds that was read
abbrev pub file_of : BookFile → File
file_of (Shape s) = file Kind.Shape (tables_in s.book) [] (listed s.names)
file_of (Selecting s) = file Kind.Selecting (tables_in s.book.shape) s.book.mark.now (listed s.names)

abbrev pub read_file : Result BookFile BookFault → Result File BookFault
read_file (Ok b) = Ok (file_of b)
read_file (Err e) = Err e

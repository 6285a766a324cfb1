-- What is read was written, and what was written is read.
use Rattle.std.specs.Prelude.{◌≡◌, ℕ, List, Ok, Err, Result, ◌≢◌}
use Rattle.book.specs.declared.fault.BookFault.{BookFault}
use Rattle.book_file.specs.Files.{File, Right, bytes_of}

-- These bytes were written from this file, which holds what a file may hold, and from no other; where they are
-- refused, they were written from none.
abbrev pub WrittenOnce : List ℕ → Result File BookFault → Type 0
WrittenOnce bs (Ok f) = Right f × (bs ≡ bytes_of f) × ((g : File) → Right g → bs ≡ bytes_of g → g ≡ f)
WrittenOnce bs (Err e) = (g : File) → Right g → bs ≢ bytes_of g

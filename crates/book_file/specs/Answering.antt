-- The book that was read from bytes answers from the tables of the file that they were written from.
use Rattle.std.specs.Prelude.{◌≡◌, ℕ, List}
use Rattle.book_file.specs.declared.file.BookFile.{BookFile}
use Rattle.book_file.specs.declared.file.BookFile.TheVariants.{Selecting, Shape}
use Rattle.book_file.specs.Books.{tables_in}
use Rattle.book_file.specs.Files.{File, Right, bytes_of}

-- the tables in a book are those of a file
abbrev pub OwnTables : File → BookFile → Type 0
OwnTables f (Shape s) = tables_in s.book ≡ f.tables
OwnTables f (Selecting s) = (tables_in s.book.shape ≡ f.tables) × (s.book.mark.now ≡ f.mark)

abbrev pub Answering : List ℕ → BookFile → Type 0
Answering bs b = (f : File) → Right f → bs ≡ bytes_of f → OwnTables f b

-- The book of a file answers from the tables that the file's bytes were written from.
use Rattle.std.proofs.Common.{ℕ, List, sym, ap, Ok, Err, Result, IfOk}
use Rattle.book.specs.declared.fault.BookFault.{BookFault}
use Rattle.book_file.specs.Answering.{Answering}
use Rattle.book_file.specs.Files.{File}
use Rattle.book_file.specs.Laws.{WrittenOnce}
use Rattle.book_file.specs.Parts.{read_file}
use Rattle.book_file.specs.declared.file.BookFile.{BookFile}
use Rattle.book_file.specs.declared.file.BookFile.TheVariants.{Selecting, Shape}

pub own_tables : (bs : List ℕ) (r : Result BookFile BookFault) → WrittenOnce bs (read_file r) → IfOk r (Answering bs)
own_tables bs (Ok (Shape s)) w = λ f right e. ap (λ (g : File). g.tables) (sym (w.2 f right e))
own_tables bs (Ok (Selecting s)) w = λ f right e. let same = sym (w.2 f right e) in (ap (λ (g : File). g.tables) same, ap (λ (g : File). g.mark) same)
own_tables bs (Err x) w = tt

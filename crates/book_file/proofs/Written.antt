-- What is accepted was written from one right file, and what is refused from none.
use Rattle.std.proofs.Common.{◌≡◌, ℕ, List, Ok, Err, Result, sym, refl, ap, ◌∙◌, subst}
use Rattle.book.specs.declared.fault.BookFault.{BookFault}
use Rattle.book_file.specs.Files.{File, Right, bytes_of, reading}
use Rattle.book_file.specs.Laws.{WrittenOnce}
use Rattle.book_file.proofs.ReadBack.{read_back}
use Rattle.book_file.proofs.WasWritten.{file_written, ok_err, ok_same}

reading_of_written : (bs : List ℕ) (g : File) → Right g → bs ≡ bytes_of g → reading bs ≡ Ok g
reading_of_written bs g right e = ap reading e ∙ read_back g right

written_once : (bs : List ℕ) → WrittenOnce bs (reading bs)
written_once bs = go (reading bs) refl
  where
    go : (r : Result File BookFault) → reading bs ≡ r → WrittenOnce bs r
    go (Ok f) e =
        let p = file_written bs f e in
        (p.0, p.1, λ g right w. ok_same (reading bs) g f (reading_of_written bs g right w) e)
    go (Err x) e = λ g right w. ok_err (reading bs) g x (reading_of_written bs g right w) e

pub written : (bs : List ℕ) (r : Result File BookFault) → r ≡ reading bs → WrittenOnce bs r
written bs r e = let P : Result File BookFault → Type 0 = λ x. WrittenOnce bs x in subst P (sym e) (written_once bs)

-- What stands behind the tables, taken off one after another.
use Rattle.std.proofs.Common.{◌≡◌, ℕ, ◌+◌, ◌*◌, List, drop, ap, arith}
use Rattle.std.proofs.lemmas.List.{drop-drop}
use Rattle.book_file.specs.declared.header.Header.{Header}
use Rattle.book_file.specs.Files.{entries, mark_size, tables_size}

pub tables_behind : (h : Header) (bs : List ℕ) → drop (h.states * h.trees) (drop (entries h) (drop (mark_size h.kind (entries h)) (drop (entries h) (drop h.states bs)))) ≡ drop (tables_size h) bs
tables_behind h bs =
    let all : h.states + entries h + mark_size h.kind (entries h) + entries h + h.states * h.trees ≡ tables_size h = omega arith in
    simp drop-drop (ap (λ n. drop n bs) all)

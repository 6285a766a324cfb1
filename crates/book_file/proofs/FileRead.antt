-- Reading a file part by part.
use Rattle.std.proofs.Common.{◌≡◌, ℕ, ◌+◌, ◌-◌, ◌≤◌, cond, nat_lt, List, length, drop, Ok, Err, Result, sym, ap, ◌∙◌, arith, le-ltb}
use Rattle.std.proofs.lemmas.List.{drop-drop, length-drop}
use Rattle.std.proofs.lemmas.Bool.{cond-false}
use Rattle.book.specs.declared.fault.BookFault.{BookFault}
use Rattle.book.specs.declared.fault.BookFault.TheVariants.{CutOff}
use Rattle.book_file.specs.declared.header.Header.{Header}
use Rattle.book_file.specs.Files.{File, Rows, file_with, header, names_at, reading, tables_at, tables_size, and_then}

-- what is read behind the tables
abbrev pub named : List ℕ → Header → Rows → Result File BookFault
named bs h ts = and_then (names_at (length bs) (h.columns - 1) (10 + tables_size h) (drop (10 + tables_size h) bs)) (λ ws. Ok (file_with h ts ws))

module _ (bs : List ℕ) (h : Header) (e : Ok h ≡ header bs) (whole : 10 + tables_size h ≤ length bs) where
  pub reading_tables : reading bs ≡ and_then (tables_at h 10 (drop 10 bs)) (named bs h)
  reading_tables =
      ap (λ r. and_then r (λ k. cond (nat_lt (length bs) (10 + tables_size k)) (Err (CutOff (length bs))) (and_then (tables_at k 10 (drop 10 bs)) (named bs k)))) (sym e)
      ∙ cond-false (nat_lt (length bs) (10 + tables_size h)) (Err (CutOff (length bs))) (and_then (tables_at h 10 (drop 10 bs)) (named bs h)) (le-ltb (length bs) (10 + tables_size h) whole)

  pub tables_fault : (x : BookFault) → Err x ≡ tables_at h 10 (drop 10 bs) → Err x ≡ reading bs
  tables_fault x t = ap (λ r. and_then r (named bs h)) t ∙ sym reading_tables

  module _ (ts : Rows) (t : Ok ts ≡ tables_at h 10 (drop 10 bs)) (at : ℕ) (rest : List ℕ) (p : at ≡ 10 + tables_size h) (q : rest ≡ drop (tables_size h) (drop 10 bs)) where
    -- the offset at which the names begin and what is left there make up the file
    sized : at + length rest ≡ length bs
    sized = let left : length rest ≡ length bs - 10 - tables_size h = simp length-drop at (ap length q) in omega arith

    pub reading_names : reading bs ≡ and_then (names_at (at + length rest) (h.columns - 1) at rest) (λ ws. Ok (file_with h ts ws))
    reading_names =
        reading_tables ∙ ap (λ r. and_then r (named bs h)) (sym t)
        ∙ ap (λ n. and_then (names_at (length bs) (h.columns - 1) n (drop (10 + tables_size h) bs)) (λ ws. Ok (file_with h ts ws))) (sym p)
        ∙ ap (λ xs. and_then (names_at (length bs) (h.columns - 1) at xs) (λ ws. Ok (file_with h ts ws))) (sym (q ∙ drop-drop (tables_size h) 10 bs))
        ∙ ap (λ n. and_then (names_at n (h.columns - 1) at rest) (λ ws. Ok (file_with h ts ws))) (sym sized)

    pub names_fault : (x : BookFault) → Err x ≡ names_at (at + length rest) (h.columns - 1) at rest → Err x ≡ reading bs
    names_fault x n = ap (λ r. and_then r (λ ws. Ok (file_with h ts ws))) n ∙ sym reading_names

    pub file_read : (ws : List (List ℕ)) → Ok ws ≡ names_at (at + length rest) (h.columns - 1) at rest → Ok (file_with h ts ws) ≡ reading bs
    file_read ws n = ap (λ r. and_then r (λ vs. Ok (file_with h ts vs))) n ∙ sym reading_names

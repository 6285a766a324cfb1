-- The answers of tables keep to the rules of range. The impls of the table books name `table_lawful` for the law of their
-- trait, which may name nothing outside specs/; `table_marked`, for the method `marked`, stands beside it.
use Rattle.std.specs.Prelude.{◌≡◌, ℕ, zero, suc, ◌+◌, ◌-◌, ◌*◌, ◌≤◌, Bool, true, false, cond, ◌&&◌, ◌⊎◌, List, [], ◌∷◌, ◌==◌, nat_lt, slice_index}
use Rattle.std.proofs.Common.{sym, subst, ⊎_elim, zero-le, ltb-true, le-ltb}
use Rattle.std.proofs.Math.Nat.{le-pred_of_lt}
use Rattle.std.proofs.Math.Numerals.{sub-one}
use Rattle.std.proofs.lemmas.Bool.{and_parts, and_left, and_right, cond-false}
use Rattle.book.specs.Limits.{tags, most_states}
use Rattle.book.specs.Machines.{Lawful, LawfulMarks}
use Rattle.book_file.specs.Table.{Table, below, column, entry, table_machine, table_marks}

pub slice_index_below : (bound : ℕ) (xs : List ℕ) (i : ℕ) → below bound xs ≡ true → slice_index xs i ≤ bound - 1
slice_index_below bound [] i h = zero-le
slice_index_below bound (x ∷ xs) zero h = subst (λ n. x ≤ n) (sym (sub-one bound)) (le-pred_of_lt (ltb-true x bound (and_parts (nat_lt x bound) (below bound xs) h).0))
slice_index_below bound (x ∷ xs) (suc i) h = slice_index_below bound xs i (and_parts (nat_lt x bound) (below bound xs) h).1

cond_within : (b : Bool) (n bound : ℕ) → n ≤ bound → cond b n 0 ≤ bound
cond_within true n bound h = h
cond_within false n bound h = zero-le

-- a question with a state or a tag that is out of range
asked_out : (width s t : ℕ) → (width ≤ s) ⊎ (tags ≤ t) → (nat_lt s width && nat_lt t tags) ≡ false
asked_out width s t h = ⊎_elim (λ p. and_left (nat_lt s width) (nat_lt t tags) (le-ltb s width p)) (λ p. and_right (nat_lt s width) (nat_lt t tags) (le-ltb t tags p)) h

pub table_lawful : (b : Table) → b.states ≤ most_states → b.start ≤ b.states - 1 → below b.states b.enter ≡ true → below b.states b.side ≡ true → Lawful (table_machine b)
table_lawful b narrow starts enters sides =
    record {
      narrow = narrow;
      starts = starts;
      enters = λ s t. cond_within (nat_lt s b.states && nat_lt t tags) _ (b.states - 1) (slice_index_below b.states b.enter (s * b.columns + column b.columns t) enters);
      backs = λ s q t. cond_within (nat_lt s b.states && (nat_lt q b.states && nat_lt t tags)) _ (b.states - 1) (slice_index_below b.states b.side (s * b.trees + entry b.up b.columns q (column b.columns t)) sides);
      no_enter = λ s t out. cond-false (nat_lt s b.states && nat_lt t tags) _ 0 (asked_out b.states s t out);
      no_back = λ s q t out. cond-false (nat_lt s b.states && (nat_lt q b.states && nat_lt t tags)) _ 0
          (⊎_elim (λ p. and_left (nat_lt s b.states) (nat_lt q b.states && nat_lt t tags) (le-ltb s b.states p)) (λ p. and_right (nat_lt s b.states) (nat_lt q b.states && nat_lt t tags) (asked_out b.states q t p)) out);
      no_accept = λ s out. and_left (nat_lt s b.states) (slice_index b.accept s == 1) (le-ltb s b.states out);
    }

pub table_marked : (b : Table) (mark : List ℕ) → below b.states mark ≡ true → LawfulMarks (table_machine b) (table_marks b mark)
table_marked b mark marks =
    record {
      marks = λ s t. cond_within (nat_lt s b.states && nat_lt t tags) _ (b.states - 1) (slice_index_below b.states mark (s * b.columns + column b.columns t) marks);
      no_mark = λ s t out. cond-false (nat_lt s b.states && nat_lt t tags) _ 0 (asked_out b.states s t out);
    }

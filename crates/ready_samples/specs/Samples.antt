-- What a sample book means: its answers stand in lists, a row for each state, and are kept within the width.
use Rattle.std.specs.Prelude.{ℕ, ◌-◌, ◌≤◌, min, max, Bool, false, cond, ◌&&◌, List, [], nat_lt, slice_index, slice_index_or}
use Rattle.std.proofs.Common.{inl, inr, arith}
use Rattle.std.proofs.lemmas.Bool.{and_left, and_right, le-ltb, cond-false, cond_both}
use Rattle.book.specs.Limits.{tags, most_states}
use Rattle.book.specs.Machines.{Machine, Lawful}

-- Meaning ---------------------------------------------------------------------------------------------------------

-- the last state, or 0
abbrev pub within : ℕ → ℕ → ℕ
within w x = min x (w - 1)

-- an entry of a table, by row and column
abbrev pub entry : List (List ℕ) → ℕ → ℕ → ℕ
entry rows s t = slice_index (slice_index_or rows s []) t

abbrev pub sample_machine : ℕ → List Bool → List (List ℕ) → List (List ℕ) → List (List ℕ) → Machine
sample_machine w accept enter up side =
    record {
      width = w;
      start = 0;
      enter = λ s t. cond (nat_lt s w && nat_lt t tags) (within w (entry enter s t)) 0;
      back = λ s q t. cond (nat_lt s w && (nat_lt q w && nat_lt t tags)) (within w (entry side s (within most_states (entry up q t)))) 0;
      accepts = λ s. nat_lt s w && slice_index_or accept s false;
    }

-- the width of a book of as many states as asked for, from 1 to 64
abbrev pub as_many : ℕ → ℕ
as_many width = max (min width most_states) 1

-- Rules of range --------------------------------------------------------------------------------------------------

-- it stands here, with its proof, since a ghost member reads its own crate's specs alone
pub sample_lawful : (w : ℕ) (accept : List Bool) (enter up side : List (List ℕ)) → w ≤ most_states → Lawful (sample_machine w accept enter up side)
sample_lawful w accept enter up side narrow =
    record {
      narrow = narrow;
      starts = omega arith;
      enters = λ s t. cond_both (nat_lt s w && nat_lt t tags) (within w (entry enter s t)) 0 (λ x. x ≤ w - 1) (λ e. omega arith) (λ e. omega arith);
      backs = λ s q t. cond_both (nat_lt s w && (nat_lt q w && nat_lt t tags)) (within w (entry side s (within most_states (entry up q t)))) 0 (λ x. x ≤ w - 1) (λ e. omega arith) (λ e. omega arith);
      no_enter = λ s t h. cond-false (nat_lt s w && nat_lt t tags) _ 0 (elim h [ inl l ↦ and_left (nat_lt s w) _ (le-ltb s w l) | inr l ↦ and_right (nat_lt s w) _ (le-ltb t tags l) ]);
      no_back = λ s q t h. cond-false (nat_lt s w && (nat_lt q w && nat_lt t tags)) _ 0
          (elim h [ inl l ↦ and_left (nat_lt s w) _ (le-ltb s w l) | inr k ↦ and_right (nat_lt s w) _ (elim k [ inl l ↦ and_left (nat_lt q w) _ (le-ltb q w l) | inr l ↦ and_right (nat_lt q w) _ (le-ltb t tags l) ]) ]);
      no_accept = λ s l. and_left (nat_lt s w) _ (le-ltb s w l);
    }

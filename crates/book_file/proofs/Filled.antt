-- What whole tables have.
use Rattle.std.proofs.Common.{◌≡◌, ◌*◌, ◌<◌, ◌≤◌, true, eqb, nat_le, nat_lt, length, eqb-true, leb-true, ltb-true}
use Rattle.std.proofs.lemmas.Bool.{and_parts}
use Rattle.book.specs.Limits.{most_states}
use Rattle.book_file.specs.Table.{Table, below, filled}

pub record Whole (b : Table) : Type 0 where
  pub narrow : b.states ≤ most_states
  pub starts : b.start < b.states
  pub some : 1 ≤ b.columns
  pub accept_size : length b.accept ≡ b.states
  pub enter_size : length b.enter ≡ b.states * b.columns
  pub up_size : length b.up ≡ b.states * b.columns
  pub side_size : length b.side ≡ b.states * b.trees
  pub enters : below b.states b.enter ≡ true
  pub ups : below b.trees b.up ≡ true
  pub sides : below b.states b.side ≡ true

pub whole_if_filled : (b : Table) → filled b ≡ true → Whole b
whole_if_filled b h =
    let p₁ = and_parts (nat_le b.states most_states) _ h in
    let p₂ = and_parts (nat_lt b.start b.states) _ p₁.1 in
    let p₃ = and_parts (nat_le 1 b.columns) _ p₂.1 in
    let p₄ = and_parts (eqb (length b.accept) b.states) _ p₃.1 in
    let p₅ = and_parts (eqb (length b.enter) (b.states * b.columns)) _ p₄.1 in
    let p₆ = and_parts (eqb (length b.up) (b.states * b.columns)) _ p₅.1 in
    let p₇ = and_parts (eqb (length b.side) (b.states * b.trees)) _ p₆.1 in
    let p₈ = and_parts (below b.states b.enter) _ p₇.1 in
    let p₉ = and_parts (below b.trees b.up) (below b.states b.side) p₈.1 in
    record {
      narrow = leb-true b.states most_states p₁.0;
      starts = ltb-true b.start b.states p₂.0;
      some = leb-true 1 b.columns p₃.0;
      accept_size = eqb-true _ _ p₄.0;
      enter_size = eqb-true _ _ p₅.0;
      up_size = eqb-true _ _ p₆.0;
      side_size = eqb-true _ _ p₇.0;
      enters = p₈.0;
      ups = p₉.0;
      sides = p₉.1;
    }

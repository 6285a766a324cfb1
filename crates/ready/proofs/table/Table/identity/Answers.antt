use Rattle.std.proofs.Common.{Bool, false, ◌&&◌, ◌||◌, eqb, ltb, sym, ap, ◌∙◌, arith, length-set}
use Rattle.std.proofs.lemmas.Bool.{lt-ltb}
use Rattle.book.specs.Limits.{most_states}
use Rattle.ready.proofs.RowLaws.{lies_is, next_row, untouched}
use Rattle.ready.proofs.table.Table.identity.Goals as goal

pub loop-q-preserved : goal.loop-q-preserved
loop-q-preserved c = (
  simp length-set c.loop-q.invariant.0,
  next_row c.loop-q.table.rows c.loop-q.q _ (omega arith) (λ q p. false) (λ q p. eqb p q) c.loop-q.invariant.1
      (λ p. c.insert.ensures p
      ∙ ap (λ (b : Bool). b || (ltb c.loop-q.q most_states && eqb p c.loop-q.q)) (sym (lies_is c.loop-q.table.rows c.loop-q.q p) ∙ untouched c.loop-q.table.rows c.loop-q.q (λ q p. false) (λ q p. eqb p q) c.loop-q.invariant.1 p)
      ∙ ap (λ (b : Bool). b && eqb p c.loop-q.q) (lt-ltb c.loop-q.q most_states (omega arith))),
)

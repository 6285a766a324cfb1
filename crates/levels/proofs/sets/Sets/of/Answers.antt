use Rattle.std.proofs.Common.{◌≡◌, ℕ, ◌+◌, ◌<◌, true, false, ◌&&◌, ◌||◌, ltb, eqb, ap, ◌∙◌, arith}
use Rattle.book.specs.Limits.{most_states}
use Rattle.ready.specs.Sets.{has}
use Rattle.levels.specs.Sets.{passes}
use Rattle.levels.specs.declared.sets.Sets.{Sets}
use Rattle.levels.proofs.Filling.{no_state, next_state, added, not_added}
use Rattle.levels.proofs.sets.Sets.of.Goals.{then-accepted, else-accepted, then-refused, else-refused}
use Rattle.levels.proofs.sets.Sets.of.Goals as goal

pub loop-state-init : goal.loop-state-init
loop-state-init g c = λ f says b q. no_state (f b) q _ (c.empty-found.ensures.bare b q)

pub loop-state-preserved : goal.loop-state-preserved
loop-state-preserved g c = λ f says b q.
    let state : ℕ = c.loop-state.state in
    let small : state < most_states = omega arith in
    let before : Sets = c.loop-state.found in
    let between : Sets = c.if-accepted.found in
    let found : Sets = c.if-refused.found in
    let old = c.loop-state.invariant f (λ p a lt. says p a (omega arith)) in
    let now = says state c.belongs-accepted.result (omega arith) c.belongs-accepted.ensures in
    let first : (has between.accepted.words q ≡ (has before.accepted.words q || (c.belongs-accepted.result.0 && eqb q state))) × (has between.refused.words q ≡ has before.refused.words q) =
    elim c.if-accepted.branch [
      | then-accepted w ↦ (ap (λ (s : Sets). has s.accepted.words q) w.found-is ∙ added _ _ _ state q small w.if-accepted.true (w.insert.ensures q), ap (λ (s : Sets). has s.refused.words q) w.found-is)
      | else-accepted w ↦ (not_added _ _ _ _ w.if-accepted.false (ap (λ (s : Sets). has s.accepted.words q) w.found-is), ap (λ (s : Sets). has s.refused.words q) w.found-is)
    ] in
    let second : (has found.refused.words q ≡ (has between.refused.words q || (c.belongs-accepted.result.1 && eqb q state))) × (has found.accepted.words q ≡ has between.accepted.words q) =
    elim c.if-refused.branch [
      | then-refused w ↦ (ap (λ (s : Sets). has s.refused.words q) w.found-is ∙ added _ _ _ state q small w.if-refused.true (w.insert-then-refused.ensures q), ap (λ (s : Sets). has s.accepted.words q) w.found-is)
      | else-refused w ↦ (not_added _ _ _ _ w.if-refused.false (ap (λ (s : Sets). has s.refused.words q) w.found-is), ap (λ (s : Sets). has s.accepted.words q) w.found-is)
    ] in
    elim b as (λ v. passes found v q ≡ (ltb q (state + 1) && f v q)) [
      | true ↦ next_state (f true) state q _ _ _ (old true q) (now true) (second.1 ∙ first.0)
      | false ↦ next_state (f false) state q _ _ _ (first.1 ∙ old false q) (now false) second.0
    ]

use Rattle.std.proofs.Common.{refl, sym, ◌∙◌, inl, inr}
use Rattle.std.proofs.lemmas.Bool.{or_cases, or_left, or_right}
use Rattle.ready.specs.Pairs.{lies}
use Rattle.ready.specs.Sets.{has, Beyond}
use Rattle.ready.proofs.Counts.{lack_lt}
use Rattle.ready.proofs.Existence.{ready_leads}
use Rattle.ready.proofs.Usefulness.{useful_spreads, useful_found}
use Rattle.ready.proofs.ready.Ready.useful_states.Goals as goal

pub returns-then-is_subset : goal.returns-then-is_subset
returns-then-is_subset g c q =
    let m = g.B.ShapeBook.machine c.args.self.now.book in
    let law = g.met.B.ShapeBook.lawful c.args.self.now.book in
    let lead = ready_leads m law (lies c.args.self.now.reach.rows) c.args.self.now.leads in
    let useful = has c.loop-before.useful.words in (
      c.loop-before.invariant q,
      λ a. useful_found m (lies c.args.self.now.reach.rows) lead useful law
          (λ x p hx b hp stop. c.if-is_subset.ensures.part.0 refl x ((c.useful_before-before.ensures x).1 (hx, (p, b, hp, stop))))
          a.1.0 a.1.1 q a.0 a.1.2 a.1.3,
    )

pub loop-before-preserved : goal.loop-before-preserved
loop-before-preserved g c q a =
    let m = g.B.ShapeBook.machine c.args.self.now.book in
    let lead = ready_leads m (g.met.B.ShapeBook.lawful c.args.self.now.book) (lies c.args.self.now.reach.rows) c.args.self.now.leads in
    let useful = has c.loop-before.useful.words in
    elim (or_cases (useful q) _ (sym (c.union-useful.ensures q) ∙ a)) [
      | inl b ↦ c.loop-before.invariant q b
      | inr b ↦
          let found = (c.useful_before-before.ensures q).0 b in
          (found.0, useful_spreads m (lies c.args.self.now.reach.rows) lead useful (λ x h. (c.loop-before.invariant x h).1) q found.1.0 found.1.1 found.1.3)
    ]

pub loop-before-smaller : goal.loop-before-smaller
unfolding Beyond
loop-before-smaller g c =
    let m = g.B.ShapeBook.machine c.args.self.now.book in
    let useful = has c.loop-before.useful.words in
    let more = c.if-is_subset.ensures.beyond refl in
    lack_lt useful (has c.union-useful.result.words) (λ q a. c.union-useful.ensures q ∙ or_left (useful q) _ a) m.width more.0
    ((c.useful_before-before.ensures more.0).0 more.1).0 more.2 (c.union-useful.ensures more.0 ∙ or_right (useful more.0) _ more.1)

use Rattle.std.proofs.Common.{◌≡◌, ℕ, ◌<◌, true, ◌↔◌, ap, ◌∙◌, subst, rules, arith}
use Rattle.ready.specs.Pairs.{lies}
use Rattle.ready.specs.Sets.{has}
use Rattle.ready.specs.Dead.{Stops}
use Rattle.ready.proofs.Members.{members_below}
use Rattle.ready.proofs.ready.Ready.useful_before.Goals as goal

pub returns : goal.returns
returns g c =
    let m = g.B.ShapeBook.machine c.args.self.now.book in
    let law = g.met.B.ShapeBook.lawful c.args.self.now.book in
    let width = c.width.ensures ∙ ap (λ b. (g.B.ShapeBook.machine b).width) c.book-book.ensures in
    let ends = subst (λ (b : g.row.B.Denot). (p : ℕ) → (has c.all_stops-ends.result.words p ≡ true) ↔ ((p < (g.B.ShapeBook.machine b).width) × Stops (g.B.ShapeBook.machine b) (has c.args.useful.now.words) p)) c.book-book.ensures c.all_stops-ends.ensures in
    members_below c.of.result.words m.width (λ q. (p : ℕ) × (lies c.args.self.now.reach.rows q p ≡ true) × (p < m.width) × Stops m (has c.args.useful.now.words) p)
    (λ q a. omega (arith, c.of.ensures.within q a, width))
    (λ q lt.
    let answer = c.of.ensures.tested q (omega (arith, width)) (omega (arith, law.narrow)) in
    let met : (has c.of.result.words q ≡ true) ↔ ((p : ℕ) × (lies c.args.self.now.reach.rows q p ≡ true) × (has c.all_stops-ends.result.words p ≡ true)) = search rules in (
      (λ a. let p = met.0 a in let b = (ends p.0).0 p.2 in (p.0, p.1, b.0, b.1)),
      λ p. met.1 (p.0, p.1, (ends p.0).1 (p.2, p.3)),
    ))

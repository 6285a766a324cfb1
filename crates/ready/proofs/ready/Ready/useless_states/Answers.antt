use Rattle.std.proofs.Common.{ap, ◌∙◌, rules, arith}
use Rattle.ready.specs.Dead.{Useful}
use Rattle.ready.proofs.Members.{members_below}
use Rattle.ready.proofs.ready.Ready.useless_states.Goals as goal

pub returns : goal.returns
returns g c =
    let m = g.B.ShapeBook.machine c.args.self.now.book in
    let law = g.met.B.ShapeBook.lawful c.args.self.now.book in
    let width = c.width.ensures ∙ ap (λ b. (g.B.ShapeBook.machine b).width) c.book.ensures in
    members_below c.of.result.words m.width (λ q. Useful m q → ⊥) (λ q a. omega (arith, c.of.ensures.within q a, width))
    (λ q lt. let answer = c.of.ensures.tested q (omega (arith, width)) (omega (arith, law.narrow)) in let useful = c.useful_states-useful.ensures q in search rules)

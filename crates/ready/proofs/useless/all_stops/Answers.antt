use Rattle.std.proofs.Common.{rules, arith}
use Rattle.ready.specs.Sets.{has}
use Rattle.ready.specs.Dead.{Stops}
use Rattle.ready.proofs.Members.{members_below}
use Rattle.ready.proofs.useless.all_stops.Goals as goal

pub returns : goal.returns
returns g c =
    let m = g.B.ShapeBook.machine c.args.book.now in
    let law = g.met.B.ShapeBook.lawful c.args.book.now in
    members_below c.of.result.words m.width (Stops m (has c.args.useful.now.words)) (λ q a. omega (arith, c.of.ensures.within q a, c.width.ensures))
    (λ q lt. let answer = c.of.ensures.tested q (omega (arith, c.width.ensures)) (omega (arith, law.narrow)) in search rules)

use Rattle.std.proofs.Common.{ℕ, Bool, true, false}
use Rattle.ready.specs.Sets.{has}
use Rattle.levels.specs.Sets.{reach_of, passes}
use Rattle.levels.proofs.Filling.{row_meets}
use Rattle.levels.proofs.sets.Sets.reached_from.Goals as goal

pub returns : goal.returns
returns g c =
    let w : ℕ = (g.B.ShapeBook.machine c.args.ready.now.book).width in
    let row : ℕ → Bool = has c.row-row.result.words in
    let leads : ℕ → Bool = reach_of c.args.ready.now c.args.state in
    record {
      yes = row_meets c.intersects.result row leads (passes c.args.self.now true) w c.row-row.ensures (c.requires true) c.intersects.ensures;
      no = row_meets c.intersects-2.result row leads (passes c.args.self.now false) w c.row-row.ensures (c.requires false) c.intersects-2.ensures;
    }

use Rattle.std.proofs.Common.{◌≡◌, true, rules}
use Rattle.book.specs.Limits.{tags}
use Rattle.ready.specs.Sets.{has}
use Rattle.ready.proofs.RangeTests.{any_below}
use Rattle.ready.proofs.useless.closes_from.Goals as goal

pub returns : goal.returns
returns g c =
    any_below (λ t. has c.args.useful.now.words ((g.B.ShapeBook.machine c.args.book.now).back c.args.outer c.args.inner t) ≡ true) tags c.any.new.self _
    (λ t b f k. search rules) (search rules) c.any.result c.any.ensures.ran

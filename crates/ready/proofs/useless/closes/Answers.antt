use Rattle.std.proofs.Common.{◌≡◌, ℕ, ◌<◌, true, rules}
use Rattle.book.specs.Limits.{tags}
use Rattle.ready.specs.Sets.{has}
use Rattle.ready.proofs.RangeTests.{any_below}
use Rattle.ready.proofs.useless.closes.Goals as goal

pub returns : goal.returns
returns g c =
    let m = g.B.ShapeBook.machine c.args.book.now in
    any_below (λ s. (t : ℕ) × (t < tags) × (has c.args.useful.now.words (m.back s c.args.inner t) ≡ true)) m.width c.any.new.self _
    (λ s b f k. search rules) (search rules) c.any.result c.any.ensures.ran

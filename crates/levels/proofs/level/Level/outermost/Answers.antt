use Rattle.std.proofs.Common.{◌≡◌, ℕ, Bool, ◌&&◌, ltb, ap, ◌∙◌}
use Rattle.scan.specs.Tracks.{level, answers, widened}
use Rattle.levels.specs.Sets.{reach_of, passes}
use Rattle.levels.proofs.Filling.{some_tested}
use Rattle.levels.proofs.level.Level.outermost.Goals as goal

pub returns : goal.returns
returns g c =
    let m = g.B.ShapeBook.machine c.args.ready.now.book in
    let reach : ℕ → ℕ → Bool = reach_of c.args.ready.now in
    let raw : Bool → ℕ → Bool = passes c.ending-ending.result in
    let can : (b : Bool) (q : ℕ) → passes c.widened.result b q ≡ widened reach m (answers m b) q =
    (λ b q. c.widened.ensures b q ∙ ap (λ (x : Bool). ltb q m.width && x) (some_tested m.width (reach q) (raw b) (answers m b) (c.ending-ending.ensures b))) in
    let starts : c.start.result ≡ m.start = cc in
    λ i. level (starts i) (λ b q. can b q i)

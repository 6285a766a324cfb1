use Rattle.std.proofs.Common.{◌≡◌, ℕ, Bool, ◌&&◌, ltb, ap, ◌∙◌}
use Rattle.scan.specs.Tracks.{level, inside}
use Rattle.levels.specs.Levels.{level_of}
use Rattle.levels.specs.Sets.{reach_of, passes}
use Rattle.levels.proofs.Filling.{some_tested}
use Rattle.levels.proofs.level.Level.inside.Goals as goal

pub returns : goal.returns
returns g c =
    let m = g.B.ShapeBook.machine c.args.ready.now.book in
    let reach : ℕ → ℕ → Bool = reach_of c.args.ready.now in
    let l = c.args.self.now in
    let raw : Bool → ℕ → Bool = passes c.closing-closing.result in
    let can : (b : Bool) (q : ℕ) → passes c.widened.result b q ≡ inside reach m c.args.tag (level_of l) b q =
    (λ b q. c.widened.ensures b q ∙ ap (λ (x : Bool). ltb q m.width && x)
    (some_tested m.width (reach q) (raw b) (λ p. passes l.sets b (m.back l.state p c.args.tag)) (c.closing-closing.ensures b))) in
    λ i. level c.args.state (λ b q. can b q i)

use Rattle.std.proofs.Common.{◌≡◌, ℕ, true, false, ◌&&◌, ltb, ap, ◌∙◌, rules}
use Rattle.scan.specs.Tracks.{answers}
use Rattle.levels.proofs.sets.Sets.ending.Goals as goal

pub returns : goal.returns
returns g c = λ b q.
    let m = g.B.ShapeBook.machine c.args.ready.now.book in
    let wide : c.width.result ≡ m.width = search rules in
    c.of.ensures (answers m) (λ p a lt post. elim [ true ↦ search rules | false ↦ search rules ]) b q ∙ ap (λ (n : ℕ). ltb q n && answers m b q) wide

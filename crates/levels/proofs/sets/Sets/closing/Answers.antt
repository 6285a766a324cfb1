use Rattle.std.proofs.Common.{◌≡◌, ℕ, Bool, true, false, ◌&&◌, ltb, ap, ◌∙◌, rules}
use Rattle.levels.specs.Sets.{passes}
use Rattle.levels.proofs.sets.Sets.closing.Goals as goal

pub returns : goal.returns
returns g c = λ b q.
    let m = g.B.ShapeBook.machine c.args.ready.now.book in
    let leads : Bool → ℕ → Bool = (λ b p. passes c.args.self.now b (m.back c.args.outer p c.args.tag)) in
    let wide : c.width.result ≡ m.width = search rules in
    c.of.ensures leads (λ p a lt post. elim [ true ↦ search rules | false ↦ search rules ]) b q ∙ ap (λ (n : ℕ). ltb q n && leads b q) wide

use Rattle.std.proofs.Common.{◌≡◌, ℕ, Bool, true, false, ◌&&◌, ltb, ap, ◌∙◌, rules}
use Rattle.book.specs.Tables.{some_below}
use Rattle.levels.specs.Sets.{reach_of, passes}
use Rattle.levels.proofs.sets.Sets.widened.Goals as goal

pub returns : goal.returns
returns g c = λ b q.
    let m = g.B.ShapeBook.machine c.args.ready.now.book in
    let leads : Bool → ℕ → Bool = (λ b s. some_below m.width (λ p. reach_of c.args.ready.now s p && passes c.args.self.now b p)) in
    let wide : c.width.result ≡ m.width = search rules in
    c.of.ensures leads (λ p a lt post. elim [ true ↦ search rules | false ↦ search rules ]) b q ∙ ap (λ (n : ℕ). ltb q n && leads b q) wide

use Rattle.std.proofs.Common.{◌≡◌, true, rules, inl, inr}
use Rattle.std.proofs.lemmas.Bool.{cases_lt, both_ways}
use Rattle.ready.specs.Sets.{has}
use Rattle.ready.proofs.RangeTests.{any_below}
use Rattle.ready.proofs.ready.may_accept.Goals as goal

pub returns : goal.returns
returns g c =
    let m = g.B.ShapeBook.machine c.args.book.now in
    let below = any_below (λ p. (has c.args.states.now.words p ≡ true) × (m.accepts p ≡ true)) m.width c.any.new.self _ (λ s b f k. search rules) (search rules) c.any.result c.any.ensures.ran in
    let law = g.met.B.ShapeBook.lawful c.args.book.now in (
      (λ e. let p = below.0 e in (p.0, p.2.0, p.2.1)),
      λ p. below.1 (p.0, elim (cases_lt p.0 m.width) [ inl lt ↦ lt | inr le ↦ absurd (both_ways (m.accepts p.0) (law.no_accept p.0 le) p.2) ], (p.1, p.2)),
    )

use Rattle.std.proofs.Common.{ℕ, ◌&&◌, eqb, ltb, ap, ◌∙◌}
use Rattle.std.proofs.lemmas.Bool.{both_ways}
use Rattle.ready.specs.Pairs.{lies}
use Rattle.ready.proofs.Relations.{found_first}
use Rattle.ready.proofs.rounds.Search.begin.Goals as goal

pub invariant_of-result : goal.invariant_of-result
invariant_of-result g c =
    let m = g.B.ShapeBook.machine c.args.book.now in
    record {
      entries = c.of.ensures;
      found = ∣ found_first m (lies c.identity.result.rows) (λ q p. c.identity.ensures q p ∙ ap (λ (w : ℕ). ltb q w && eqb p q) c.width.ensures) ∣₁;
      answered = λ q t hq ht p hp h. absurd (both_ways _ (c.empty.ensures (m.enter q t) p) h);
    }

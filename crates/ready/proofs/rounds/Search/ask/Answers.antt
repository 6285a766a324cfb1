use Rattle.std.proofs.Common.{ap₂, ◌∙◌}
use Rattle.ready.specs.Pairs.{lies, joined}
use Rattle.ready.proofs.Existence.{search_found}
use Rattle.ready.proofs.Relations.{asked_new}
use Rattle.ready.proofs.rounds.Search.ask.Goals as goal

pub invariant_of-self : goal.invariant_of-self
invariant_of-self g c =
    let m = g.B.ShapeBook.machine c.args.self.now.book.now in
    let law = g.met.B.ShapeBook.lawful c.args.self.now.book.now in
    let old = lies c.args.self.now.table.rows in
    let post = asked_new m law old (lies c.join.new.self.rows) (search_found m law old c.args.self.now.found) c.args.outer c.args.inner c.args.tag c.requires.outer_in c.requires.tag_in c.requires.leads
    (λ x y. c.join.ensures x y ∙ ap₂ (λ w to. joined old w c.args.outer to x y) c.width.ensures c.back-to.ensures) in
    record {
      entries = c.args.self.now.entries;
      found = ∣ post.0 ∣₁;
      answered = λ q t hq ht p hp h. post.1 _ _ (c.args.self.now.answered q t hq ht p hp h);
    }

pub returns-then-not-contains-clause-answer : goal.returns-then-not-contains-clause-answer
returns-then-not-contains-clause-answer g c =
    let m = g.B.ShapeBook.machine c.args.self.now.book.now in
    let law = g.met.B.ShapeBook.lawful c.args.self.now.book.now in
    let old = lies c.args.self.now.table.rows in
    (asked_new m law old (lies c.join.new.self.rows) (search_found m law old c.args.self.now.found) c.args.outer c.args.inner c.args.tag c.requires.outer_in c.requires.tag_in c.requires.leads
    (λ x y. c.join.ensures x y ∙ ap₂ (λ w to. joined old w c.args.outer to x y) c.width.ensures c.back-to.ensures)).2

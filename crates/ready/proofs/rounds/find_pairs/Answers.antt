use Rattle.std.proofs.Common.{◌<◌, sym, ap, ◌∙◌, subst}
use Rattle.std.proofs.lemmas.Bool.{true≢false}
use Rattle.book.specs.Machines.{Machine}
use Rattle.ready.specs.declared.table.Table.{Table}
use Rattle.ready.specs.Pairs.{lies}
use Rattle.ready.specs.Rounds.{Finding, each_itself}
use Rattle.ready.proofs.Counts.{lacks_lt}
use Rattle.ready.proofs.Existence.{search_found}
use Rattle.ready.proofs.Lawful.{order_is_free}
use Rattle.ready.proofs.Relations.{answered_all, from_itself, uncovered}
use Rattle.ready.proofs.rounds.find_pairs.Goals as goal

pub loop-smaller : goal.loop-smaller
loop-smaller g c =
    let post = c.round.ensures in
    let new = c.round.new.self in
    let m = g.B.ShapeBook.machine new.book.now in
    let law = g.met.B.ShapeBook.lawful new.book.now in
    let same = ap (λ b. g.B.ShapeBook.machine b) (ap (λ b. b.now) post.same ∙ c.loop.invariant) in
    let more = uncovered m law (lies new.asked.rows) (lies new.table.rows) (search_found m law (lies new.table.rows) new.found) (λ cover. true≢false (sym (post.last.1 cover) ∙ c.loop-test.true)) in
    lacks_lt (lies c.loop.search.table.rows) (lies new.table.rows) post.growing (g.B.ShapeBook.machine c.args.book.now).width (g.B.ShapeBook.machine c.args.book.now).width more.0 more.1
    (subst (λ (k : Machine). more.0 < k.width) same more.2) (subst (λ (k : Machine). more.1 < k.width) same more.3)
    (ap (λ (t : Table). lies t.rows more.0 more.1) (sym post.asked) ∙ more.5) more.4

pub returns-clause-finding : goal.returns-clause-finding
returns-clause-finding g c =
    let post = c.round.ensures in
    let new = c.round.new.self in
    let m = g.B.ShapeBook.machine new.book.now in
    let law = g.met.B.ShapeBook.lawful new.book.now in
    let found = search_found m law (lies new.table.rows) new.found in
    subst (λ (k : Machine). Finding k (each_itself k) (lies new.table.rows) (lies new.table.rows)) (ap (λ b. g.B.ShapeBook.machine b) (ap (λ b. b.now) post.same ∙ c.loop.invariant))
    (record {
      found = found;
      growing = from_itself m _ found;
      answered = answered_all m law (lies new.table.rows) (lies new.asked.rows) (post.last.0 c.loop-test.false) new.answered;
    })

-- a search that has ended has found what any other would have, whatever the order
pub returns-clause-leads : goal.returns-clause-leads
returns-clause-leads g c =
    let m = g.B.ShapeBook.machine c.args.book.now in
    (order_is_free m (g.met.B.ShapeBook.lawful c.args.book.now)).0 (each_itself m) _ (returns-clause-finding g c)

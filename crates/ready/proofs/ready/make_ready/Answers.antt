use Rattle.ready.specs.Pairs.{lies}
use Rattle.ready.proofs.Relations.{fits}
use Rattle.ready.proofs.Lawful.{always_answerable, decides_acceptance, decides_items, verdicts_exist}
use Rattle.ready.proofs.ready.make_ready.Goals as goal

pub returns-clause-acceptance : goal.returns-clause-acceptance
returns-clause-acceptance g c some =
    let m = g.B.ShapeBook.machine c.args.book in
    let reach = lies c.find_pairs-reach.result.rows in
    decides_acceptance m reach (g.met.B.ShapeBook.lawful c.args.book) some (fits m reach c.find_pairs-reach.ensures.leads)

pub returns-clause-items : goal.returns-clause-items
returns-clause-items g c some =
    let m = g.B.ShapeBook.machine c.args.book in
    let reach = lies c.find_pairs-reach.result.rows in
    decides_items m reach (g.met.B.ShapeBook.lawful c.args.book) some (fits m reach c.find_pairs-reach.ensures.leads)

pub returns-clause-scans : goal.returns-clause-scans
returns-clause-scans g c = always_answerable (g.B.ShapeBook.machine c.args.book) (g.met.B.ShapeBook.lawful c.args.book)

pub returns-clause-watches : goal.returns-clause-watches
returns-clause-watches g c = verdicts_exist (g.B.ShapeBook.machine c.args.book) (g.met.B.ShapeBook.lawful c.args.book)

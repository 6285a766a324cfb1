use Rattle.std.proofs.Common.{rules}
use Rattle.ready.specs.Pairs.{lies}
use Rattle.ready.proofs.Existence.{ready_leads}
use Rattle.ready.proofs.ready.Ready.is_dead.Goals as goal

pub returns-then-state-width : goal.returns-then-state-width
returns-then-state-width g c =
    let lead = ready_leads (g.B.ShapeBook.machine c.args.self.now.book) (g.met.B.ShapeBook.lawful c.args.self.now.book) (lies c.args.self.now.reach.rows) c.args.self.now.leads in
    search rules

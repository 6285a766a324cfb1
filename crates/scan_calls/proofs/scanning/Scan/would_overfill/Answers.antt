use Rattle.std.proofs.Common.{ℕ, ◌≤◌, length, sym, arith}
use Rattle.std.proofs.lemmas.Bool.{le-ltb}
use Rattle.book.specs.declared.event.Event.TheVariants.{Open}
use Rattle.book.specs.Limits.{most_held}
use Rattle.book.specs.Machines.{Selecting}
use Rattle.scan.specs.Model.{held_at}
use Rattle.scan_calls.specs.Scans.{model_of, meaning_of, table_of}
use Rattle.scan_calls.proofs.Views.{few_held}
use Rattle.scan_calls.proofs.scanning.Scan.would_overfill.Goals as goal

pub returns-then-self-le-MOST_HELD : goal.returns-then-self-le-MOST_HELD
returns-then-self-le-MOST_HELD g c =
    let s = c.args.self.now in
    let m : Selecting = meaning_of s in
    let n : ℕ = length (held_at (table_of s) m (model_of s) (Open c.args.tag)) in
    let some : 1 ≤ s.rows.count = omega arith in
    let few : n ≤ s.rows.count = few_held (table_of s) m.shape c.args.tag s.rows.cells s.rows.depth s.rows.count some _ in
    let small : n ≤ most_held = (let z = c.if-self-le-MOST_HELD.true in omega arith) in
    sym (le-ltb most_held n small)

use Rattle.scan_calls.proofs.Accepted.{called}
use Rattle.scan_calls.proofs.scanning.Scan.send.Goals as goal

pub returns-in-Open : goal.returns-in-Open
returns-in-Open g c =
    let book = c.args.self.now.ready.book in
    called c.args.call _ c.in-Open.is c.args.self.now _ _ _ _ (g.met.B.ShapeBook.lawful book) c.marked.ensures c.make_open.ensures

pub returns-in-Close : goal.returns-in-Close
returns-in-Close g c =
    let book = c.args.self.now.ready.book in
    called c.args.call _ c.in-Close.is c.args.self.now _ _ _ _ (g.met.B.ShapeBook.lawful book) c.marked.ensures c.make_close.ensures

pub returns-in-End : goal.returns-in-End
returns-in-End g c =
    let book = c.args.self.now.ready.book in
    called c.args.call _ c.in-End.is c.args.self.now _ _ _ _ (g.met.B.ShapeBook.lawful book) c.marked.ensures c.make_end.ensures

use Rattle.scan_calls.specs.Rows.{cell_due, cell_note}
use Rattle.scan_calls.proofs.Fills.{Filled}
use Rattle.scan_calls.proofs.settling.write_orders.Given as goal

abbrev pub invariant-loop-cell : goal.invariant-loop-cell
invariant-loop-cell g l = Filled (cell_note l.event) (cell_due (g.B.ShapeBook.machine l.ready.book) l.call) l.cells l.initial.orders l.orders l.cell-index l.sent

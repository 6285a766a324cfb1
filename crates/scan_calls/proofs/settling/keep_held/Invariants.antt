use Rattle.std.proofs.lemmas.List.Filters.{FiltersInPlace}
use Rattle.scan_calls.specs.Rows.{cell_held}
use Rattle.scan_calls.proofs.settling.keep_held.Given as goal

abbrev pub invariant-loop-i : goal.invariant-loop-i
invariant-loop-i g l = FiltersInPlace (cell_held (g.B.ShapeBook.machine l.ready.book) l.call) l.initial.cells l.cells l.left l.i

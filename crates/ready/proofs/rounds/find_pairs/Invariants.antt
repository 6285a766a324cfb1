use Rattle.std.proofs.Common.{◌≡◌, ℕ}
use Rattle.ready.specs.Pairs.{lies}
use Rattle.ready.proofs.Counts.{lacks}
use Rattle.ready.proofs.rounds.find_pairs.Given as goal

abbrev pub invariant-loop : goal.invariant-loop
invariant-loop g l = l.search.book.now ≡ l.book

abbrev pub decreases-loop : goal.decreases-loop
decreases-loop g l = let w : ℕ = (g.B.ShapeBook.machine l.book).width in lacks (lies l.search.table.rows) w w

use Rattle.std.proofs.Common.{ℕ, ◌<◌}
use Rattle.book.specs.Limits.{tags}
use Rattle.ready.specs.Pairs.{lies}
use Rattle.ready.specs.Rounds.{FreshAnswers}
use Rattle.ready.specs.Searches.{Onward}
use Rattle.ready.proofs.rounds.Search.ask_all.Given as goal

abbrev pub invariant-loop-outer : goal.invariant-loop-outer
invariant-loop-outer g l =
    Onward l.fn.self l.self
    × ((q : ℕ) → q < l.outer → (t : ℕ) → t < tags → FreshAnswers (g.B.ShapeBook.machine l.fn.self.book.now) (lies l.fresh.rows) (lies l.fn.self.asked.rows) (lies l.self.table.rows) q t)

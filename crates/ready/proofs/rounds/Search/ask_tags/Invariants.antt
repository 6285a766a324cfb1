use Rattle.std.proofs.Common.{ℕ, ◌<◌}
use Rattle.ready.specs.Pairs.{lies}
use Rattle.ready.specs.Rounds.{FreshAnswers}
use Rattle.ready.specs.Searches.{Onward}
use Rattle.ready.proofs.rounds.Search.ask_tags.Given as goal

abbrev pub invariant-loop-tag : goal.invariant-loop-tag
invariant-loop-tag g l =
    Onward l.fn.self l.self
    × ((t : ℕ) → t < l.tag → FreshAnswers (g.B.ShapeBook.machine l.fn.self.book.now) (lies l.fresh.rows) (lies l.fn.self.asked.rows) (lies l.self.table.rows) l.outer t)

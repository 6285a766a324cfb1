use Rattle.std.proofs.Common.{◌≡◌, ℕ, false, ◌&&◌, ◌||◌, eqb, ltb, length}
use Rattle.book.specs.Limits.{most_states}
use Rattle.ready.specs.Pairs.{lies}
use Rattle.ready.proofs.table.Table.identity.Given as goal

abbrev pub invariant-loop-q : goal.invariant-loop-q
invariant-loop-q l =
    (length l.table.rows ≡ most_states)
    × ((q p : ℕ) → lies l.table.rows q p ≡ (false || (ltb q l.q && eqb p q)))

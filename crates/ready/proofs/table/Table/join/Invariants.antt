use Rattle.std.proofs.Common.{◌≡◌, ℕ, ◌&&◌, ◌||◌, ltb}
use Rattle.ready.specs.Pairs.{lies}
use Rattle.ready.proofs.table.Table.join.Given as goal

abbrev pub invariant-loop-row : goal.invariant-loop-row
invariant-loop-row l =
    let old = l.initial.row-items in
    let all = l.fn.self.rows in
    (q p : ℕ) → lies l.row-items q p ≡ (lies old q p || (ltb q l.row-index && (lies old q l.from && lies all l.to p)))

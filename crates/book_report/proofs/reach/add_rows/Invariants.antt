use Rattle.book_report.specs.Reach.{row_line}
use Rattle.book_report.proofs.reach.add_rows.Given as goal
use Rattle.ready.specs.Pairs.{lies}
use Rattle.std.proofs.Common.{◌≡◌, ◌++◌}
use Rattle.std.specs.List.{flat_map, range_with_len}

abbrev pub invariant-loop-state : goal.invariant-loop-state
invariant-loop-state g l = l.page ≡ l.initial.page ++ flat_map (λ k. row_line (lies l.ready.reach.rows k) l.width k) (range_with_len 0 l.state)

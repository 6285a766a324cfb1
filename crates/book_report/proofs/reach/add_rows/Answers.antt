use Rattle.std.proofs.Common.{◌+◌, arith}
use Rattle.ready.specs.Pairs.{lies}
use Rattle.book_report.specs.Reach.{row_line}
use Rattle.book_report.proofs.Printed.{one_more}
use Rattle.book_report.proofs.reach.add_rows.Goals as goal

pub loop-state-preserved : goal.loop-state-preserved
loop-state-preserved g c =
    let k = c.loop-state.state in
    one_more _ _ _ (λ k. row_line (lies c.args.ready.now.reach.rows k) c.args.width k) 0 k (k + 1) k (omega arith) (omega arith) c.loop-state.invariant c.in_ok-add_row.ensures

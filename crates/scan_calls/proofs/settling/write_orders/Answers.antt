use Rattle.std.proofs.Common.{sym, ◌∙◌, arith}
use Rattle.scan_calls.proofs.Fills.{filled_yes, filled_no}
use Rattle.scan_calls.proofs.settling.write_orders.Goals as goal
use Rattle.scan_calls.proofs.settling.write_orders.Goals.{then-is_due, else-is_due}

pub loop-cell-preserved : goal.loop-cell-preserved
loop-cell-preserved g c =
    elim c.if-is_due.branch [
      | then-is_due w ↦ rw (w.orders-is, w.sent-is) (filled_yes _ _ _ _ _ _ _ c.loop-cell.invariant _ c.loop-cell-test.true (record { item = 0; opened = 0; ordered = 0 }) _ w.order.ensures (omega arith) (sym c.is_due.ensures ∙ w.if-is_due.true))
      | else-is_due w ↦ rw (w.orders-is, w.sent-is) (filled_no _ _ _ _ _ _ _ c.loop-cell.invariant _ c.loop-cell-test.true (sym c.is_due.ensures ∙ w.if-is_due.false))
    ]

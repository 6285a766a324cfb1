use Rattle.std.proofs.Common.{sym, ◌∙◌, arith}
use Rattle.std.proofs.lemmas.List.{get_or_default}
use Rattle.std.proofs.lemmas.List.Filters.{FiltersInPlace-more_no, FiltersInPlace-more_set}
use Rattle.scan_calls.proofs.settling.keep_held.Goals as goal
use Rattle.scan_calls.proofs.settling.keep_held.Goals.{then-is_held, else-is_held}

pub loop-i-preserved : goal.loop-i-preserved
loop-i-preserved g c =
    elim c.if-is_held.branch [
      | then-is_held w ↦ rw (w.cells-is, w.left-is) (FiltersInPlace-more_set c.loop-i.invariant (omega arith) (sym c.is_held.ensures ∙ w.if-is_held.true) (get_or_default c.loop-i.cells c.loop-i.i _ _ (omega arith)))
      | else-is_held w ↦ rw (w.cells-is, w.left-is) (FiltersInPlace-more_no c.loop-i.invariant (omega arith) (sym c.is_held.ensures ∙ w.if-is_held.false) (get_or_default c.loop-i.cells c.loop-i.i _ _ (omega arith)))
    ]

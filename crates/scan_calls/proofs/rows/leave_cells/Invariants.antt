use Rattle.std.proofs.Common.{◌≡◌, ℕ, ◌<◌, ◌≤◌}
use Rattle.levels.specs.Sets.{machine_of}
use Rattle.cells.specs.Cells.{cell_at, seen, left_seen}
use Rattle.scan_calls.proofs.rows.leave_cells.Given as goal

-- the cells so far are changed, and those to come are not
abbrev pub invariant-loop-cell : goal.invariant-loop-cell
invariant-loop-cell g l = record {
  changed : (k : ℕ) → k < l.cell-index → seen (cell_at l.cell-items k) ≡ left_seen (machine_of l.ready) l.tag l.around (seen (cell_at l.initial.cell-items k));
  rest : (k : ℕ) → l.cell-index ≤ k → cell_at l.cell-items k ≡ cell_at l.initial.cell-items k;
}

use Rattle.std.proofs.Common.{◌≡◌, ℕ, ◌<◌}
use Rattle.levels.specs.Sets.{machine_of, reach_of}
use Rattle.cells.specs.Cells.{cell_at, seen, entered_seen}
use Rattle.scan_calls.proofs.rows.open_cells.Given as goal

-- the cells so far are written
abbrev pub invariant-loop-place : goal.invariant-loop-place
invariant-loop-place g l = (k : ℕ) → k < l.place → seen (cell_at l.inside k) ≡ entered_seen (reach_of l.ready) (machine_of l.ready) k l.tag (seen (cell_at l.around k))

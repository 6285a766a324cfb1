use Rattle.std.proofs.Common.{◌≡◌, ℕ, ◌<◌, List, length, take, drop, ap, ◌∙◌, arith, length-take-le}
use Rattle.std.proofs.lemmas.List.{get_or_default, get_or-take}
use Rattle.std.proofs.Math.ListN.{get_or-append}
use Rattle.levels.specs.Sets.{machine_of}
use Rattle.cells.specs.declared.cell.Cell.{Cell}
use Rattle.cells.specs.Cells.{no_cell, cell_at, seen, left_seen}
use Rattle.scan_calls.proofs.Changed.{set_more, set_behind}
use Rattle.scan_calls.proofs.rows.leave_cells.Goals as goal

pub loop-cell-preserved : goal.loop-cell-preserved
loop-cell-preserved g c =
    let first : List Cell = take c.args.count c.args.inside.now in
    let cells : List Cell = c.loop-cell.cell-items in
    let k : ℕ = c.loop-cell.cell-index in
    let so_far = c.loop-cell.invariant in
    let left : ℕ → Cell → Type 0 = (λ j x. seen x ≡ left_seen (machine_of c.args.ready.now) c.args.tag c.args.around.now (seen (cell_at first j))) in
    record {
      changed = set_more cells k _ (omega arith) left so_far.changed
          (c.left.ensures ∙ ap (λ (x : Cell). left_seen (machine_of c.args.ready.now) c.args.tag c.args.around.now (seen x)) (get_or_default cells k _ no_cell (omega arith) ∙ so_far.rest k (omega arith)));
      rest = set_behind cells k _ (cell_at first) so_far.rest;
    }

pub returns : goal.returns
returns g c = λ k lt.
    let first : List Cell = take c.args.count c.args.inside.now in
    let cells : List Cell = c.loop-cell.cell-items in
    let long : length first ≡ c.args.count = length-take-le c.args.count c.args.inside.now c.requires in
    let before : k < length cells = omega arith in
    ap seen (get_or-append cells (drop c.args.count c.args.inside.now) no_cell k before) ∙ c.loop-cell.invariant.changed k (omega arith)
    ∙ ap (λ (x : Cell). left_seen (machine_of c.args.ready.now) c.args.tag c.args.around.now (seen x)) (get_or-take c.args.count c.args.inside.now k no_cell lt)

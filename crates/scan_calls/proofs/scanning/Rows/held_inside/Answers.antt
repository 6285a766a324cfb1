use Rattle.std.proofs.Common.{◌≡◌, ℕ, ◌+◌, ◌-◌, ◌≤◌, Bool, true, false, cond, List, [], ◌∷◌, ◌++◌, map, length, take, drop, filter, sym, ap, ◌∙◌, add-zero, arith}
use Rattle.std.proofs.lemmas.List.Sums.{length-filter}
use Rattle.std.specs.List.{count_by}
use Rattle.book.specs.declared.event.Event.TheVariants.{Open}
use Rattle.book.specs.Machines.{Machine, selecting}
use Rattle.levels.specs.Sets.{machine_of, reach_of}
use Rattle.cells.specs.declared.cell.Cell.{Cell}
use Rattle.cells.specs.Cells.{cell_at, seen}
use Rattle.scan.specs.Tracks.{Level, track, marked}
use Rattle.scan.specs.Model.{Holding, onward, is_held}
use Rattle.scan_calls.specs.declared.scanning.Rows.{Rows}
use Rattle.scan_calls.specs.Rows.{around, row_of, item_cells, held_of, holding_new, held_child}
use Rattle.scan_calls.proofs.Changed.{mid_taken}
use Rattle.scan_calls.proofs.Views.{held_count}
use Rattle.scan_calls.proofs.scanning.Rows.held_inside.Goals as goal

-- the count over the cells behind the first, with one more where the new item is held
counted : (reach : ℕ → ℕ → Bool) (m : Machine) (t : ℕ) (rows : Rows) (old : ℕ) (h : Holding) (b : Bool) → 1 ≤ rows.count
    → old ≡ count_by (held_child reach m t) (take (rows.count - 1) (drop 1 (row_of rows))) → b ≡ is_held m (Open t) h
    → old + cond b 1 0 ≡ length (filter (is_held m (Open t)) (map (onward reach m (Open t)) (held_of rows) ++ (h ∷ [])))
counted reach m t rows old h b some is e =
    (λ i. (is ∙ ap (count_by (held_child reach m t)) (mid_taken rows.count (row_of rows) some) ∙ sym (length-filter (held_child reach m t) (item_cells rows))) i + cond (e i) 1 0)
    ∙ sym (held_count reach m t rows.cells rows.depth rows.count h)

pub returns-then-holds_new : goal.returns-then-holds_new
returns-then-holds_new g c = λ item since.
    let m : Machine = machine_of c.args.ready.now in
    let reach : ℕ → ℕ → Bool = reach_of c.args.ready.now in
    let t : ℕ = c.args.tag in
    let rows : Rows = c.args.self.now in
    let under : List Level = around rows.cells rows.depth (cell_at (row_of rows) 0).parent in
    let new : Cell → Holding = (λ x. holding_new item since (marked reach (selecting m (g.B.SelectingBook.marks c.args.ready.now.book)) t (track (seen x).level under))) in
    let some : 1 ≤ rows.count = omega arith in
    counted reach m t rows c.count_inside-old.result (new (cell_at (row_of rows) 0)) true some c.count_inside-old.ensures
    (c.if-holds_new.ensures item since under ∙ ap (λ (x : Cell). is_held m (Open t) (new x)) c.cell_at-base.ensures)

pub returns : goal.returns
returns g c = λ item since.
    let m : Machine = machine_of c.args.ready.now in
    let reach : ℕ → ℕ → Bool = reach_of c.args.ready.now in
    let t : ℕ = c.args.tag in
    let rows : Rows = c.args.self.now in
    let under : List Level = around rows.cells rows.depth (cell_at (row_of rows) 0).parent in
    let new : Cell → Holding = (λ x. holding_new item since (marked reach (selecting m (g.B.SelectingBook.marks c.args.ready.now.book)) t (track (seen x).level under))) in
    let some : 1 ≤ rows.count = omega arith in
    sym (add-zero c.count_inside-old.result) ∙ counted reach m t rows c.count_inside-old.result (new (cell_at (row_of rows) 0)) false some c.count_inside-old.ensures
    (c.if-holds_new.ensures item since under ∙ ap (λ (x : Cell). is_held m (Open t) (new x)) c.cell_at-base.ensures)

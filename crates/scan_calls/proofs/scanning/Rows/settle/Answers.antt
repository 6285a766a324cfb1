use Rattle.std.proofs.Common.{◌≡◌, ℕ, ◌+◌, ◌-◌, ◌<◌, ◌≤◌, true, false, List, [], ◌++◌, map, length, get_or, take, drop, set, filter, sym, rules, ap, ◌∙◌, arith, length-take, length-take-le, get_or-set_same, get_or-set_other}
use borrow.Rule.Slice.PartMut.{put_mid}
use Rattle.book.specs.Machines.{Machine}
use Rattle.book.specs.declared.event.Event.{Event}
use Rattle.levels.specs.Sets.{machine_of}
use Rattle.cells.specs.declared.cell.Cell.{Cell}
use Rattle.cells.specs.Cells.{seen, alone}
use Rattle.scan.specs.Tracks.{may}
use Rattle.scan_calls.specs.Rows.{row_of, item_cells, cell_due, cell_held, cell_note}
use Rattle.scan_calls.proofs.Changed.{mid_taken, mid_put}
use Rattle.scan_calls.proofs.Fills.{two_kinds, due_or_held}
use Rattle.scan_calls.proofs.Views.{settled_at}
use Rattle.scan_calls.proofs.scanning.Rows.settle.Goals as goal

pub returns-clause-settled : goal.returns-clause-settled
returns-clause-settled g c = λ e le.
    let m : Machine = machine_of c.args.ready.now in
    let call : Event = c.args.call in
    let old = c.args.self.now in
    let d : ℕ = old.depth in
    let n : ℕ = old.count in
    let row : List Cell = row_of old in
    let kept : List Cell = c.keep_held-left.new.cells in
    let last : List Cell = put_mid 1 (n - 1) row kept in
    let later : List (List Cell) = set old.cells d last in
    let left : ℕ = c.keep_held-left.result in
    let some : 1 ≤ n = omega arith in
    let lt : d < length old.cells = omega arith in
    let taken : take (n - 1) (drop 1 row) ≡ item_cells old = mid_taken n row some in
    let long : 1 ≤ length row = search rules in
    let within : left ≤ length kept = omega arith in
    let stays : drop 1 (take (left + 1) (get_or later d [])) ≡ take left kept =
    ap (λ (r : List Cell). drop 1 (take (left + 1) r)) (get_or-set_same old.cells d last [] lt) ∙ mid_put (n - 1) left row kept long within in
    let count : length (take left kept) ≡ left + 1 - 1 = (let z = length-take-le left kept within in omega arith) in
    settled_at m call c.args.event old.cells later d e le (λ j ne. get_or-set_other old.cells d j last [] ne) (item_cells old) (drop 1 (take (left + 1) (get_or later d []))) c.args.orders.now c.write_orders-sent.new.orders
    c.write_orders-sent.result (left + 1)
    (ap length stays ∙ count)
    (c.write_orders-sent.ensures.count ∙ ap (λ (cs : List Cell). length (filter (cell_due m call) cs)) taken)
    (stays ∙ c.keep_held-left.ensures.kept ∙ ap (filter (cell_held m call)) taken)
    (c.write_orders-sent.ensures.filled ∙ ap (λ (cs : List Cell). map (cell_note c.args.event) (filter (cell_due m call) cs) ++ drop c.write_orders-sent.result c.args.orders.now) taken)

pub returns-clause-total : goal.returns-clause-total
returns-clause-total g c =
    let m : Machine = machine_of c.args.ready.now in
    let call : Event = c.args.call in
    let cs : List Cell = take (c.args.self.now.count - 1) (drop 1 (row_of c.args.self.now)) in
    let kept : List Cell = c.keep_held-left.new.cells in
    let left : ℕ = c.keep_held-left.result in
    let within : left ≤ length kept = omega arith in
    let long : left ≡ length (filter (cell_held m call) cs) = sym (length-take-le left kept within) ∙ ap length c.keep_held-left.ensures.kept in
    let two : length (filter (cell_due m call) cs) + length (filter (cell_held m call) cs) ≤ length cs =
    two_kinds (cell_due m call) (cell_held m call) (λ x p q. due_or_held (may m call true (alone (seen x)).track) (may m call false (alone (seen x)).track) p q) cs in
    let sent = c.write_orders-sent.ensures.count in
    let few = length-take (c.args.self.now.count - 1) (drop 1 (row_of c.args.self.now)) in
    omega (arith, long, two, sent, few)

use Rattle.std.proofs.Common.{◌≡◌, ℕ, ◌<◌, Bool, ◌≢◌, List, length, get_or, take, ap, ◌∙◌, arith, length-take-le, get_or-set_same, get_or-set_other}
use Rattle.std.proofs.lemmas.List.{get_or_default, get_or-take}
use Rattle.book.specs.Machines.{Machine}
use Rattle.levels.specs.Sets.{machine_of, reach_of}
use Rattle.cells.specs.declared.cell.Cell.{Cell}
use Rattle.cells.specs.Cells.{Seen, no_cell, cell_at, seen, entered_seen, beside_seen}
use Rattle.scan_calls.proofs.Changed.{set_more}
use Rattle.scan_calls.proofs.rows.open_cells.Goals as goal

pub loop-place-preserved : goal.loop-place-preserved
loop-place-preserved g c =
    let entered : ℕ → Cell → Type 0 = (λ k x. seen x ≡ entered_seen (reach_of c.args.ready.now) (machine_of c.args.ready.now) k c.args.tag (seen (cell_at c.args.around.now k))) in
    let place : ℕ = c.loop-place.place in
    let all : length (take c.args.count c.args.around.now) ≡ c.args.count = length-take-le c.args.count c.args.around.now (omega arith) in
    let below : place < c.args.count = (let z = c.loop-place-test.true in omega arith) in
    let read : cell_at (take c.args.count c.args.around.now) place ≡ cell_at c.args.around.now place = get_or-take c.args.count c.args.around.now place no_cell below in
    let room : place < length c.loop-place.inside = omega arith in
    set_more c.loop-place.inside place _ room entered c.loop-place.invariant
    (c.entered.ensures ∙ ap (λ (x : Cell). entered_seen (reach_of c.args.ready.now) (machine_of c.args.ready.now) place c.args.tag (seen x)) (get_or_default (take c.args.count c.args.around.now) place _ no_cell c.loop-place-test.true ∙ read))

pub returns : goal.returns
returns g c =
    let m : Machine = machine_of c.args.ready.now in
    let reach : ℕ → ℕ → Bool = reach_of c.args.ready.now in
    let t : ℕ = c.args.tag in
    let cells : List Cell = c.loop-place.inside in
    let n : ℕ = c.args.count in
    let all : length (take n c.args.around.now) ≡ n = length-take-le n c.args.around.now (omega arith) in
    let some : 0 < length c.args.around.now = omega arith in
    let room : n < length cells = omega arith in
    let first : Seen = seen (cell_at c.args.around.now 0) in
    let q : ℕ = g.B.SelectingBook.marks c.args.ready.now.book first.level.state t in
    let at : c.state.result ≡ first.level.state = c.state.ensures ∙ ap (λ (x : Cell). (seen x).level.state) (get_or_default c.args.around.now 0 _ no_cell some) in
    let state-is : c.mark-state.result ≡ q = cc in
    let one : 0 < length cells = omega arith in
    let child-is : seen (get_or cells 0 _) ≡ entered_seen reach m 0 t first = ap seen (get_or_default cells 0 _ no_cell one) ∙ c.loop-place.invariant 0 (let z = c.loop-place-test.false in omega arith) in
    record {
      wide = omega arith;
      entered = λ k lt. let ne : k ≢ n = omega arith in ap seen (get_or-set_other cells n k c.beside.result no_cell ne) ∙ c.loop-place.invariant k (let z = c.loop-place-test.false in omega arith);
      new = ap seen (get_or-set_same cells n c.beside.result no_cell room) ∙ c.beside.ensures ∙ (λ i. beside_seen c.args.item c.args.since (state-is i) (child-is i));
    }

use Rattle.std.proofs.Common.{◌≡◌, ℕ, ◌+◌, ◌<◌, ◌≤◌, Bool, List, [], ◌∷◌, ◌++◌, map, length, get_or, set, sym, refl, ap, ◌∙◌, subst, arith, get_or-set_same, get_or-set_other}
use Rattle.book.specs.declared.event.Event.TheVariants.{Open}
use Rattle.book.specs.Machines.{Machine, selecting}
use Rattle.levels.specs.Sets.{machine_of, reach_of}
use Rattle.cells.specs.declared.cell.Cell.{Cell}
use Rattle.cells.specs.Cells.{cell_at, seen, entered_seen, beside_seen}
use Rattle.scan.specs.Tracks.{moved, marked}
use Rattle.scan.specs.Model.{onward}
use Rattle.scan_calls.specs.Rows.{base_view, held_view, holding_new}
use Rattle.scan_calls.proofs.Changed.{split_set}
use Rattle.scan_calls.proofs.Views.{opens}
use Rattle.scan_calls.proofs.scanning.Rows.open.Goals as goal

pub returns : goal.returns
returns g c =
    let m : Machine = machine_of c.args.ready.now in
    let reach : ℕ → ℕ → Bool = reach_of c.args.ready.now in
    let t : ℕ = c.args.tag in
    let rows : List (List Cell) = c.args.self.now.cells in
    let d : ℕ = c.args.self.now.depth in
    let n : ℕ = c.args.self.now.count in
    let row : List Cell = c.open_cells.new.inside in
    let later : List (List Cell) = set rows (d + 1) row in
    let s = c.split_at_mut-outer.ensures in
    let o = c.open_cells.ensures in
    let lt : d + 1 < length rows = omega arith in
    let here : get_or c.split_at_mut-outer.result.0.now d [] ≡ get_or rows d [] = s.by_index.0 d [] (omega arith) in
    let there : get_or later (d + 1) [] ≡ row = get_or-set_same rows (d + 1) row [] lt in
    let wide : n ≤ length (get_or rows d []) = (let z = ap length here in let w = o.wide in omega arith) in
    let room : n < length (get_or later (d + 1) []) = (let z = ap length there in let w = c.open_cells.auto.inside in omega arith) in
    let first = (λ (around : List Cell). seen (cell_at around 0)) in
    let e = opens reach m t rows later d n c.args.item c.args.since (g.B.SelectingBook.marks c.args.ready.now.book (first (get_or rows d [])).level.state t) (omega arith) wide
    (λ j ne. get_or-set_other rows (d + 1) j row [] ne) room
    (λ k lt. ap (λ (r : List Cell). seen (cell_at r k)) there ∙ o.entered k lt ∙ ap (λ (r : List Cell). entered_seen reach m k t (seen (cell_at r k))) here)
    (ap (λ (r : List Cell). seen (cell_at r n)) there ∙ o.new
    ∙ ap (λ (r : List Cell). beside_seen c.args.item c.args.since (g.B.SelectingBook.marks c.args.ready.now.book (first r).level.state t) (entered_seen reach m 0 t (first r))) here) in
    let opened = subst (λ (r : List (List Cell)). (base_view r (d + 1) ≡ moved reach m (Open t) (base_view rows d))
    × (held_view r (d + 1) (n + 1) ≡ map (onward reach m (Open t)) (held_view rows d n) ++ (holding_new c.args.item c.args.since (marked reach (selecting m (g.B.SelectingBook.marks c.args.ready.now.book)) t (base_view rows d)) ∷ [])))
    (sym (split_set rows c.split_at_mut-outer.result.0.now c.split_at_mut-outer.result.1.now (d + 1) row s.value s.front_len lt)) e in
    record { depth = refl; count = refl; base = opened.0; held = opened.1 }

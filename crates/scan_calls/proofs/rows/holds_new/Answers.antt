use Rattle.std.proofs.Common.{◌≡◌, ℕ, Bool, ap, ◌∙◌}
use Rattle.book.specs.declared.event.Event.TheVariants.{Open}
use Rattle.book.specs.Machines.{Machine}
use Rattle.levels.specs.Sets.{machine_of, reach_of}
use Rattle.cells.specs.Cells.{Seen, seen, alone, entered_seen, beside_seen}
use Rattle.scan.specs.Model.{is_held}
use Rattle.scan_calls.proofs.rows.holds_new.Goals as goal

pub returns : goal.returns
returns g c = λ item since under.
    let m : Machine = machine_of c.args.ready.now in
    let reach : ℕ → ℕ → Bool = reach_of c.args.ready.now in
    let t : ℕ = c.args.tag in
    let first : Seen = seen c.args.base.now in
    let q : ℕ = g.B.SelectingBook.marks c.args.ready.now.book first.level.state t in
    let state-is : c.mark-state.result ≡ q = cc in
    let new_is : seen c.beside-new.result ≡ beside_seen 0 0 q (entered_seen reach m 0 t first) = c.beside-new.ensures ∙ (λ i. beside_seen 0 0 (state-is i) (c.entered.ensures i)) in
    c.is_held.ensures ∙ ap (λ (s : Seen). is_held m (Open t) (alone s)) new_is

use Rattle.std.proofs.Common.{◌≡◌, ℕ, suc, ◌+◌, Bool, false, List, map, length, sym, refl, ap, ◌∙◌, append-nil, arith}
use Rattle.std.proofs.lemmas.Result.{err_from_is_err_and}
use Rattle.book.specs.declared.event.Event.TheVariants.{End}
use Rattle.book.specs.declared.answer.Order.{Order}
use Rattle.book.specs.declared.answer.Refusal.{Refusal}
use Rattle.book.specs.Checks.{scan_lines}
use Rattle.book.specs.Machines.{Selecting}
use Rattle.scan.specs.Model.{Holding, Model, test, onward, pending}
use Rattle.scan_calls.specs.Scans.{stack, place_of, model_of, meaning_of, table_of}
use Rattle.scan_calls.specs.declared.scanning.Rows.{Rows}
use Rattle.scan_calls.specs.Rows.{base_of, held_of}
use Rattle.book.specs.Catalogue.{within, over, after}
use Rattle.scan_calls.proofs.Views.{stays, settled_here, settled_base}
use Rattle.scan_calls.proofs.Lines.{clear, going, none_open}
use Rattle.scan_calls.proofs.Accepted.{refused, accepted}
use Rattle.scan_calls.proofs.scanning.Scan.make_end.Goals as goal

pub returns-in_err-check_end : goal.returns-in_err-check_end
returns-in_err-check_end g c =
    let x = err_from_is_err_and c.from_residual.result c.from_residual.ensures.1 in
    rw (x.1, x.2) (refused End c.args.self.now c.args.orders.now _ c.in_err-check_end.ensures)

pub returns : goal.returns
returns g c =
    let s = c.args.self.now in
    let m : Selecting = meaning_of s in
    let reach : ℕ → ℕ → Bool = table_of s in
    let old : Model = model_of s in
    let os : List Order = c.args.orders.now in
    let p : Refusal → Bool = test reach m old (length os) End in
    let ok = c.in_ok-check_end.ensures in
    let free = clear p scan_lines (tt {0}) ok in
    let on : s.ended ≡ false = going s.ended _ free.1.0 in
    let k = c.settle-sent.ensures in
    let sent : ℕ = c.settle-sent.result in
    let rows : Rows = c.settle-sent.new.self in
    let later : List Order = c.settle-sent.new.orders in
    let event : ℕ = s.events + 1 in
    let number : event ≡ suc s.events = omega arith in
    let none : s.rows.depth ≡ 0 = none_open s.ended s.tags s.rows.depth on free.1.1.1.1.1.1.1.1.1.0 in
    let items : List Holding = held_of s.rows in
    let judged : items ≡ pending reach m old End = sym (append-nil (map (onward reach m.shape End) items) ∙ stays reach m.shape items) in
    let place : over ≡ after old.place End = ap (λ (d : ℕ). after (within (stack s.tags d)) End) (sym none) ∙ ap (λ (x : Bool). after (place_of x (stack s.tags s.rows.depth)) End) (sym on) in
    let settled = settled_here s.rows rows k.depth m.shape End event os later sent k.settled in
    let base : base_of rows ≡ old.base = settled_base s.rows rows k.depth k.only k.base in
    accepted End s os _ _ later event sent items c.accept.ensures.scan refl number judged settled place refl refl base c.accept.result c.accept.ensures.answer ok

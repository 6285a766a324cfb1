use Rattle.std.proofs.Common.{◌≡◌, ℕ, suc, ◌+◌, ◌-◌, ◌≤◌, Bool, false, cond, List, map, length, get_or, sym, refl, ap, ◌∙◌, append-nil, arith}
use Rattle.std.proofs.lemmas.Result.{err_from_is_err_and}
use Rattle.book.specs.declared.event.Event.TheVariants.{Close}
use Rattle.book.specs.declared.answer.Order.{Order}
use Rattle.book.specs.declared.answer.Refusal.{Refusal}
use Rattle.book.specs.Checks.{scan_lines}
use Rattle.book.specs.Machines.{Selecting}
use Rattle.scan.specs.Model.{Holding, Model, test, onward, pending}
use Rattle.scan_calls.specs.Scans.{stack, place_of, model_of, meaning_of, table_of}
use Rattle.scan_calls.specs.declared.scanning.Rows.{Rows}
use Rattle.scan_calls.specs.Rows.{held_of}
use Rattle.book.specs.Catalogue.{within, broken, after}
use Rattle.std.proofs.lemmas.Bool.{eq-eqb}
use Rattle.scan_calls.proofs.Lines.{clear, going, some_open, top_is, stack_more}
use Rattle.scan_calls.proofs.Accepted.{refused, accepted}
use Rattle.scan_calls.proofs.scanning.Scan.make_close.Goals as goal

pub returns-in_err-check_close : goal.returns-in_err-check_close
returns-in_err-check_close g c =
    let x = err_from_is_err_and c.from_residual.result c.from_residual.ensures.1 in
    rw (x.1, x.2) (refused (Close c.args.tag) c.args.self.now c.args.orders.now _ c.in_err-check_close.ensures)

pub returns : goal.returns
returns g c =
    let s = c.args.self.now in
    let t : ℕ = c.args.tag in
    let m : Selecting = meaning_of s in
    let reach : ℕ → ℕ → Bool = table_of s in
    let old : Model = model_of s in
    let os : List Order = c.args.orders.now in
    let p : Refusal → Bool = test reach m old (length os) (Close t) in
    let ok = c.in_ok-check_close.ensures in
    let free = clear p scan_lines (tt {0}) ok in
    let on : s.ended ≡ false = going s.ended _ free.1.0 in
    let k = c.close-sent.ensures in
    let sent : ℕ = c.close-sent.result in
    let rows : Rows = c.close-sent.new.self in
    let later : List Order = c.close-sent.new.orders in
    let event : ℕ = s.events + 1 in
    let number : event ≡ suc s.events = omega arith in
    let some : 1 ≤ s.rows.depth = some_open s.ended s.tags s.rows.depth on free.1.1.1.1.1.1.1.0 in
    let top = top_is s.ended s.tags s.rows.depth on t some free.1.1.1.1.1.1.1.1.0 in
    let d : ℕ = s.rows.depth - 1 in
    let items : List Holding = map (onward reach m.shape (Close t)) (held_of s.rows) in
    let judged : items ≡ pending reach m old (Close t) = sym (append-nil items) in
    let place : place_of s.ended (stack s.tags rows.depth) ≡ after old.place (Close t) =
    ap (λ (k : ℕ). place_of s.ended (stack s.tags k)) k.depth
    ∙ ap (λ (x : Bool). place_of x (stack s.tags d)) on
    ∙ ap (λ (x : Bool). cond x (within (stack s.tags d)) broken) (sym (eq-eqb (get_or s.tags d 0) t top))
    ∙ ap (λ (us : List ℕ). after (within us) (Close t)) (sym (stack_more s.tags s.rows.depth some))
    ∙ ap (λ (x : Bool). after (place_of x (stack s.tags s.rows.depth)) (Close t)) (sym on) in
    accepted (Close t) s os _ _ later event sent items c.accept.ensures.scan refl number judged k.settled place refl refl k.base c.accept.result c.accept.ensures.answer ok

use Rattle.std.proofs.Common.{◌≡◌, ℕ, suc, ◌+◌, ◌<◌, ◌≤◌, Bool, false, cond, List, [], ◌∷◌, ◌++◌, map, length, set, sym, refl, ap, ◌∙◌, arith, get_or-set_same}
use Rattle.std.proofs.lemmas.Result.{err_from_is_err_and}
use Rattle.book.specs.declared.event.Event.TheVariants.{Open}
use Rattle.book.specs.declared.answer.Order.{Order}
use Rattle.book.specs.declared.answer.Refusal.{Refusal}
use Rattle.book.specs.Checks.{scan_lines}
use Rattle.book.specs.Machines.{Selecting}
use Rattle.scan.specs.Model.{Holding, Model, test, onward, pending}
use Rattle.scan_calls.specs.Scans.{stack, place_of, model_of, meaning_of, table_of}
use Rattle.scan_calls.proofs.Views.{settled_here, settled_base}
use Rattle.scan_calls.specs.declared.scanning.Rows.{Rows}
use Rattle.scan_calls.specs.Rows.{base_of, held_of, holding_new}
use Rattle.book.specs.Limits.{tags}
use Rattle.book.specs.Catalogue.{within, broken, after}
use Rattle.scan.specs.Tracks.{moved, marked}
use Rattle.std.proofs.lemmas.Bool.{leb-false, lt-ltb}
use Rattle.scan_calls.proofs.Lines.{clear, going, stack_set}
use Rattle.scan_calls.proofs.Accepted.{refused, accepted}
use Rattle.scan_calls.proofs.scanning.Scan.make_open.Goals as goal

pub returns-in_err-check_open : goal.returns-in_err-check_open
returns-in_err-check_open g c =
    let x = err_from_is_err_and c.from_residual.result c.from_residual.ensures.1 in
    rw (x.1, x.2) (refused (Open c.args.tag) c.args.self.now c.args.orders.now _ c.in_err-check_open.ensures)

pub returns : goal.returns
returns g c =
    let s = c.args.self.now in
    let t : ℕ = c.args.tag in
    let m : Selecting = meaning_of s in
    let reach : ℕ → ℕ → Bool = table_of s in
    let old : Model = model_of s in
    let os : List Order = c.args.orders.now in
    let p : Refusal → Bool = test reach m old (length os) (Open t) in
    let ok = c.in_ok-check_open.ensures in
    let free = clear p scan_lines (tt {0}) ok in
    let on : s.ended ≡ false = going s.ended _ free.1.0 in
    let k = c.settle-sent.ensures in
    let sent : ℕ = c.settle-sent.result in
    let mid : Rows = c.open.new.self in
    let rows : Rows = c.settle-sent.new.self in
    let later : List Order = c.settle-sent.new.orders in
    let event : ℕ = s.events + 1 in
    let number : event ≡ suc s.events = omega arith in
    let o = c.open.ensures in
    let d : ℕ = s.rows.depth in
    let small : t < tags = (let z = leb-false tags t free.1.1.1.0 in omega arith) in
    let room : d < length s.tags = omega arith in
    let up : d + 1 ≡ suc d = omega arith in
    let more : s.opened + 1 ≡ suc s.opened = omega arith in
    let items : List Holding = held_of mid in
    let judged : items ≡ pending reach m old (Open t) = o.held
    ∙ (λ i. map (onward reach m.shape (Open t)) (held_of s.rows) ++ (holding_new (more i) (number i) (marked reach m t (base_of s.rows)) ∷ [])) in
    let same : d ≤ d = omega arith in
    let place : place_of s.ended (stack (set s.tags d t) rows.depth) ≡ after old.place (Open t) =
    ap (λ (x : Bool). place_of x (stack (set s.tags d t) rows.depth)) on
    ∙ ap (λ (j : ℕ). within (stack (set s.tags d t) j)) (k.depth ∙ o.depth ∙ up)
    ∙ (λ i. within (get_or-set_same s.tags d t 0 room i ∷ stack_set s.tags d t d same i))
    ∙ ap (λ (x : Bool). cond x (within (t ∷ stack s.tags d)) broken) (sym (lt-ltb t tags small))
    ∙ ap (λ (x : Bool). after (place_of x (stack s.tags d)) (Open t)) (sym on) in
    let settled = settled_here mid rows k.depth m.shape (Open t) event os later sent k.settled in
    let base : base_of rows ≡ moved reach m.shape (Open t) old.base = settled_base mid rows k.depth k.only k.base ∙ o.base in
    accepted (Open t) s os _ _ later event sent items c.accept.ensures.scan refl number judged settled place more refl base c.accept.result c.accept.ensures.answer ok

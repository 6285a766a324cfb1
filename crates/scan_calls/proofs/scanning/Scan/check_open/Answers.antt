use Rattle.std.proofs.Common.{◌≡◌, ℕ, ◌<◌, ◌≤◌, false, leb, sym, refl, arith}
use Rattle.std.proofs.lemmas.Result.{err_from_is_err_and}
use Rattle.std.proofs.lemmas.Bool.{le-leb, lt-leb}
use Rattle.book.specs.declared.event.Event.TheVariants.{Open}
use Rattle.book.specs.Limits.{tags, most_open, most_items}
use Rattle.scan_calls.proofs.Lines.{hit, pass, behind_first, among_first, goes_on, deep_yes, deep_no}
use Rattle.scan_calls.proofs.scanning.Scan.check_open.Goals as goal

pub returns-in_err-check_call : goal.returns-in_err-check_call
returns-in_err-check_call g c =
    let x = err_from_is_err_and c.from_residual.result c.from_residual.ensures.1 in
    rw (x.1, x.2) (among_first c.args.self.now c.args.room (Open c.args.tag) _ (c.in_err-check_call.ensures (Open c.args.tag)))

pub returns-then-tag-ge-TAGS : goal.returns-then-tag-ge-TAGS
returns-then-tag-ge-TAGS g c =
    let s = c.args.self.now in
    let t : ℕ = c.args.tag in
    let first = c.in_ok-check_call.ensures (Open t) in
    let on : s.ended ≡ false = goes_on s c.args.room (Open t) first in
    let big : tags ≤ t = omega arith in
    behind_first s c.args.room (Open t) first _ (hit (leb tags t) _ _ (le-leb tags t big))

pub returns-then-self-ge-DEPTH : goal.returns-then-self-ge-DEPTH
returns-then-self-ge-DEPTH g c =
    let s = c.args.self.now in
    let t : ℕ = c.args.tag in
    let first = c.in_ok-check_call.ensures (Open t) in
    let on : s.ended ≡ false = goes_on s c.args.room (Open t) first in
    let small : t < tags = omega arith in
    let deep : most_open ≤ s.rows.depth = omega arith in
    behind_first s c.args.room (Open t) first _
    (pass (leb tags t) _ _ _ (lt-leb tags t small)
    (hit _ _ _ (deep_yes s.ended s.tags s.rows.depth on deep)))

pub returns-then-self-ge-MOST_ITEMS : goal.returns-then-self-ge-MOST_ITEMS
returns-then-self-ge-MOST_ITEMS g c =
    let s = c.args.self.now in
    let t : ℕ = c.args.tag in
    let first = c.in_ok-check_call.ensures (Open t) in
    let on : s.ended ≡ false = goes_on s c.args.room (Open t) first in
    let small : t < tags = omega arith in
    let shallow : s.rows.depth < most_open = omega arith in
    let many : most_items ≤ s.opened = omega arith in
    behind_first s c.args.room (Open t) first _
    (pass (leb tags t) _ _ _ (lt-leb tags t small)
    (pass _ _ _ _ (deep_no s.ended s.tags s.rows.depth on shallow)
    (hit (leb most_items s.opened) _ _ (le-leb most_items s.opened many))))

pub returns-then-would_overfill : goal.returns-then-would_overfill
returns-then-would_overfill g c =
    let s = c.args.self.now in
    let t : ℕ = c.args.tag in
    let first = c.in_ok-check_call.ensures (Open t) in
    let on : s.ended ≡ false = goes_on s c.args.room (Open t) first in
    let small : t < tags = omega arith in
    let shallow : s.rows.depth < most_open = omega arith in
    let few : s.opened < most_items = omega arith in
    behind_first s c.args.room (Open t) first _
    (pass (leb tags t) _ _ _ (lt-leb tags t small)
    (pass _ _ _ _ (deep_no s.ended s.tags s.rows.depth on shallow)
    (pass (leb most_items s.opened) _ _ _ (lt-leb most_items s.opened few)
    (hit _ _ _ (sym c.if-would_overfill.ensures)))))

pub returns : goal.returns
returns g c =
    let s = c.args.self.now in
    let t : ℕ = c.args.tag in
    let first = c.in_ok-check_call.ensures (Open t) in
    let on : s.ended ≡ false = goes_on s c.args.room (Open t) first in
    let small : t < tags = omega arith in
    let shallow : s.rows.depth < most_open = omega arith in
    let few : s.opened < most_items = omega arith in
    behind_first s c.args.room (Open t) first _
    (pass (leb tags t) _ _ _ (lt-leb tags t small)
    (pass _ _ _ _ (deep_no s.ended s.tags s.rows.depth on shallow)
    (pass (leb most_items s.opened) _ _ _ (lt-leb most_items s.opened few)
    (pass _ _ _ _ (sym c.if-would_overfill.ensures) refl))))

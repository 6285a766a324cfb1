use Rattle.std.proofs.Common.{◌≡◌, ◌-◌, ◌≤◌, false, not, get_or, refl, ap, ◌∙◌, arith}
use Rattle.std.proofs.lemmas.Result.{err_from_is_err_and}
use Rattle.std.proofs.lemmas.Bool.{ne_eqb, eq-eqb}
use Rattle.book.specs.declared.event.Event.TheVariants.{Close}
use Rattle.scan_calls.proofs.Lines.{hit, pass, behind_first, among_first, goes_on, bare_yes, bare_no, other_is}
use Rattle.scan_calls.proofs.scanning.Scan.check_close.Goals as goal

pub returns-in_err-check_call : goal.returns-in_err-check_call
returns-in_err-check_call g c =
    let x = err_from_is_err_and c.from_residual.result c.from_residual.ensures.1 in
    rw (x.1, x.2) (among_first c.args.self.now c.args.room (Close c.args.tag) _ (c.in_err-check_call.ensures (Close c.args.tag)))

pub returns-then-self-eq0 : goal.returns-then-self-eq0
returns-then-self-eq0 g c =
    let s = c.args.self.now in
    let first = c.in_ok-check_call.ensures (Close c.args.tag) in
    let on : s.ended ≡ false = goes_on s c.args.room (Close c.args.tag) first in
    behind_first s c.args.room (Close c.args.tag) first _ (hit _ _ _ (bare_yes s.ended s.tags s.rows.depth on (omega arith)))

pub returns-then-self-tag : goal.returns-then-self-tag
returns-then-self-tag g c =
    let s = c.args.self.now in
    let first = c.in_ok-check_call.ensures (Close c.args.tag) in
    let on : s.ended ≡ false = goes_on s c.args.room (Close c.args.tag) first in
    let some : 1 ≤ s.rows.depth = omega arith in
    behind_first s c.args.room (Close c.args.tag) first _ (pass _ _ _ _ (bare_no s.ended s.tags s.rows.depth on some)
    (hit _ _ _ (other_is s.ended s.tags s.rows.depth on c.args.tag some ∙ ap not (ne_eqb (get_or s.tags (s.rows.depth - 1) 0) c.args.tag c.if-self-tag.true))))

pub returns : goal.returns
returns g c =
    let s = c.args.self.now in
    let first = c.in_ok-check_call.ensures (Close c.args.tag) in
    let on : s.ended ≡ false = goes_on s c.args.room (Close c.args.tag) first in
    let some : 1 ≤ s.rows.depth = omega arith in
    behind_first s c.args.room (Close c.args.tag) first _ (pass _ _ _ _ (bare_no s.ended s.tags s.rows.depth on some)
    (pass _ _ _ _ (other_is s.ended s.tags s.rows.depth on c.args.tag some ∙ ap not (eq-eqb (get_or s.tags (s.rows.depth - 1) 0) c.args.tag c.if-self-tag.false)) refl))

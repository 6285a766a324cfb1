use Rattle.std.proofs.Common.{◌≡◌, ◌≤◌, false, refl, arith}
use Rattle.std.proofs.lemmas.Result.{err_from_is_err_and}
use Rattle.book.specs.declared.event.Event.TheVariants.{End}
use Rattle.scan_calls.proofs.Lines.{hit, pass, behind_first, among_first, goes_on, open_yes, open_no}
use Rattle.scan_calls.proofs.scanning.Scan.check_end.Goals as goal

pub returns-in_err-check_call : goal.returns-in_err-check_call
returns-in_err-check_call g c =
    let x = err_from_is_err_and c.from_residual.result c.from_residual.ensures.1 in
    rw (x.1, x.2) (among_first c.args.self.now c.args.room End _ (c.in_err-check_call.ensures End))

pub returns-then-self-ne0 : goal.returns-then-self-ne0
returns-then-self-ne0 g c =
    let s = c.args.self.now in
    let first = c.in_ok-check_call.ensures End in
    let on : s.ended ≡ false = goes_on s c.args.room End first in
    behind_first s c.args.room End first _ (hit _ _ _ (open_yes s.ended s.tags s.rows.depth on (let some : 1 ≤ s.rows.depth = omega arith in some)))

pub returns : goal.returns
returns g c =
    let s = c.args.self.now in
    let first = c.in_ok-check_call.ensures End in
    let on : s.ended ≡ false = goes_on s c.args.room End first in
    behind_first s c.args.room End first _ (pass _ _ _ _ (open_no s.ended s.tags s.rows.depth on (omega arith)) refl)

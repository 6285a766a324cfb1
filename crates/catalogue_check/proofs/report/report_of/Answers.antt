use Rattle.std.proofs.Common.{rules, ◌≡◌, ◌++◌, length, vec_items, ap}
use Rattle.catalogue_check.proofs.Written.{report_shown}
use Rattle.catalogue_check.proofs.report.report_of.Goals as goal
use Rattle.catalogue_check.specs.Lines.{last_line, token_lines}
use Rattle.markup.proofs.OneReading.{one_reading}
use Rattle.markup.specs.Reading.{Reading}
use Rattle.markup.specs.Whole.{ending}

pub returns : goal.returns
returns c =
    let whole = c.in_ok-whole.whole in
    let count = c.len.result in
    let shown = c.in_ok-whole.ensures in
    let r = (one_reading c.args.text.now _).0 shown.2 in
    let counted : count ≡ length (vec_items whole.tags) = search rules in
    let printed : vec_items c.into_bytes.result ≡ token_lines 0 (vec_items whole.tags) ++ last_line count (ending whole.fault) = search rules in
    (report_shown c.args.text.now shown.0 _ _ count _ shown.1 r counted printed, ap (λ (z : Reading). z.ended) r)

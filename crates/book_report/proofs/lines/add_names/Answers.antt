use Rattle.std.proofs.Common.{◌+◌, ◌-◌, arith}
use Rattle.book_file.specs.Names.{listed, name_of}
use Rattle.book_report.specs.Lines.{name_line}
use Rattle.book_report.proofs.Printed.{one_more}
use Rattle.book_report.proofs.lines.add_names.Goals as goal

pub loop-tag-preserved : goal.loop-tag-preserved
loop-tag-preserved c =
    let tag = c.loop-tag.tag in
    one_more _ _ _ (λ t. name_line t (name_of (listed c.args.names.now) t)) 1 (tag - 1) (tag + 1 - 1) tag (omega arith) (omega arith) c.loop-tag.invariant c.in_ok-add_name.ensures

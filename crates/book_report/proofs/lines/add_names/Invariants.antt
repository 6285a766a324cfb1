use Rattle.book_file.specs.Names.{listed}
use Rattle.book_report.proofs.lines.add_names.Given as goal
use Rattle.book_report.specs.Lines.{name_lines}
use Rattle.std.proofs.Common.{◌≡◌, ◌++◌}

abbrev pub invariant-loop-tag : goal.invariant-loop-tag
invariant-loop-tag l = l.page ≡ l.initial.page ++ name_lines l.tag (listed l.names)

use Rattle.book.specs.Limits.{most_states}
use Rattle.ready.proofs.RowLaws.{lies_none}
use Rattle.ready.proofs.table.Table.empty.Goals as goal

pub returns : goal.returns
returns c = lies_none most_states c.empty.result c.empty.ensures.none

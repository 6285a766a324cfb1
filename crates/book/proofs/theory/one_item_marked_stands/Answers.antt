use Rattle.book.proofs.Steps.{one_item_marked}
use Rattle.book.proofs.theory.one_item_marked_stands.Goals as goal

pub returns : goal.returns
returns c = one_item_marked

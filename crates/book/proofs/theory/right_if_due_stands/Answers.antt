use Rattle.book.proofs.Earliest.{right_if_due}
use Rattle.book.proofs.theory.right_if_due_stands.Goals as goal

pub returns : goal.returns
returns c = right_if_due

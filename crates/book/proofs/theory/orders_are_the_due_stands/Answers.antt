use Rattle.book.proofs.Runs.{orders_are_the_due}
use Rattle.book.proofs.theory.orders_are_the_due_stands.Goals as goal

pub returns : goal.returns
returns c = orders_are_the_due

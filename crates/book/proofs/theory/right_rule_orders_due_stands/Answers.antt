use Rattle.book.proofs.Earliest.{right_rule_orders_due}
use Rattle.book.proofs.theory.right_rule_orders_due_stands.Goals as goal

pub returns : goal.returns
returns c = right_rule_orders_due

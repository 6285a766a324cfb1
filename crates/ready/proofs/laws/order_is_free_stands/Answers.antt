use Rattle.ready.proofs.Lawful.{order_is_free}
use Rattle.ready.proofs.laws.order_is_free_stands.Goals as goal

pub returns : goal.returns
returns c = order_is_free

use Rattle.ready.proofs.Lawful.{items_decided}
use Rattle.ready.proofs.laws.items_decided_stands.Goals as goal

pub returns : goal.returns
returns c = items_decided

use Rattle.ready.proofs.Lawful.{table_exists}
use Rattle.ready.proofs.laws.table_exists_stands.Goals as goal

pub returns : goal.returns
returns c = table_exists

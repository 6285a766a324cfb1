use Rattle.ready.proofs.Lawful.{verdicts_exist}
use Rattle.ready.proofs.laws.verdicts_exist_stands.Goals as goal

pub returns : goal.returns
returns c = verdicts_exist

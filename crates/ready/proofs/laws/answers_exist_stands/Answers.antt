use Rattle.ready.proofs.Lawful.{answers_exist}
use Rattle.ready.proofs.laws.answers_exist_stands.Goals as goal

pub returns : goal.returns
returns c = answers_exist

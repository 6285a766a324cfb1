use Rattle.ready.proofs.Lawful.{tests_exist}
use Rattle.ready.proofs.laws.tests_exist_stands.Goals as goal

pub returns : goal.returns
returns c = tests_exist

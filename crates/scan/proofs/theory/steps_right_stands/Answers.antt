use Rattle.scan.proofs.Standing.{steps_right}
use Rattle.scan.proofs.theory.steps_right_stands.Goals as goal

pub returns : goal.returns
returns c = steps_right

use Rattle.scan.proofs.Standing.{begins_right}
use Rattle.scan.proofs.theory.begins_right_stands.Goals as goal

pub returns : goal.returns
returns c = begins_right

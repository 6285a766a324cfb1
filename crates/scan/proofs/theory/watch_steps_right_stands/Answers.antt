use Rattle.scan.proofs.Watching.{watch_steps_right}
use Rattle.scan.proofs.theory.watch_steps_right_stands.Goals as goal

pub returns : goal.returns
returns c = watch_steps_right

use Rattle.scan.proofs.Watching.{watch_begins_right}
use Rattle.scan.proofs.theory.watch_begins_right_stands.Goals as goal

pub returns : goal.returns
returns c = watch_begins_right

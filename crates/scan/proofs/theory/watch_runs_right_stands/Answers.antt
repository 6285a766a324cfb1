use Rattle.scan.proofs.Runs.{watch_runs_right}
use Rattle.scan.proofs.theory.watch_runs_right_stands.Goals as goal

pub returns : goal.returns
returns c = watch_runs_right

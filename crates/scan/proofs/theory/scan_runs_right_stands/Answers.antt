use Rattle.scan.proofs.Runs.{scan_runs_right}
use Rattle.scan.proofs.theory.scan_runs_right_stands.Goals as goal

pub returns : goal.returns
returns c = scan_runs_right

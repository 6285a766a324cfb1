use Rattle.book.proofs.Watch.{verdicts_of_runs}
use Rattle.book.proofs.theory.verdicts_of_runs_stands.Goals as goal

pub returns : goal.returns
returns c = verdicts_of_runs

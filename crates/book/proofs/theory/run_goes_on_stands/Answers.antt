use Rattle.book.proofs.Steps.{run_begins, run_goes_on}
use Rattle.book.proofs.theory.run_goes_on_stands.Goals as goal

pub returns : goal.returns
returns c = record { begins = run_begins; goes = run_goes_on }

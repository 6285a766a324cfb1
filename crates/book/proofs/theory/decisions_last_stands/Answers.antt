use Rattle.book.proofs.Earliest.{decisions_last}
use Rattle.book.proofs.theory.decisions_last_stands.Goals as goal

pub returns : goal.returns
returns c = decisions_last

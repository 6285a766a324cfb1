use Rattle.book.proofs.Totals.{totals_are_true}
use Rattle.book.proofs.theory.totals_are_true_stands.Goals as goal

pub returns : goal.returns
returns c = totals_are_true

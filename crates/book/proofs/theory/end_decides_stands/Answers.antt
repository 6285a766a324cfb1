use Rattle.book.proofs.Earliest.{end_decides}
use Rattle.book.proofs.theory.end_decides_stands.Goals as goal

pub returns : goal.returns
returns c = end_decides

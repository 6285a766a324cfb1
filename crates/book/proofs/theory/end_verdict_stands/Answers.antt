use Rattle.book.proofs.Watch.{end_verdict}
use Rattle.book.proofs.theory.end_verdict_stands.Goals as goal

pub returns : goal.returns
returns c = end_verdict

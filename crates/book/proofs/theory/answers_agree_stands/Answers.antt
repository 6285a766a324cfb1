use Rattle.book.proofs.Runs.{answers_agree}
use Rattle.book.proofs.theory.answers_agree_stands.Goals as goal

pub returns : goal.returns
returns c = answers_agree

use Rattle.book.proofs.Watch.{watch_answers_agree}
use Rattle.book.proofs.theory.watch_answers_agree_stands.Goals as goal

pub returns : goal.returns
returns c = watch_answers_agree

use Rattle.book.proofs.Watch.{some_watch_answer}
use Rattle.book.proofs.theory.some_watch_answer_stands.Goals as goal

pub returns : goal.returns
returns c = some_watch_answer

use Rattle.book.proofs.SomeAnswer.{some_answer}
use Rattle.book.proofs.theory.some_answer_stands.Goals as goal

pub returns : goal.returns
returns c = some_answer

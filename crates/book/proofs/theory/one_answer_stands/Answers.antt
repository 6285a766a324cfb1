use Rattle.book.proofs.OneAnswer.{one_answer, one_run}
use Rattle.book.proofs.theory.one_answer_stands.Goals as goal

pub returns : goal.returns
returns c = record { call = one_answer; run = one_run }

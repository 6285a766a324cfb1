use Rattle.book.proofs.Exact.{shown_is_enough}
use Rattle.book.proofs.theory.shown_is_enough_stands.Goals as goal

pub returns : goal.returns
returns c = shown_is_enough

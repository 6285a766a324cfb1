use Rattle.book.proofs.Records.{none_is_earlier}
use Rattle.book.proofs.theory.none_is_earlier_stands.Goals as goal

pub returns : goal.returns
returns c = none_is_earlier

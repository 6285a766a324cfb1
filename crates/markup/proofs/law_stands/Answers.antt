-- What is left to show of `law_stands` in src/lib.rt.
use Rattle.markup.proofs.OneReading.{one_reading}
use Rattle.markup.proofs.law_stands.Goals as goal

pub returns : goal.returns
returns c = one_reading

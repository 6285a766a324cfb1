use Rattle.book.proofs.Records.{records_rise}
use Rattle.book.proofs.theory.records_rise_stands.Goals as goal

pub returns : goal.returns
returns c = records_rise

-- What is left to show of `new` in src/next_token.rt.
use Rattle.markup.proofs.OneReading.{reads}
use Rattle.markup.proofs.reader.Reader.new.Goals as goal
use Rattle.std.proofs.Common.{refl}

pub returns : goal.returns
returns c = record { text = refl; whole = refl; law = reads c.args.text.now }

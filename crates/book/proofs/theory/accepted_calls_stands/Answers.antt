use Rattle.book.proofs.Acceptance.{accepted_calls, accepted_watch_calls}
use Rattle.book.proofs.theory.accepted_calls_stands.Goals as goal

pub returns : goal.returns
returns c = record { scan = accepted_calls; watch = accepted_watch_calls }

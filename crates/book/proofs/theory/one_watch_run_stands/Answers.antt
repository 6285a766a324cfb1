use Rattle.book.proofs.Watch.{one_watch_run}
use Rattle.book.proofs.theory.one_watch_run_stands.Goals as goal

pub returns : goal.returns
returns c = one_watch_run

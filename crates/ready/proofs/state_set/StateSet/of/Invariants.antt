use Rattle.ready.proofs.Members.{Filled}
use Rattle.ready.proofs.state_set.StateSet.of.Given as goal

abbrev pub invariant-loop-state : goal.invariant-loop-state
invariant-loop-state g l = Filled l.found.words l.state (λ q r. goal.F-post g l.test q r)

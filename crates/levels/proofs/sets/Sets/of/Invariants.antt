use Rattle.levels.specs.Sets.{Filled}
use Rattle.levels.proofs.sets.Sets.of.Given as goal

-- the sets of the states asked about so far
abbrev pub invariant-loop-state : goal.invariant-loop-state
invariant-loop-state g l = Filled l.state (goal.F-post g l.belongs) l.found

-- The loop of `unescaped` in src/escapes.rt: what falls with each turn.
use Rattle.std.proofs.Common.{length}
use Rattle.markup_cases.proofs.escapes.unescaped.Given as goal

abbrev pub decreases-loop-b : goal.decreases-loop-b
decreases-loop-b l = length l.rest

use Rattle.std.proofs.Common.{◌≡◌, map, length, take, drop}
use Rattle.book.specs.Limits.{most_steps}
use Rattle.kinds.specs.Path.{step_of, steps_right}
use Rattle.kinds.proofs.path.Row.of.Given as goal

-- the steps so far are right, and their meanings stand in the row
abbrev pub invariant-loop-place : goal.invariant-loop-place
invariant-loop-place l = record {
  whole : length l.steps ≡ most_steps;
  right : steps_right l.given ≡ steps_right (drop l.place l.given);
  meant : take l.place l.steps ≡ map step_of (take l.place l.given);
}

use Rattle.std.proofs.Common.{◌-◌, ◌≤◌, ℕ, ◌<◌, true, get_or}
use Rattle.markup.proofs.cursor.Cursor.skip_up_to.Given as goal
use Rattle.markup.specs.contracts.cursor.Cursor.skip_up_to.F-Fn as bound

-- The place goes on past bytes that fit.
abbrev pub invariant-loop-place : goal.invariant-loop-place
invariant-loop-place g l = record {
  onward : l.fn.self.place ≤ l.place;
  within : l.place ≤ l.end;
  fit : (k : ℕ) → l.fn.self.place ≤ k → k < l.place → (bound.words g.row.F g.F.Fn).post l.fits (get_or l.fn.self.text.now k 0) true;
}

abbrev pub decreases-loop-place : goal.decreases-loop-place
decreases-loop-place g l = l.end - l.place

-- The loop of `attributes` in src/attribute.rt: what it keeps, and what falls with each turn.
use Rattle.std.proofs.Common.{ℕ, ◌-◌, length}
use Rattle.markup.specs.Reading.{valued}
use Rattle.markup.specs.Parts.{Goes}
use Rattle.markup.proofs.cursor.Cursor.attributes.Given as goal

abbrev pub invariant-loop-b : goal.invariant-loop-b
invariant-loop-b l = (at k : ℕ) → Goes l.initial.self (valued at k) l.self (valued at k)

abbrev pub decreases-loop-b : goal.decreases-loop-b
decreases-loop-b l = length l.self.text.now - l.self.place

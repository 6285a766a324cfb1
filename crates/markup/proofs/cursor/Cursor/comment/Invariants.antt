-- The loop of `comment` in src/comment.rt: what it keeps, and what falls with each turn.
use Rattle.std.proofs.Common.{◌-◌, length}
use Rattle.markup.specs.Reading.{in_comment}
use Rattle.markup.specs.Parts.{Goes}
use Rattle.markup.proofs.cursor.Cursor.comment.Given as goal

abbrev pub invariant-loop-self : goal.invariant-loop-self
invariant-loop-self l = Goes l.initial.self in_comment l.self in_comment

abbrev pub decreases-loop-self : goal.decreases-loop-self
decreases-loop-self l = length l.self.text.now - l.self.place

-- The loop of `next_tag` in src/tag.rt: what it keeps, and what falls with each turn.
use Rattle.std.proofs.Common.{◌-◌, length}
use Rattle.markup.specs.Reading.{in_text}
use Rattle.markup.specs.Parts.{Goes}
use Rattle.markup.proofs.cursor.Cursor.next_tag.Given as goal

abbrev pub invariant-loop-at : goal.invariant-loop-at
invariant-loop-at l = Goes l.initial.self in_text l.self in_text

abbrev pub decreases-loop-at : goal.decreases-loop-at
decreases-loop-at l = length l.self.text.now - l.self.place

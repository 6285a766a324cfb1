-- The loop of `content` in src/content.rt: what it keeps, and what falls with each turn.
use Rattle.std.proofs.Common.{◌≡◌, ◌-◌, length}
use Rattle.markup.specs.Reading.{Where, stop_of, in_content}
use Rattle.markup.specs.Parts.{Goes}
use Rattle.markup.proofs.cursor.Cursor.content.Given as goal

abbrev pub invariant-loop-stop : goal.invariant-loop-stop
invariant-loop-stop l = (w : Where) → stop_of w ≡ l.stop → Goes l.initial.self (in_content w) l.self (in_content w)

abbrev pub decreases-loop-stop : goal.decreases-loop-stop
decreases-loop-stop l = length l.self.text.now - l.self.place

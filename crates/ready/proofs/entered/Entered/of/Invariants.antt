use Rattle.std.proofs.Common.{◌≡◌, ℕ, ◌<◌, [], length, slice_index, slice_index_or}
use Rattle.book.specs.Limits.{most_states, tags}
use Rattle.ready.proofs.entered.Entered.of.Given as goal

abbrev pub invariant-loop-state : goal.invariant-loop-state
invariant-loop-state g l =
    (length l.states ≡ most_states)
    × ((q : ℕ) → q < l.state-counter → (t : ℕ) → t < tags → slice_index (slice_index_or l.states q []) t ≡ (g.B.ShapeBook.machine l.book).enter q t)

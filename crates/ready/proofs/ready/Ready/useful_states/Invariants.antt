use Rattle.std.proofs.Common.{◌≡◌, ℕ, ◌<◌, true}
use Rattle.ready.specs.Sets.{has}
use Rattle.ready.specs.Dead.{Useful}
use Rattle.ready.proofs.Counts.{lack}
use Rattle.ready.proofs.ready.Ready.useful_states.Given as goal

abbrev pub invariant-loop-before : goal.invariant-loop-before
invariant-loop-before g l =
    let m = g.B.ShapeBook.machine l.self.book in
    (q : ℕ) → has l.useful.words q ≡ true → (q < m.width) × Useful m q

abbrev pub decreases-loop-before : goal.decreases-loop-before
decreases-loop-before g l = lack (has l.useful.words) (g.B.ShapeBook.machine l.self.book).width

use Rattle.std.proofs.Common.{◌-◌, ◌≤◌, length, take}
use Rattle.std.specs.Io.KnownBytes.{Consumes}
use Rattle.book_check.proofs.fill.Given as goal

abbrev pub invariant-reads : goal.invariant-reads
invariant-reads g l = (l.have ≤ length l.buf) × Consumes (g.R.Read.remaining l.initial.from) (g.R.Read.remaining l.from) (take l.have l.buf)

abbrev pub decreases-reads : goal.decreases-reads
decreases-reads g l = length l.buf - l.have

use Rattle.book_report.proofs.states.StatesDisplay.fmt.Given as goal
use Rattle.book_report.specs.Reach.{state_words}
use Rattle.std.proofs.Common.{take}
use Rattle.std.specs.Fmt.{HasWritten, IsPlainFormatter}

abbrev pub invariant-loop-state : goal.invariant-loop-state
invariant-loop-state g l =
    IsPlainFormatter l.initial.f → HasWritten g.W.Write.write_str_gives l.initial.f (state_words (take l.state-index l.state-items)) l.f

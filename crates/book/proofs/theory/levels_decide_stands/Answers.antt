use Rattle.book.proofs.Levels.{levels_decide_selected, levels_decide_accepted}
use Rattle.book.proofs.theory.levels_decide_stands.Goals as goal

pub returns : goal.returns
returns c = record { selected = levels_decide_selected; accepted = levels_decide_accepted }

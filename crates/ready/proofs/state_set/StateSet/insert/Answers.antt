use Rattle.std.proofs.Common.{◌&&◌, ◌||◌, eqb, ap, ◌∙◌, sym, arith}
use Rattle.std.proofs.lemmas.Bool.{lt-ltb}
use Rattle.book.specs.Limits.{most_states}
use Rattle.ready.specs.Sets.{has}
use Rattle.ready.proofs.BitLaws.{has_insert}
use Rattle.ready.proofs.state_set.StateSet.insert.Goals as goal

pub returns-then-state-lt-MOST_STATES : goal.returns-then-state-lt-MOST_STATES
returns-then-state-lt-MOST_STATES c q =
    has_insert c.args.self.now.words c.args.state (omega arith) q
    ∙ ap (λ b. has c.args.self.now.words q || (b && eqb q c.args.state)) (sym (lt-ltb c.args.state most_states (omega arith)))

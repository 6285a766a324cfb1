use Rattle.std.proofs.Common.{sym, ◌∙◌}
use Rattle.std.proofs.lemmas.Bool.{false≢true}
use Rattle.ready.proofs.BitLaws.{beyond}
use Rattle.ready.proofs.state_set.StateSet.is_subset.Goals as goal

pub returns-clause-beyond : goal.returns-clause-beyond
returns-clause-beyond c e = beyond c.args.self.now.words c.args.other.now.words (λ part. false≢true (sym e ∙ c.is_part.ensures.1 part))

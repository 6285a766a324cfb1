use Rattle.std.proofs.Common.{rules, arith}
use Rattle.ready.proofs.BitLaws.{has_union}
use Rattle.ready.proofs.state_set.StateSet.union.Goals as goal

pub returns : goal.returns
returns c =
    let made = c.from_fn.ensures.items in
    has_union c.args.self.now.words c.args.other.now.words c.from_fn.result (search rules) (search rules) (λ i lt. let call = (made.at i 0 (omega arith)).2 in search rules)

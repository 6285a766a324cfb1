use Rattle.std.proofs.Common.{◌≡◌, rules, tests, ◌≢◌}
use Rattle.std.proofs.lemmas.Iterator.{cases_from_all, YieldsList-from_slice, YieldsList-from_zip}
use lib.Bits.{bit_and}
use Rattle.ready.proofs.BitLaws.{part_from_pairs}
use Rattle.ready.proofs.state_set.is_part.Goals as goal

pub returns : goal.returns
returns c =
    let a = c.args.words.now in
    let b = c.args.other.now in
    part_from_pairs a b c.requires (search rules) (search rules) c.all.result
    (cases_from_all c.all.new.self _ _ (λ p. bit_and p.0 p.1 ≡ p.0) (λ p. bit_and p.0 p.1 ≢ p.0) c.all.ensures.ran (YieldsList-from_zip (YieldsList-from_slice a (search rules)) (YieldsList-from_slice b (search rules))) (λ x q k. search (rules, tests)) (λ x q k. search (rules, tests)))

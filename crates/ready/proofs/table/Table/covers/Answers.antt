use Rattle.std.proofs.Common.{◌≡◌, ℕ, true, rules}
use Rattle.ready.specs.Pairs.{lies}
use Rattle.ready.proofs.RangeTests.{all_below}
use Rattle.ready.proofs.table.Table.covers.Goals as goal

pub returns : goal.returns
returns c =
    let old = lies c.args.self.now.rows in
    let new = lies c.args.other.now.rows in
    let whole = all_below (λ q. (p : ℕ) → new q p ≡ true → old q p ≡ true) c.args.width c.all.new.self _ (λ q b f k. search rules) (search rules) c.all.result c.all.ensures.ran in
    (λ e q p lt h. whole.0 e q lt p h, λ cover. whole.1 (λ q lt p h. cover q p lt h))

use Rattle.std.proofs.Common.{arith, ap, ◌∙◌}
use Rattle.std.specs.Option.{unwrap_or}
use Rattle.ready.specs.declared.state_set.StateSet.{StateSet}
use Rattle.ready.specs.Sets.{has}
use Rattle.ready.proofs.RowLaws.{lies_or}
use Rattle.ready.proofs.table.Table.row.Goals as goal

pub returns : goal.returns
returns c p =
    ap (λ (s : StateSet). has s.words p) (c.unwrap_or.ensures ∙ ap (λ o. unwrap_or o c.empty.result) c.copied.ensures ∙ c.get-row.ensures.lookup.4 (omega arith) c.empty.result)
    ∙ lies_or c.args.self.now.rows c.empty.result c.empty.ensures.none c.args.state p

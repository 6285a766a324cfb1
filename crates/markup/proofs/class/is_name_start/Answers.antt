-- What is left to show of `is_name_start` in src/class.rt.
use Rattle.std.proofs.Common.{refl, arith}
use Rattle.markup.proofs.Table.{agree_below, from_table}
use Rattle.markup.proofs.class.is_name_start.Goals as goal
use Rattle.markup.specs.declared.class.TheConstants.{CLASS}
use Rattle.name_bytes.specs.Names.{name_start}

pub returns : goal.returns
unfolding agree_below
returns c = from_table CLASS 8 name_start c.args.b (omega arith) refl

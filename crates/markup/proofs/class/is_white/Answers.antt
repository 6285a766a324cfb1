-- What is left to show of `is_white` in src/class.rt.
use Rattle.std.proofs.Common.{refl, arith}
use Rattle.markup.proofs.Table.{agree_below, from_table}
use Rattle.markup.proofs.class.is_white.Goals as goal
use Rattle.markup.specs.declared.class.TheConstants.{CLASS}
use Rattle.markup.specs.Grammar.{white}

pub returns : goal.returns
unfolding agree_below
returns c = from_table CLASS 4 white c.args.b (omega arith) refl

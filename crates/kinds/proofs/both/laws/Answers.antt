use Rattle.kinds.proofs.Boths.{both_accepts, both_selects}
use Rattle.kinds.proofs.both.laws.Goals as goal

pub returns : goal.returns
returns g c =
    record {
      accepts = both_accepts _ _ (g.met.L.ShapeBook.lawful c.args.left.now) (g.met.R.ShapeBook.lawful c.args.right.now);
      selects = both_selects _ _ (g.met.L.ShapeBook.lawful c.args.left.now) (g.met.R.ShapeBook.lawful c.args.right.now);
    }

use Rattle.catalogue_check.proofs.Written.{plainly, repeat_indent}
use Rattle.catalogue_check.proofs.lines.IndentDisplay.fmt.Goals as goal
use Rattle.std.proofs.Common.{refl}
use Rattle.std.proofs.lemmas.Grind.{put_two}

pub returns-clause-writes : goal.returns-clause-writes
returns-clause-writes g c p r =
    let took = g.W.Write.write_str_gives in
    let eights = plainly took _ _ _ p (c.in_ok-write_repeated.ensures.styled p.flush refl) in
    put_two took _ _ _ _ _ _ eights (plainly took _ _ _ eights.plain (c.write_repeated-2.ensures.styled eights.plain.flush r)) (repeat_indent c.args.self.now.0)

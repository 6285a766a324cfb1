-- The loop of `reference_rest` in src/reference.rt: what it keeps.
use Rattle.std.proofs.Common.{drop}
use Rattle.markup.specs.Reading.{Where}
use Rattle.markup.specs.Parts.{Goes, awaiting_all}
use Rattle.markup.proofs.cursor.Cursor.reference_rest.Given as goal

abbrev pub invariant-loop-want : goal.invariant-loop-want
invariant-loop-want l = (w : Where) → Goes l.initial.self (awaiting_all l.at w l.rest) l.self (awaiting_all l.at w (drop l.want-index l.rest))

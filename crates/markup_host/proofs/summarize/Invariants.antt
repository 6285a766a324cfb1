-- The loop of `summarize` in src/lib.rt: what it keeps, and what falls with each turn.
use Prim.Native.Nat.{◌+◌, ◌≤◌}
use Rattle.markup.specs.Reading.{reading}
use Rattle.markup.specs.Tokens.{remaining}
use Rattle.markup_host.proofs.summarize.Given as goal
use Rattle.markup_host.specs.Endings.{capped}
use lib.ListN.{length}
use mathlib.Core.Path.{◌≡◌}

abbrev pub invariant-loop-tags : goal.invariant-loop-tags
invariant-loop-tags l = record {
  fits : l.tags ≤ 18446744073709551615;
  counted : capped (length (reading l.text).given) ≡ capped (l.tags + length (remaining l.reader).given);
  ends : (reading l.text).ended ≡ (remaining l.reader).ended;
}

abbrev pub decreases-loop-tags : goal.decreases-loop-tags
decreases-loop-tags l = length (remaining l.reader).given

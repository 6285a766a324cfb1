-- The loop of `add_tags` in src/lines.rt: the lines of the tags still to come, behind those added, are those of all tags.
use Rattle.catalogue_check.proofs.lines.add_tags.Given as goal
use Rattle.catalogue_check.specs.Lines.{token_lines}
use Rattle.std.proofs.Common.{◌≡◌, ◌≤◌, ◌++◌, drop}

abbrev pub invariant-loop-tag : goal.invariant-loop-tag
invariant-loop-tag l = record {
  depth : l.outline.depth ≤ l.tag-index;
  page : l.outline.page ++ token_lines l.outline.depth (drop l.tag-index l.tags) ≡ l.fn.page ++ token_lines 0 l.tags;
}

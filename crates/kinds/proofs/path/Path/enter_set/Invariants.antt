use Rattle.std.proofs.Common.{◌≡◌, ◌||◌}
use Rattle.kinds.specs.Path.{set_of, keeps, adds}
use Rattle.kinds.proofs.path.Path.enter_set.Given as goal

-- the places so far, and whether the next one is added
abbrev pub invariant-loop-place : goal.invariant-loop-place
invariant-loop-place l = record {
  entered : l.next ≡ set_of (λ j. keeps l.self.steps.now l.set j || adds l.self.steps.now l.set l.tag j) l.place;
  carried : l.added ≡ adds l.self.steps.now l.set l.tag l.place;
}

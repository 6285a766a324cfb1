use Rattle.std.proofs.Common.{◌≡◌, ℕ, ◌*◌, ◌<◌, ◌≤◌, Bool, true, false, not, ◌&&◌, List, refl, ap, ◌∙◌, ap₂}
use Rattle.book.specs.Limits.{most_states}
use Rattle.book.specs.declared.event.Event.{Event}
use Rattle.book.specs.Catalogue.{opened}
use Rattle.book.specs.Machines.{Machine, Marks, Lawful, LawfulMarks, selecting, selected}
use Rattle.kinds.specs.Opposite.{opposite, opposite_lawful, opposite_marks_lawful}
use Rattle.kinds.specs.Both.{both, both_width, both_marks, both_lawful, both_marks_lawful}
use Rattle.kinds.specs.KindCases.{either_way}
use Rattle.kinds.proofs.Opposites.{opposite_selects}
use Rattle.kinds.proofs.Boths.{both_selects, both_some}
use Rattle.kinds.proofs.kind_cases.kind_cases_stand.Goals as goal

not_both : (x y z : Bool) → x ≡ not y → z ≡ not (x && y) → z ≡ true
not_both x true z e f = f ∙ ap (λ (b : Bool). not (b && true)) e
not_both x false z e f = f ∙ ap (λ (b : Bool). not (b && false)) e

either_selects : (m : Machine) (k : Marks) → Lawful m → LawfulMarks m k → 0 < m.width → m.width * m.width ≤ most_states
    → (c : List Event) (i : ℕ) → 1 ≤ i → i ≤ opened c → selected (either_way m k) i c ≡ true
either_selects m k law marks some square c i low high =
    not_both (selected (selecting (opposite m) k) i c) (selected (selecting m k) i c) _
    (opposite_selects m law some k marks c i low high)
    (opposite_selects (both (opposite m) m) lawful (both_some (opposite m) m fits) (both_marks (opposite m) m k k)
    (both_marks_lawful (opposite m) m k k (opposite_marks_lawful m k marks) marks) c i low high
    ∙ ap not (both_selects (opposite m) m (opposite_lawful m law) law fits k k (opposite_marks_lawful m k marks) marks c i))
  where
    fits : (0 < m.width) × (0 < m.width) × (m.width * m.width ≤ most_states)
    fits = (some, some, square)

    lawful : Lawful (both (opposite m) m)
    lawful = both_lawful (opposite m) m (opposite_lawful m law) law

pub returns : goal.returns
returns c =
    record {
      entered = refl;
      missed = refl;
      hits = refl;
      fits = λ m n e f. ap₂ both_width e f;
      too_wide = λ m n e f. ap₂ both_width e f;
      nested = either_selects;
    }

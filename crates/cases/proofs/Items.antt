-- What is held, due and dropped, as lists that are computed from a table that fits.
use Rattle.std.proofs.Common.{◌≡◌, ℕ, ◌<◌, Bool, true, false, not, ◌&&◌, ◌↔◌, List, [], sym, refl, ◌∙◌}
use Rattle.std.proofs.lemmas.Bool.{both_ways, not-true, not_from_false}
use Rattle.book.specs.declared.event.Event.{Event}
use Rattle.book.specs.Catalogue.{nest, within, over, opened, Sound}
use Rattle.book.specs.Machines.{Selecting, Lawful, LawfulMarks, run, marking, selected}
use Rattle.book.specs.Orders.{Opened, Due, Dropped, Held}
use Rattle.book.specs.Tables.{Fits, may_end, Decided}
use Rattle.book.specs.Earliest.{NotTwo}
use Rattle.book.proofs.Nesting.{within_not_broken}
use Rattle.book.proofs.Selections.{selected_opened}
use Rattle.book.proofs.Tables.{tables_decide_item}
use Rattle.book.proofs.Earliest.{due_opened, not_two, end_decides}
use Rattle.cases.specs.Cases.{ItemsAre}
use Rattle.cases.proofs.Picks.{picks, lists_picks}

-- can item i be selected (b true), or left out (b false), inside items with the tags ts?
abbrev pub can : Selecting → (ℕ → ℕ → Bool) → List Event → List ℕ → ℕ → Bool → Bool
can m reach h ts i b = may_end reach m.shape ts (run m.shape (marking m i) h) b

-- The two tests, and what they say --------------------------------------------------------------------------------

module _ (m : Selecting) (h : List Event) (i : ℕ) (apart : NotTwo m h i) where
  held_if : (y n : Bool) → Decided m h i y n → ((y && n) ≡ true) ↔ Held m h i
  held_if true true d = (λ _. d, λ _. refl)
  held_if true false d = (λ e. absurd (both_ways false refl e), λ x. absurd (apart.1 d x))
  held_if false true d = (λ e. absurd (both_ways false refl e), λ x. absurd (apart.2 d x))
  held_if false false d = absurd d

  due_if : (y n : Bool) → Decided m h i y n → ((y && not n) ≡ true) ↔ Due m h i
  due_if true true d = (λ e. absurd (both_ways false refl e), λ x. absurd (apart.1 x d))
  due_if true false d = (λ _. d, λ _. refl)
  due_if false true d = (λ e. absurd (both_ways false refl e), λ x. absurd (apart.0 x d))
  due_if false false d = absurd d

  dropped_if : (y n : Bool) → Decided m h i y n → ((not y && n) ≡ true) ↔ Dropped m h i
  dropped_if true true d = (λ e. absurd (both_ways false refl e), λ x. absurd (apart.2 x d))
  dropped_if true false d = (λ e. absurd (both_ways false refl e), λ x. absurd (apart.0 d x))
  dropped_if false true d = (λ _. d, λ _. refl)
  dropped_if false false d = absurd d

-- Inside the catalogue --------------------------------------------------------------------------------------------

module _ (m : Selecting) (reach : ℕ → ℕ → Bool) (law : Lawful m.shape) (marks : LawfulMarks m.shape m.mark) (some : 0 < m.shape.width)
    (fits : Fits m.shape reach) where
  pub items_within : (h : List Event) (ts : List ℕ) → nest h ≡ within ts →
      ItemsAre m h
      (picks (λ i. can m reach h ts i true && can m reach h ts i false) 0 (opened h))
      (picks (λ i. can m reach h ts i true && not (can m reach h ts i false)) 0 (opened h))
      (picks (λ i. not (can m reach h ts i true) && can m reach h ts i false) 0 (opened h))
  items_within h ts at = (
    lists_picks (Held m h) h _ (λ i x. x.0) (λ i o. held_if m h i (not_two m h i sound) (can m reach h ts i true) (can m reach h ts i false) (by_tests i o)),
    lists_picks (Due m h) h _ (λ i x. due_opened m h i sound x) (λ i o. due_if m h i (not_two m h i sound) (can m reach h ts i true) (can m reach h ts i false) (by_tests i o)),
    lists_picks (Dropped m h) h _ (λ i x. x.0) (λ i o. dropped_if m h i (not_two m h i sound) (can m reach h ts i true) (can m reach h ts i false) (by_tests i o)),
  )
    where
      sound : Sound h
      sound e = within_not_broken ts (sym at ∙ e)

      by_tests : (i : ℕ) → Opened h i → Decided m h i (can m reach h ts i true) (can m reach h ts i false)
      by_tests i o = tables_decide_item m reach law marks some fits h i ts at o

-- After the end ---------------------------------------------------------------------------------------------------

pub items_over : (m : Selecting) (h : List Event) → nest h ≡ over →
    ItemsAre m h [] (picks (λ i. selected m i h) 0 (opened h)) (picks (λ i. not (selected m i h)) 0 (opened h))
items_over m h fin = (
  (tt, λ i. (λ y. absurd y, λ x. (end_decides m h i fin).2 x)),
  lists_picks (Due m h) h _ (λ i x. selected_opened m i h ((end_decides m h i fin).0.0 x)) (λ i o. (λ e. (end_decides m h i fin).0.1 e, λ x. (end_decides m h i fin).0.0 x)),
  lists_picks (Dropped m h) h _ (λ i x. x.0)
      (λ i o. (
        λ e. (end_decides m h i fin).1.1 (o, not-true (selected m i h) e),
        λ x. not_from_false (selected m i h) ((end_decides m h i fin).1.0 x).1,
      )),
)

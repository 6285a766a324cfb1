-- Layers over a book: what its opposite holds, what both over a book and its opposite drops, and the seal book's own.
use Rattle.std.proofs.Common.{◌≡◌, ℕ, suc, ◌*◌, ◌<◌, ◌≤◌, Bool, true, false, not, ◌&&◌, List, [], ◌∷◌, ◌++◌, take, sym, refl, ap, ◌∙◌, inl, inr, arith}
use Rattle.book.specs.Limits.{most_states}
use Rattle.book.specs.declared.event.Event.{Event}
use Rattle.book.specs.Catalogue.{nest, within, opened, Sound}
use Rattle.book.specs.Machines.{Machine, Marks, Lawful, LawfulMarks, selecting, selected}
use Rattle.book.specs.Orders.{Opened, Due, Dropped, Held}
use Rattle.book.proofs.Nesting.{within_not_broken}
use Rattle.book.proofs.Selections.{opened_on}
use Rattle.book.proofs.Earliest.{due_opened, not_two}
use Rattle.kinds.specs.Opposite.{opposite, opposite_lawful, opposite_marks_lawful}
use Rattle.kinds.specs.Both.{both, both_marks}
use Rattle.kinds.specs.KindCases.{KindCases, either_way}
use Rattle.kinds.proofs.Opposites.{opposite_selects}
use Rattle.kinds.proofs.Boths.{both_selects}
use Rattle.cases.specs.Seal.{seal, boxed}
use Rattle.cases.specs.Cases.{FirstAt, unseal, seal_and_not, seal_or_not, LayerCases}
use Rattle.cases.proofs.Firsts.{first_due}
use Rattle.cases.proofs.Seal.{seal_lawful, seal_marked, held_2, held_4}

-- Over any book ---------------------------------------------------------------------------------------------------

not_and : (x y : Bool) → x ≡ not y → (x && y) ≡ false
not_and x true e = ap (λ (b : Bool). b && true) e
not_and x false e = ap (λ (b : Bool). b && false) e

module _ (m : Machine) (k : Marks) (law : Lawful m) (marks : LawfulMarks m k) (some : 0 < m.width) where
  opposite_answers : (h e : List Event) (i : ℕ) → Opened h i → selected (selecting (opposite m) k) i (h ++ e) ≡ not (selected (selecting m k) i (h ++ e))
  opposite_answers h e i o = let p = opened_on h e i o in opposite_selects m law some k marks (h ++ e) i p.0 p.1

  -- an item that a book holds its opposite holds too
  pub opposite_held : (h : List Event) (i : ℕ) → Held (selecting m k) h i → Held (selecting (opposite m) k) h i
  opposite_held h i (o, (d, d_ends, taken), (e, e_ends, left)) = (
    o,
    (e, e_ends, opposite_answers h e i o ∙ ap not left),
    (d, d_ends, opposite_answers h d i o ∙ ap not taken),
  )

  module _ (square : m.width * m.width ≤ most_states) where
    -- both over the opposite and the book itself drops each item at once
    pub both_dropped : (h : List Event) (i : ℕ) → Opened h i → Dropped (selecting (both (opposite m) m) (both_marks (opposite m) m k k)) h i
    both_dropped h i o = (
      o,
      λ e fin. both_selects (opposite m) m (opposite_lawful m law) law (some, some, square) k k (opposite_marks_lawful m k marks) marks (h ++ e) i
          ∙ not_and (selected (selecting (opposite m) k) i (h ++ e)) (selected (selecting m k) i (h ++ e)) (opposite_answers h e i o),
    )

    -- and the opposite of that takes each item at once
    pub either_due : KindCases → (h : List Event) (i : ℕ) → Opened h i → Due (either_way m k) h i
    either_due cases h i o e fin = let p = opened_on h e i o in cases.nested m k law marks some square (h ++ e) i p.0 p.1

-- Over the seal book ----------------------------------------------------------------------------------------------

-- an item is first due at its open, if it is due then
due_at_open : (i n : ℕ) (ts : List ℕ) → nest (take n boxed) ≡ within ts → opened (take n boxed) < i → Due seal_or_not (take (suc n) boxed) i
    → FirstAt (λ h. Due seal_or_not h i) boxed (suc n)
due_at_open i n ts at unopened due =
    first_due seal_or_not i boxed n
    (λ d. let o = due_opened seal_or_not (take n boxed) i (λ e. within_not_broken ts (sym at ∙ e)) d in let a = o.1 in omega arith)
    due

module _ (cases : KindCases) where
  either_way_due : (h : List Event) (i : ℕ) → Opened h i → Due seal_or_not h i
  either_way_due = either_due seal.shape seal.mark seal_lawful seal_marked (omega arith) (omega arith) cases

  pub layer_cases : LayerCases
  layer_cases =
      record {
        item_1 = due_at_open 1 0 [] refl (omega arith) (either_way_due (take 1 boxed) 1 (omega arith, omega arith));
        item_2 = due_at_open 2 1 (0 ∷ []) refl (omega arith) (either_way_due (take 2 boxed) 2 (omega arith, omega arith));
        item_3 = due_at_open 3 3 (0 ∷ []) refl (omega arith) (either_way_due (take 4 boxed) 3 (omega arith, omega arith));
        item_4 = due_at_open 4 5 (0 ∷ []) refl (omega arith) (either_way_due (take 6 boxed) 4 (omega arith, omega arith));
        both_2 = (drops 2 2 (omega arith, omega arith), holds 2 2 held_2, held_2);
        both_4 = (drops 6 4 (omega arith, omega arith), holds 6 4 held_4, held_4);
        not_by_halves = λ halves. elim (halves unseal.shape seal.shape seal.mark seal.mark
            (opposite_lawful seal.shape seal_lawful) seal_lawful (opposite_marks_lawful seal.shape seal.mark seal_marked) seal_marked
            (omega arith, omega arith, omega arith) (take 2 boxed) 2 (drops 2 2 (omega arith, omega arith))) [
              | inl d ↦ (not_two unseal (take 2 boxed) 2 sound).2 d (holds 2 2 held_2)
              | inr d ↦ (not_two seal (take 2 boxed) 2 sound).2 d held_2
            ];
      }
    where
      drops : (n i : ℕ) → Opened (take n boxed) i → Dropped seal_and_not (take n boxed) i
      drops n i = both_dropped seal.shape seal.mark seal_lawful seal_marked (omega arith) (omega arith) (take n boxed) i

      holds : (n i : ℕ) → Held seal (take n boxed) i → Held unseal (take n boxed) i
      holds n i = opposite_held seal.shape seal.mark seal_lawful seal_marked (omega arith) (take n boxed) i

      sound : Sound (take 2 boxed)
      sound e = within_not_broken (1 ∷ 0 ∷ []) e

-- The seal book on the box of two reels and a seal, by computation.
use Rattle.std.proofs.Common.{◌≡◌, ℕ, Bool, true, false, cond, not, ◌&&◌, ◌||◌, eqb, List, [], ◌∷◌, take, refl, inl, inr, arith}
use Rattle.book.specs.declared.event.Event.TheVariants.{Open}
use Rattle.book.specs.Catalogue.{nest, within, opened}
use Rattle.book.specs.Machines.{Lawful, LawfulMarks}
use Rattle.book.specs.Rows.{Forest, none, item}
use Rattle.book.specs.Orders.{Due, Dropped, Held}
use Rattle.book.specs.Tables.{Fits}
use Rattle.book.specs.ItemLists.{Lists}
use Rattle.book.specs.Promise.{NewlyDue}
use Rattle.book.specs.Shown.{JustDue}
use Rattle.book.proofs.Nesting.{within_not_broken}
use Rattle.book.proofs.Fitting.{fits_by_test}
use Rattle.book.proofs.Earliest.{not_two}
use Rattle.book.proofs.ItemLists.{lists_alike}
use Rattle.book.proofs.Exact.{just_newly}
use Rattle.book_file.specs.Ranges.{table_lawful, table_marked}
use Rattle.cases.specs.Seal.{seal_file, seal, boxed}
use Rattle.cases.specs.Cases.{ItemsAre, HeldNumbers, SealCases}
use Rattle.cases.proofs.Picks.{picks}
use Rattle.cases.proofs.Items.{can, items_within, items_over}
use Rattle.cases.proofs.Firsts.{first_due, first_dropped}

-- Its rules of range, and its table -------------------------------------------------------------------------------

pub seal_lawful : Lawful seal.shape
seal_lawful = table_lawful seal_file.tables (omega arith) (omega arith) refl refl

pub seal_marked : LawfulMarks seal.shape seal.mark
seal_marked = table_marked seal_file.tables seal_file.mark refl

-- a seal leads from state 1 to state 2, and nothing else leads on
abbrev leads_to : ℕ → ℕ → Bool
leads_to q p = eqb q p || (eqb q 1 && eqb p 2)

abbrev rows : ℕ → ℕ → Forest
rows q p = cond (eqb q p) none (item 2 none none)

pub seal_fits : Fits seal.shape leads_to
seal_fits = fits_by_test seal.shape leads_to rows seal_lawful (omega arith) refl refl refl

-- Event by event --------------------------------------------------------------------------------------------------

seal_items : (n : ℕ) (ts : List ℕ) → nest (take n boxed) ≡ within ts →
    let may : ℕ → Bool → Bool = can seal leads_to (take n boxed) ts in
    ItemsAre seal (take n boxed)
    (picks (λ i. may i true && may i false) 0 (opened (take n boxed)))
    (picks (λ i. may i true && not (may i false)) 0 (opened (take n boxed)))
    (picks (λ i. not (may i true) && may i false) 0 (opened (take n boxed)))
seal_items n ts at = items_within seal leads_to seal_lawful seal_marked (omega arith) seal_fits (take n boxed) ts at

after_1 : ItemsAre seal (take 1 boxed) [] [] (1 ∷ [])
after_1 = seal_items 1 (0 ∷ []) refl

after_2 : ItemsAre seal (take 2 boxed) (2 ∷ []) [] (1 ∷ [])
after_2 = seal_items 2 (1 ∷ 0 ∷ []) refl

after_3 : ItemsAre seal (take 3 boxed) (2 ∷ []) [] (1 ∷ [])
after_3 = seal_items 3 (0 ∷ []) refl

after_4 : ItemsAre seal (take 4 boxed) [] (2 ∷ []) (1 ∷ 3 ∷ [])
after_4 = seal_items 4 (2 ∷ 0 ∷ []) refl

after_5 : ItemsAre seal (take 5 boxed) [] (2 ∷ []) (1 ∷ 3 ∷ [])
after_5 = seal_items 5 (0 ∷ []) refl

after_6 : ItemsAre seal (take 6 boxed) (4 ∷ []) (2 ∷ []) (1 ∷ 3 ∷ [])
after_6 = seal_items 6 (1 ∷ 0 ∷ []) refl

after_7 : ItemsAre seal (take 7 boxed) (4 ∷ []) (2 ∷ []) (1 ∷ 3 ∷ [])
after_7 = seal_items 7 (0 ∷ []) refl

after_8 : ItemsAre seal (take 8 boxed) [] (2 ∷ []) (1 ∷ 3 ∷ 4 ∷ [])
after_8 = seal_items 8 [] refl

after_9 : ItemsAre seal (take 9 boxed) [] (2 ∷ []) (1 ∷ 3 ∷ 4 ∷ [])
after_9 = items_over seal boxed refl

-- the two reels are held at their opens
pub held_2 : Held seal (take 2 boxed) 2
held_2 = (after_2.0.1 2).0 (inl refl)

pub held_4 : Held seal (take 6 boxed) 4
held_4 = (after_6.0.1 4).0 (inl refl)

-- Together --------------------------------------------------------------------------------------------------------

numbers_held : HeldNumbers seal boxed 1 (0 ∷ 1 ∷ 1 ∷ 0 ∷ 0 ∷ 1 ∷ 1 ∷ 0 ∷ 0 ∷ [])
numbers_held = (
  ([], after_1.0, refl),
  (
    (2 ∷ [], after_2.0, refl),
    (
      (2 ∷ [], after_3.0, refl),
      (
        ([], after_4.0, refl),
        (
          ([], after_5.0, refl),
          ((4 ∷ [], after_6.0, refl), ((4 ∷ [], after_7.0, refl), (([], after_8.0, refl), (([], after_9.0, refl), tt)))),
        ),
      ),
    ),
  ),
)

due_at_4 : Due seal (take 4 boxed) 2
due_at_4 = (after_4.1.1 2).0 (inl refl)

not_dropped_at_7 : Dropped seal (take 7 boxed) 4 → ⊥
not_dropped_at_7 d = (not_two seal (take 7 boxed) 4 (λ e. within_not_broken (0 ∷ []) e)).2 d ((after_7.0.1 4).0 (inl refl))

newly_due : Lists (NewlyDue seal (take 3 boxed) (Open 2)) (2 ∷ [])
newly_due =
    lists_alike (JustDue seal (take 3 boxed) (Open 2)) (NewlyDue seal (take 3 boxed) (Open 2)) (2 ∷ []) (just_newly seal (take 3 boxed) (Open 2) (λ e. within_not_broken (0 ∷ []) e)) (
      after_4.1.0,
      λ i. (λ y. ((after_4.1.1 i).0 y, λ d. (after_3.1.1 i).1 d), λ j. (after_4.1.1 i).1 j.0),
    )

pub seal_cases : SealCases
seal_cases =
    record {
      size = refl;
      read = refl;
      whole = refl;
      after_1 = after_1;
      after_2 = after_2;
      after_3 = after_3;
      after_4 = after_4;
      after_5 = after_5;
      after_6 = after_6;
      after_7 = after_7;
      after_8 = after_8;
      after_9 = after_9;
      numbers_held = numbers_held;
      ordered_at = first_due seal 2 boxed 3 (λ d. (after_3.1.1 2).1 d) due_at_4;
      dropped_at = first_dropped seal 4 boxed 7 not_dropped_at_7 ((after_8.2.1 4).0 (inr (inr (inl refl))));
      orders = newly_due;
      recorded = refl;
      not_at_close = λ first. first.1 4 (omega arith) due_at_4;
    }

-- Lists of holdings: their items, and those that pass a test. Assumes nothing.
use Rattle.std.proofs.Common.{◌≡◌, ℕ, ◌≤◌, Bool, true, false, cond, ◌⊎◌, ◌↔◌, List, [], ◌∷◌, ◌++◌, map, length, filter, sym, refl, ap, subst, inl, inr, arith}
use Rattle.std.specs.List.{All}
use Rattle.std.proofs.lemmas.List.Elements.{All-nil, All-cons, All-head, All-tail, All-weaker}
use Rattle.std.proofs.lemmas.Bool.{both_ways}
use Rattle.book.specs.declared.event.Event.{Event}
use Rattle.book.specs.Machines.{Machine}
use Rattle.book.specs.ItemLists.{In, Rising}
use Rattle.book.specs.Promise.{opening, order}
use Rattle.scan.specs.Model.{Holding, onward, note}
use Rattle.scan.specs.Standing.{item_in}

-- Items -----------------------------------------------------------------------------------------------------------

pub items_onward : (reach : ℕ → ℕ → Bool) (m : Machine) (e : Event) (xs : List Holding) → map item_in (map (onward reach m e) xs) ≡ map item_in xs
items_onward reach m e [] = refl
items_onward reach m e (x ∷ xs) = ap (λ (r : List ℕ). x.item ∷ r) (items_onward reach m e xs)

-- each holding is one of them
pub all_listed : (P : Holding → Type 0) (xs : List Holding) → All P xs → All (λ x. In (item_in x) (map item_in xs) × P x) xs
all_listed P [] a = All-nil (λ y. In (item_in y) (map item_in []) × P y)
all_listed P (x ∷ xs) a = All-cons (λ y. In (item_in y) (map item_in (x ∷ xs)) × P y) x xs (inl refl, All-head P x xs a)
    (All-weaker (λ y. In (item_in y) (map item_in xs) × P y) (λ y. In (item_in y) (map item_in (x ∷ xs)) × P y) (λ y r. (inr r.0, r.1)) xs (all_listed P xs (All-tail P x xs a)))

-- the items of those that pass a test, where the test tells what P says
pub kept_in : (p : Holding → Bool) (P : ℕ → Type 0) (xs : List Holding) → All (λ x. (p x ≡ true) ↔ P x.item) xs → (i : ℕ) → In i (map item_in (filter p xs)) ↔ (In i (map item_in xs) × P i)
kept_in p P [] a i = (λ y. absurd y, λ y. absurd y.0)
kept_in p P (x ∷ xs) a i = go (p x) refl (kept_in p P xs (All-tail (λ y. (p y ≡ true) ↔ P y.item) x xs a) i)
  where
    told : (p x ≡ true) ↔ P x.item
    told = All-head (λ y. (p y ≡ true) ↔ P y.item) x xs a

    go : (b : Bool) → p x ≡ b → In i (map item_in (filter p xs)) ↔ (In i (map item_in xs) × P i)
        → In i (map item_in (cond b (x ∷ filter p xs) (filter p xs))) ↔ (((i ≡ x.item) ⊎ In i (map item_in xs)) × P i)
    go true e ih = (
      elim [ inl q ↦ (inl q, subst P (sym q) (told.0 e)) | inr y ↦ (inr (ih.0 y).0, (ih.0 y).1) ],
      λ z. elim z.0 [ inl q ↦ inl q | inr y ↦ inr (ih.1 (y, z.1)) ],
    )
    go false e ih = (
      λ y. (inr (ih.0 y).0, (ih.0 y).1),
      λ z. elim z.0 [ inl q ↦ absurd (both_ways (p x) e (told.1 (subst P q z.1))) | inr y ↦ ih.1 (y, z.1) ],
    )

-- Rising numbers --------------------------------------------------------------------------------------------------

rising_lower : (low k : ℕ) (xs : List ℕ) → low ≤ k → Rising k xs → Rising low xs
rising_lower low k [] le r = tt
rising_lower low k (x ∷ xs) le r = ((let a = r.0 in omega arith), r.1)

pub rising_append : (low k : ℕ) (xs ys : List ℕ) → low ≤ k → Rising low xs → Rising k ys → ((i : ℕ) → In i xs → i ≤ k) → Rising low (xs ++ ys)
rising_append low k [] ys le r r' below = rising_lower low k ys le r'
rising_append low k (x ∷ xs) ys le r r' below = (r.0, rising_append x k xs ys (below x (inl refl)) r.1 r' (λ i y. below i (inr y)))

pub kept_rising : (p : Holding → Bool) (low : ℕ) (xs : List Holding) → Rising low (map item_in xs) → Rising low (map item_in (filter p xs))
kept_rising p low [] r = tt
kept_rising p low (x ∷ xs) r = go (p x) (kept_rising p x.item xs r.1)
  where
    go : (b : Bool) → Rising x.item (map item_in (filter p xs)) → Rising low (map item_in (cond b (x ∷ filter p xs) (filter p xs)))
    go true y = (r.0, y)
    go false y = rising_lower low x.item (map item_in (filter p xs)) (let a = r.0 in omega arith) y

-- Records ---------------------------------------------------------------------------------------------------------

-- the records of orders at the last event
pub notes_are : (now : List Event) (n : ℕ) (xs : List Holding) → n ≡ length now → All (λ x. x.since ≡ opening x.item now) xs → map (note n) xs ≡ map (order now) (map item_in xs)
notes_are now n [] q a = refl
notes_are now n (x ∷ xs) q a =
    let Right : Holding → Type 0 = (λ y. y.since ≡ opening y.item now) in
    λ i. record { item = x.item; opened = All-head Right x xs a i; ordered = q i } ∷ notes_are now n xs q (All-tail Right x xs a) i

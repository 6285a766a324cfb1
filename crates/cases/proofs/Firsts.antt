-- The first event after which an item is due or dropped: what is decided stays decided, so one look back is enough.
use Rattle.std.proofs.Common.{◌≡◌, ℕ, suc, ◌≤◌, List, ◌++◌, take, drop, sym, ap, ◌∙◌, subst, arith, take-append-drop}
use Rattle.std.proofs.lemmas.List.{take-take}
use Rattle.book.specs.declared.event.Event.{Event}
use Rattle.book.specs.Machines.{Selecting}
use Rattle.book.specs.Orders.{Due, Dropped}
use Rattle.book.proofs.Earliest.{due_on, dropped_on}
use Rattle.cases.specs.Cases.{FirstAt}

-- the first k events, and those up to the n-th
parts : (c : List Event) (k n : ℕ) → k ≤ n → take k c ++ drop k (take n c) ≡ take n c
parts c k n le = ap (λ (x : List Event). x ++ drop k (take n c)) (sym (take-take k n c le)) ∙ take-append-drop k (take n c)

-- what holds on once it holds, and does not after n events, first holds after one more
pub first_at : (Holds : List Event → Type 0) → ((h d : List Event) → Holds h → Holds (h ++ d)) → (c : List Event) (n : ℕ)
    → (Holds (take n c) → ⊥) → Holds (take (suc n) c) → FirstAt Holds c (suc n)
first_at Holds on c n before after =
    (after, λ k lt x. before (subst Holds (parts c k n (omega arith)) (on (take k c) (drop k (take n c)) x)))

pub first_due : (m : Selecting) (i : ℕ) (c : List Event) (n : ℕ) → (Due m (take n c) i → ⊥) → Due m (take (suc n) c) i → FirstAt (λ h. Due m h i) c (suc n)
first_due m i = first_at (λ h. Due m h i) (λ h d. due_on m h d i)

pub first_dropped : (m : Selecting) (i : ℕ) (c : List Event) (n : ℕ) → (Dropped m (take n c) i → ⊥) → Dropped m (take (suc n) c) i
    → FirstAt (λ h. Dropped m h i) c (suc n)
first_dropped m i = first_at (λ h. Dropped m h i) (λ h d. dropped_on m h d i)

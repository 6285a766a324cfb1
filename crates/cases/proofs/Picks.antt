-- The numbers that pass a test, as a list, and the items of a kind that a test decides.
use Rattle.std.proofs.Common.{◌≡◌, ℕ, zero, suc, ◌+◌, ◌<◌, ◌≤◌, Bool, true, false, cond, ◌≢◌, ◌↔◌, List, [], ◌∷◌, sym, refl, subst, inl, inr, arith}
use Rattle.std.proofs.lemmas.Bool.{cases_eq, both_ways}
use Rattle.book.specs.declared.event.Event.{Event}
use Rattle.book.specs.Catalogue.{opened}
use Rattle.book.specs.Orders.{Opened}
use Rattle.book.specs.ItemLists.{In, Rising, Lists}

abbrev pub add_if : Bool → ℕ → List ℕ → List ℕ
add_if b i xs = cond b (i ∷ xs) xs

-- of the n numbers above low, those that pass
abbrev pub picks : (ℕ → Bool) → ℕ → ℕ → List ℕ
picks test low zero = []
picks test low (suc n) = add_if (test (suc low)) (suc low) (picks test (suc low) n)

lower : (low : ℕ) (xs : List ℕ) → Rising (suc low) xs → Rising low xs
lower low [] r = tt
lower low (x ∷ xs) r = ((let a = r.0 in omega arith), r.1)

add_rising : (b : Bool) (low : ℕ) (xs : List ℕ) → Rising (suc low) xs → Rising low (add_if b (suc low) xs)
add_rising true low xs r = (omega arith, r)
add_rising false low xs r = lower low xs r

pub picks_rising : (test : ℕ → Bool) (n low : ℕ) → Rising low (picks test low n)
picks_rising test zero low = tt
picks_rising test (suc n) low = add_rising (test (suc low)) low (picks test (suc low) n) (picks_rising test n (suc low))

-- i is one of the n numbers above low, and passes
abbrev Passes : (ℕ → Bool) → ℕ → ℕ → ℕ → Type 0
Passes test low n i = (low < i) × (i ≤ low + n) × (test i ≡ true)

in_add : (test : ℕ → Bool) (n low i : ℕ) (xs : List ℕ) (b : Bool) → test (suc low) ≡ b → In i xs ↔ Passes test (suc low) n i
    → In i (add_if b (suc low) xs) ↔ Passes test low (suc n) i
in_add test n low i xs true e rest = (
  elim [
    | inl f ↦ (omega arith, omega arith, subst (λ (j : ℕ). test j ≡ true) (sym f) e)
    | inr y ↦ (let z = rest.0 y in ((let a = z.0 in omega arith), (let a = z.1 in omega arith), z.2))
  ],
  λ y. elim (cases_eq i (suc low)) [
    | inl f ↦ inl f
    | inr ne ↦ inr (rest.1 ((let a = y.0 in let b : i ≢ suc low = ne in omega arith), (let a = y.1 in omega arith), y.2))
  ],
)
in_add test n low i xs false e rest = (
  λ y. let z = rest.0 y in ((let a = z.0 in omega arith), (let a = z.1 in omega arith), z.2),
  λ y. elim (cases_eq i (suc low)) [
    | inl f ↦ absurd (both_ways (test (suc low)) e (subst (λ (j : ℕ). test j ≡ true) f y.2))
    | inr ne ↦ rest.1 ((let a = y.0 in let b : i ≢ suc low = ne in omega arith), (let a = y.1 in omega arith), y.2)
  ],
)

pub in_picks : (test : ℕ → Bool) (n low i : ℕ) → In i (picks test low n) ↔ Passes test low n i
in_picks test zero low i = (λ y. absurd y, λ y. let a = y.0 in let b = y.1 in absurd (omega arith))
in_picks test (suc n) low i = in_add test n low i (picks test (suc low) n) (test (suc low)) refl (in_picks test n (suc low) i)

-- a kind of opened items that a test decides
pub lists_picks : (P : ℕ → Type 0) (h : List Event) (test : ℕ → Bool) → ((i : ℕ) → P i → Opened h i) → ((i : ℕ) → Opened h i → (test i ≡ true) ↔ P i)
    → Lists P (picks test 0 (opened h))
lists_picks P h test among decides = (
  picks_rising test (opened h) 0,
  λ i. (
    λ y. let z = (in_picks test (opened h) 0 i).0 y in
        (decides i ((let a = z.0 in omega arith), (let a = z.1 in omega arith))).0 z.2,
    λ p. let o = among i p in
        (in_picks test (opened h) 0 i).1 ((let a = o.0 in omega arith), (let a = o.1 in omega arith), (decides i o).1 p),
  ),
)

-- Sets of states that are filled state by state, and sets that meet. Assumes nothing.
use Rattle.std.proofs.Common.{◌≡◌, ℕ, ◌+◌, ◌<◌, ◌≤◌, Bool, true, false, ◌&&◌, ◌||◌, eqb, ltb, ◌≢◌, ◌⊎◌, ◌↔◌, sym, refl, ap, ◌∙◌, inl, inr, arith}
use Rattle.std.proofs.lemmas.Bool.{lt-ltb, le-ltb, eq-eqb, ne_eqb, cases_lt, cases_eq, cases_Bool, and_from, and_parts, both_ways}
use Rattle.std.proofs.Math.Bool.{or-false, and-false, and-true}
use Rattle.book.specs.Limits.{most_states}
use Rattle.book.specs.Tables.{some_below}
use Rattle.book.proofs.Tables.{some_found, found_some}
use Rattle.scan.proofs.Tracks.{some_below_alike}

-- Filling ---------------------------------------------------------------------------------------------------------

-- no state has been asked about
pub no_state : (P : ℕ → Bool) (q : ℕ) (b : Bool) → b ≡ false → b ≡ (ltb q 0 && P q)
no_state P q b e = e ∙ ap (λ (c : Bool). c && P q) (sym (le-ltb q 0 (omega arith)))

-- a state is added where it is wanted, and the set stays as it was where not
pub added : (old new wanted : Bool) (i q : ℕ) → i < most_states → wanted ≡ true → new ≡ (old || (ltb i most_states && eqb q i)) → new ≡ (old || (wanted && eqb q i))
added old new wanted i q small w is = is ∙ ap (λ (b : Bool). old || (b && eqb q i)) (lt-ltb i most_states small ∙ sym w)

pub not_added : (old new wanted here : Bool) → wanted ≡ false → new ≡ old → new ≡ (old || (wanted && here))
not_added old new wanted here w is = is ∙ sym (or-false old) ∙ ap (λ (b : Bool). old || (b && here)) (sym w)

-- one state more has been asked about, and the answer to it is w
pub next_state : (P : ℕ → Bool) (i q : ℕ) (old new w : Bool) → old ≡ (ltb q i && P q) → w ≡ P i → new ≡ (old || (w && eqb q i)) → new ≡ (ltb q (i + 1) && P q)
next_state P i q old new w o e n =
    n ∙ ap (λ (b : Bool). b || (w && eqb q i)) o ∙ ap (λ (b : Bool). (ltb q i && P q) || (b && eqb q i)) e ∙ go (cases_lt q i) (cases_eq q i)
  where
    low : q < i → ((ltb q i && P q) || (P i && eqb q i)) ≡ (ltb q (i + 1) && P q)
    low lt =
        ap (λ (b : Bool). (b && P q) || (P i && eqb q i)) (lt-ltb q i lt)
        ∙ ap (λ (b : Bool). P q || (P i && b)) (ne_eqb q i (λ z. omega arith))
        ∙ ap (λ (b : Bool). P q || b) (and-false (P i)) ∙ or-false (P q)
        ∙ ap (λ (b : Bool). b && P q) (sym (lt-ltb q (i + 1) (omega arith)))

    same : q ≡ i → ((ltb q i && P q) || (P i && eqb q i)) ≡ (ltb q (i + 1) && P q)
    same z =
        ap (λ (b : Bool). (b && P q) || (P i && eqb q i)) (le-ltb q i (omega arith))
        ∙ ap (λ (b : Bool). P i && b) (eq-eqb q i z) ∙ and-true (P i) ∙ ap P (sym z)
        ∙ ap (λ (b : Bool). b && P q) (sym (lt-ltb q (i + 1) (omega arith)))

    high : i ≤ q → (q ≡ i → ⊥) → ((ltb q i && P q) || (P i && eqb q i)) ≡ (ltb q (i + 1) && P q)
    high le ne =
        ap (λ (b : Bool). (b && P q) || (P i && eqb q i)) (le-ltb q i le)
        ∙ ap (λ (b : Bool). P i && b) (ne_eqb q i ne) ∙ and-false (P i)
        ∙ ap (λ (b : Bool). b && P q) (sym (le-ltb q (i + 1) (let z : q ≢ i = ne in omega arith)))

    go : (q < i) ⊎ (i ≤ q) → (q ≡ i) ⊎ (q ≡ i → ⊥) → ((ltb q i && P q) || (P i && eqb q i)) ≡ (ltb q (i + 1) && P q)
    go (inl a) b = low a
    go (inr a) (inl z) = same z
    go (inr a) (inr ne) = high a ne

-- Meeting ---------------------------------------------------------------------------------------------------------

-- two sets meet, the second of which lies below n
meets_below : (r : Bool) (f g : ℕ → Bool) (n : ℕ) → ((q : ℕ) → g q ≡ true → q < n)
    → ((r ≡ true) ↔ ((q : ℕ) × (f q ≡ true) × (g q ≡ true))) → r ≡ some_below n (λ p. f p && g p)
meets_below true f g n small w = let z = w.0 refl in sym (found_some n (λ p. f p && g p) z.0 (small z.0 z.2) (and_from (f z.0) (g z.0) z.1 z.2))
meets_below false f g n small w = elim (cases_Bool (some_below n (λ p. f p && g p))) [
  | inl y ↦ (let k = some_found n (λ p. f p && g p) y in let z = and_parts (f k.0) (g k.0) k.2 in absurd (both_ways false refl (w.1 (k.0, z.0, z.1))))
  | inr y ↦ sym y
]

-- where the row of a state is its row in the table
pub row_meets : (r : Bool) (row reach set : ℕ → Bool) (n : ℕ) → ((p : ℕ) → row p ≡ reach p) → ((q : ℕ) → set q ≡ true → q < n)
    → ((r ≡ true) ↔ ((q : ℕ) × (row q ≡ true) × (set q ≡ true))) → r ≡ some_below n (λ p. reach p && set p)
row_meets r row reach set n same small w =
    meets_below r row set n small w ∙ some_below_alike n (λ p. row p && set p) (λ p. reach p && set p) (λ k _. ap (λ (b : Bool). b && set k) (same k))

-- a test that holds only below n, put behind a look into the table
pub some_tested : (n : ℕ) (reach raw g : ℕ → Bool) → ((k : ℕ) → raw k ≡ (ltb k n && g k)) → some_below n (λ p. reach p && raw p) ≡ some_below n (λ p. reach p && g p)
some_tested n reach raw g is =
    some_below_alike n (λ p. reach p && raw p) (λ p. reach p && g p) (λ k lt. ap (λ (b : Bool). reach k && b) (is k ∙ ap (λ (b : Bool). b && g k) (lt-ltb k n lt)))

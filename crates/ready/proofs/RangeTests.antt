-- What `any` and `all` say of the numbers below n, where the test decides P. Assumes nothing.
use Rattle.std.proofs.Common.{◌≡◌, ℕ, ◌<◌, Bool, true, false, ◌+◌, ◌↔◌, Option, List, MatchBool, MatchOption, refl, sym, ◌∙◌, subst, arith}
use Rattle.std.proofs.iter.Yields.{nat_range_steps}
use Rattle.std.specs.Iterator.{YieldsThen}
use Rattle.std.specs.List.{FoldsTo, AllWithin, HoldsAt, range_with_len}
use Rattle.std.specs.Fn.{Called}
use Rattle.std.proofs.lemmas.Iterator.{cases_from_any, cases_from_all, YieldsList-from_range}
use Rattle.std.proofs.lemmas.List.FromFn.{length-range_with_len, get_or-range_with_len}
use Rattle.std.proofs.lemmas.Bool.{false≢true}
use Rattle.std.specs.declared.ops.Range.{Range}
use denote.Param.Members.{Mut}
use lib.ListN.{length}

module _ (P : ℕ → Type 0) (n : ℕ) where
  found_one : ((k : ℕ) × (k < length (range_with_len 0 n)) × HoldsAt P (range_with_len 0 n) k) → (k : ℕ) × (k < n) × P k
  found_one h =
      let lt : h.0 < n = subst (λ (m : ℕ). h.0 < m) (length-range_with_len 0 n) h.1 in
      let e : 0 + h.0 ≡ h.0 = omega arith in
      (h.0, lt, subst P (get_or-range_with_len 0 n h.0 0 lt ∙ e) (h.2 0))

  found_all : AllWithin P (range_with_len 0 n) 0 (length (range_with_len 0 n)) → (k : ℕ) → k < n → P k
  found_all h k lt =
      let e : 0 + k ≡ k = omega arith in
      subst P (get_or-range_with_len 0 n k 0 lt ∙ e) (h k 0 (omega arith) (subst (λ (m : ℕ). k < m) (sym (length-range_with_len 0 n)) lt))

module _ {F : Type 0} {g : Mut F (ℕ × Unit {0}) Bool} (P : ℕ → Type 0) (n : ℕ) {s : Range ℕ} (u : Range ℕ) (f : F)
    (called : (x : ℕ) (b : Bool) (q : F) → Called g f (x, tt) b q → (q ≡ f) × ((b ≡ true) ↔ P x)) (whole : s ≡ record { start = 0; end = n }) where
  pub any_below : (r : Bool)
      → (xs : List ℕ) × (o : Option ℕ) × (j : F) × YieldsThen nat_range_steps s xs o u × FoldsTo (λ p x q. Called g p (x, tt) false q) f xs j × MatchOption o (r ≡ false) (λ x. (r ≡ true) × ((h : F) × Called g j (x, tt) true h))
      → (r ≡ true) ↔ ((k : ℕ) × (k < n) × P k)
  any_below r ran = decided r (cases_from_any u f r P (λ x. P x → ⊥) ran (YieldsList-from_range 0 n n whole (omega arith))
      (λ x q k. (called x true q k).1.0 refl) (λ x q k. let h = called x false q k in (h.0, λ p. false≢true (h.1.1 p))))
    where
      decided : (r : Bool) → MatchBool r ((k : ℕ) × (k < length (range_with_len 0 n)) × HoldsAt P (range_with_len 0 n) k) (AllWithin (λ x. P x → ⊥) (range_with_len 0 n) 0 (length (range_with_len 0 n)))
          → (r ≡ true) ↔ ((k : ℕ) × (k < n) × P k)
      decided true h = (λ _. found_one P n h, λ _. refl)
      decided false h = (λ e. absurd (false≢true e), λ w. absurd (found_all (λ x. P x → ⊥) n h w.0 w.1 w.2))

  pub all_below : (r : Bool)
      → (xs : List ℕ) × (o : Option ℕ) × (j : F) × YieldsThen nat_range_steps s xs o u × FoldsTo (λ p x q. Called g p (x, tt) true q) f xs j × MatchOption o (r ≡ true) (λ x. (r ≡ false) × ((h : F) × Called g j (x, tt) false h))
      → (r ≡ true) ↔ ((k : ℕ) → k < n → P k)
  all_below r ran = decided r (cases_from_all u f r P (λ x. P x → ⊥) ran (YieldsList-from_range 0 n n whole (omega arith))
      (λ x q k. let h = called x true q k in (h.0, h.1.0 refl)) (λ x q k. λ p. false≢true ((called x false q k).1.1 p)))
    where
      decided : (r : Bool) → MatchBool r (AllWithin P (range_with_len 0 n) 0 (length (range_with_len 0 n))) ((k : ℕ) × (k < length (range_with_len 0 n)) × HoldsAt (λ x. P x → ⊥) (range_with_len 0 n) k)
          → (r ≡ true) ↔ ((k : ℕ) → k < n → P k)
      decided true h = (λ _. found_all P n h, λ _. refl)
      decided false h = (λ e. absurd (false≢true e), λ w. let b = found_one (λ x. P x → ⊥) n h in absurd (b.2 (w b.0 b.1)))

-- How many pairs below n a relation lacks. Assumes nothing.
use Rattle.std.proofs.Common.{◌≡◌, ℕ, zero, suc, ◌+◌, ◌<◌, ◌≤◌, Bool, true, false, cond, sym, refl, ap, ◌∙◌, inl, inr, arith}
use Rattle.std.proofs.lemmas.Bool.{cases_eq}
use Rattle.ready.specs.Pairs.{Rel}
use Rattle.ready.specs.Rounds.{Grown}

unfoldable pub lack : (ℕ → Bool) → ℕ → ℕ
lack f zero = 0
lack f (suc n) = lack f n + cond (f n) 0 1

unfoldable pub lacks : Rel → ℕ → ℕ → ℕ
lacks r w zero = 0
lacks r w (suc n) = lacks r w n + lack (r n) w

one_le : (x y : Bool) → (x ≡ true → y ≡ true) → ◌≤◌ (cond y 0 1) (cond x 0 1)
one_le x true h = omega arith
one_le false false h = omega arith
one_le true false h = let e : false ≡ true = h refl in let z : ◌≡◌ {A = ℕ} 0 1 = ap (λ (b : Bool). cond b 1 0) e in omega arith

module _ (f g : ℕ → Bool) (more : (p : ℕ) → f p ≡ true → g p ≡ true) where
  lack_le : (n : ℕ) → lack g n ≤ lack f n
  unfolding lack
  lack_le zero = omega arith
  lack_le (suc n) = omega (arith, lack_le n, one_le (f n) (g n) (more n))

  pub lack_lt : (n k : ℕ) → k < n → f k ≡ false → g k ≡ true → lack g n < lack f n
  unfolding lack
  lack_lt zero k h a b = absurd (omega arith)
  lack_lt (suc n) k h a b = elim (cases_eq k n) [ inl e ↦ here e | inr ne ↦ omega (arith, lack_lt n k (omega arith) a b, one_le (f n) (g n) (more n)) ]
    where
      here : k ≡ n → lack g n + cond (g n) 0 1 < lack f n + cond (f n) 0 1
      here e =
          let x : ◌≡◌ {A = ℕ} (cond (f n) 0 1) 1 = ap (λ (b : Bool). cond b 0 1) (ap f (sym e) ∙ a) in
          let y : ◌≡◌ {A = ℕ} (cond (g n) 0 1) 0 = ap (λ (b : Bool). cond b 0 1) (ap g (sym e) ∙ b) in
          omega (arith, lack_le n)

module _ (r s : Rel) (more : Grown r s) (w : ℕ) where
  lacks_le : (n : ℕ) → lacks s w n ≤ lacks r w n
  unfolding lacks
  lacks_le zero = omega arith
  lacks_le (suc n) = omega (arith, lacks_le n, lack_le (r n) (s n) (more n) w)

  -- one pair more, and one less is lacking
  pub lacks_lt : (n q p : ℕ) → q < n → p < w → r q p ≡ false → s q p ≡ true → lacks s w n < lacks r w n
  unfolding lacks
  lacks_lt zero q p h k a b = absurd (omega arith)
  lacks_lt (suc n) q p h k a b = elim (cases_eq q n) [ inl e ↦ here e | inr ne ↦ omega (arith, lacks_lt n q p (omega arith) k a b, lack_le (r n) (s n) (more n) w) ]
    where
      here : q ≡ n → lacks s w n + lack (s n) w < lacks r w n + lack (r n) w
      here e =
          omega (arith, lacks_le n, lack_lt (r n) (s n) (more n) w p k (ap (λ (x : ℕ). r x p) (sym e) ∙ a) (ap (λ (x : ℕ). s x p) (sym e) ∙ b))

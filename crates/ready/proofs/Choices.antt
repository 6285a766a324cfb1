-- One of two kinds. Assumes nothing.
use Rattle.std.proofs.Common.{◌≡◌, ℕ, zero, suc, ◌<◌, ◌≤◌, ◌⊎◌, subst, inl, inr, arith}
use Rattle.std.proofs.lemmas.Bool.{cases_lt}

-- each number below n is of the one kind, or some number is of the other
pub each_or_one : (n : ℕ) (P Q : ℕ → Type 0) → ((k : ℕ) → P k ⊎ Q k) → ((k : ℕ) → k < n → P k) ⊎ ((k : ℕ) × (k < n) × Q k)
each_or_one zero P Q h = inl (λ k lt. absurd (omega arith))
each_or_one (suc n) P Q h = go (h n) (each_or_one n P Q h)
  where
    go : (P n ⊎ Q n) → (((k : ℕ) → k < n → P k) ⊎ ((k : ℕ) × (k < n) × Q k)) → ((k : ℕ) → k < suc n → P k) ⊎ ((k : ℕ) × (k < suc n) × Q k)
    go (inr a) b = inr (n, omega arith, a)
    go (inl a) (inr b) = inr (b.0, omega (arith, b.1), b.2)
    go (inl a) (inl b) = inl (λ k lt. elim (cases_lt k n) [ inl l ↦ b k l | inr g ↦ at_n k lt g ])
      where
        at_n : (k : ℕ) → k < suc n → n ≤ k → P k
        at_n k lt g = let e : n ≡ k = omega arith in subst P e a

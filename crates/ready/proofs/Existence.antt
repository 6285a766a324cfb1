-- Every lawful machine has the pairs that are wanted: as long as a question is open, its answer is one pair more, and
-- there are only so many pairs. Assumes nothing.
use Rattle.std.proofs.Common.{◌≡◌, ℕ, zero, suc, ◌<◌, ◌≤◌, true, false, ◌&&◌, eqb, ltb, ◌⊎◌, refl, sym, ◌∙◌, inl, inr, arith}
use Rattle.std.proofs.Math.Logic.{∥∥₁_elim}
use Rattle.std.specs.Cmp.{both_ways as same_test}
use base.Stored.{Coded-set, coded_bool}
use Rattle.std.proofs.lemmas.Bool.{cases_Bool, both_ways}
use Rattle.book.specs.Limits.{tags}
use Rattle.book.specs.Machines.{Machine, Lawful}
use Rattle.book.specs.Tables.{Fits}
use Rattle.book.proofs.Ranges.{back_below}
use Rattle.ready.specs.Pairs.{Rel, joined}
use Rattle.ready.specs.Rounds.{RowsLead, Found, Answered}
use Rattle.ready.proofs.Choices.{each_or_one}
use Rattle.ready.proofs.Counts.{lacks, lacks_lt}
use Rattle.ready.proofs.Relations.{positive, found_first, asked_new, rows_lead, fits}

module _ (m : Machine) (law : Lawful m) where
  abbrev Asked : Rel → ℕ → ℕ → ℕ → Type 0
  Asked r q t p = r (m.enter q t) p ≡ true → r q (m.back q p t) ≡ true

  abbrev OpenQuestion : Rel → ℕ → ℕ → ℕ → Type 0
  OpenQuestion r q t p = (r (m.enter q t) p ≡ true) × (r q (m.back q p t) ≡ false)

  asked_or_open : (r : Rel) (q t p : ℕ) → Asked r q t p ⊎ OpenQuestion r q t p
  asked_or_open r q t p = elim (cases_Bool (r q (m.back q p t))) [
    | inl a ↦ inl (λ _. a)
    | inr a ↦ elim (cases_Bool (r (m.enter q t) p)) [ inl b ↦ inr (b, a) | inr b ↦ inl (λ c. absurd (both_ways _ b c)) ]
  ]

  -- every question of a state is answered, or one is open
  answered_or_open : (r : Rel) → Answered m r r
      ⊎ ((q : ℕ) × (q < m.width) × ((t : ℕ) × (t < tags) × ((p : ℕ) × (p < m.width) × OpenQuestion r q t p)))
  answered_or_open r =
      elim (each_or_one m.width _ _ (λ q. each_or_one tags _ _ (λ t. each_or_one m.width (Asked r q t) (OpenQuestion r q t) (asked_or_open r q t))))
      [ inl a ↦ inl (λ q t hq ht p hp h. a q hq t ht p hp h) | inr b ↦ inr b ]

  -- every question is answered, or there is one pair more
  more_or_all : (r : Rel) → Found m r → Answered m r r ⊎ ((s : Rel) × Found m s × (lacks s m.width m.width < lacks r m.width m.width))
  more_or_all r found = elim (answered_or_open r) [ inl a ↦ inl a | inr b ↦ inr (more b.0 b.1 b.2.0 b.2.1 b.2.2.0 b.2.2.2) ]
    where
      more : (q : ℕ) → q < m.width → (t : ℕ) → t < tags → (p : ℕ) → OpenQuestion r q t p
          → (s : Rel) × Found m s × (lacks s m.width m.width < lacks r m.width m.width)
      more q hq t ht p b =
          let to : ℕ = m.back q p t in
          let s : Rel = joined r m.width q to in
          let next = asked_new m law r s found q p t hq ht (found.sound (m.enter q t) p b.0).1 (λ x y. refl) in
          (s, next.0, lacks_lt r s next.1 m.width m.width q to hq (back_below m law (positive m q hq) q p t) b.1 next.2)

  all_found : (n : ℕ) (r : Rel) → Found m r → lacks r m.width m.width ≤ n → (s : Rel) × Found m s × Answered m s s
  all_found zero r found h = elim (more_or_all r found) [ inl a ↦ (r, found, a) | inr b ↦ absurd (omega (arith, b.2)) ]
  all_found (suc n) r found h = elim (more_or_all r found) [ inl a ↦ (r, found, a) | inr b ↦ all_found n b.0 b.1 (omega (arith, b.2)) ]

  pub pairs_exist : (r : Rel) × RowsLead m r
  pairs_exist =
      let first : Rel = λ q p. ltb q m.width && eqb p q in
      let last = all_found (lacks first m.width m.width) first (found_first m first (λ q p. refl)) (omega arith) in
      (last.0, rows_lead m law last.0 last.1 last.2)

-- what a ready book's type says of its table: it says that there is a proof, and here is one
pub ready_leads : (m : Machine) → Lawful m → (r : Rel) → ∥ RowsLead m r ∥₁ → RowsLead m r
ready_leads m law r some q p = (λ a. (known.1 q p).0 (sym (agree q p) ∙ a), λ a. agree q p ∙ (known.1 q p).1 a)
  where
    known : (s : Rel) × RowsLead m s
    known = pairs_exist m law

    agree : (x y : ℕ) → r x y ≡ known.0 x y
    agree x y =
        ∥∥₁_elim some (Coded-set coded_bool (r x y) (known.0 x y))
        (λ lead. same_test (r x y) (known.0 x y) (λ a. (known.1 x y).1 ((lead x y).0 a)) (λ a. (lead x y).1 ((known.1 x y).0 a)))

pub ready_fits : (m : Machine) → Lawful m → (r : Rel) → ∥ RowsLead m r ∥₁ → Fits m r
ready_fits m law r some = fits m r (ready_leads m law r some)

-- and the same of what a search has found
pub search_found : (m : Machine) → Lawful m → (r : Rel) → ∥ Found m r ∥₁ → Found m r
search_found m law r some =
    record {
      sound = λ q p a. (known.1 q p).0 (∥∥₁_elim some (Coded-set coded_bool (known.0 q p) true) (λ found. (known.1 q p).1 (found.sound q p a)));
      reflexive = λ q h. ∥∥₁_elim some (Coded-set coded_bool (r q q) true) (λ found. found.reflexive q h);
      transitive = λ q s p a b. ∥∥₁_elim some (Coded-set coded_bool (r q p) true) (λ found. found.transitive q s p a b);
    }
  where
    known : (s : Rel) × RowsLead m s
    known = pairs_exist m law

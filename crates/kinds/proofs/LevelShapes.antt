-- The law of the level shape.
use Rattle.std.proofs.Common.{◌≡◌, ℕ, suc, ◌+◌, ◌<◌, ◌≤◌, Bool, true, false, cond, eqb, ltb, leb, List, [], ◌∷◌, reverse, length, Decides, sym, refl, ◌∙◌, subst, inl, inr, add-one, arith}
use Rattle.std.specs.List.{AllByRecursion}
use Rattle.std.proofs.lemmas.List.{length-reverse}
use Rattle.std.proofs.lemmas.Bool.Decides.{Decides-like}
use Rattle.std.proofs.lemmas.Bool.{cases_lt, ltb-true, lt-ltb, le-ltb, le-leb, lt-leb, eqb-true, eqb-false, ne_eqb, eq-eqb, both_ways, cond_both}
use Rattle.book.specs.Limits.{tags}
use Rattle.book.specs.declared.event.Event.{Event}
use Rattle.book.specs.declared.event.Event.TheVariants.{Open, Close, End}
use Rattle.book.specs.Catalogue.{follow, within, over, after, count}
use Rattle.book.specs.Machines.{plainly, stand, step}
use Rattle.kinds.specs.Places.{tags_to_from}
use Rattle.kinds.specs.LevelShape.{level_machine, LevelAccepts}
use Rattle.book.proofs.Nesting.{not_from_broken, within_not_over, over_only_empty, passed, count_grows}
use Rattle.kinds.proofs.Simulations.{stays}

module _ (d : ℕ) where
  -- Answers -------------------------------------------------------------------------------------------------------

  enter_deeper : (s t : ℕ) → s ≤ d → t < tags → (level_machine d).enter s t ≡ suc s
  enter_deeper s t hs ht = simp (lt-ltb s (d + 2) (omega arith), lt-ltb t tags ht, lt-ltb s (d + 1) (omega arith)) (add-one s)

  enter_deepest : (t : ℕ) → t < tags → (level_machine d).enter (d + 1) t ≡ d + 1
  enter_deepest t ht = simp (lt-ltb (d + 1) (d + 2) (omega arith), lt-ltb t tags ht, le-ltb (d + 1) (d + 1) (omega arith))

  back_outer : (s t : ℕ) → suc s ≤ d → t < tags → (level_machine d).back s (suc s) t ≡ s
  back_outer s t hs ht = simp (lt-ltb s (d + 2) (omega arith), lt-ltb (suc s) (d + 2) (omega arith), lt-ltb t tags ht, ne_eqb (suc s) (d + 1) (λ e. omega arith))

  back_deepest : (s t : ℕ) → s < d + 2 → t < tags → (level_machine d).back s (d + 1) t ≡ d + 1
  back_deepest s t hs ht = simp (lt-ltb s (d + 2) hs, lt-ltb (d + 1) (d + 2) (omega arith), lt-ltb t tags ht, eq-eqb (d + 1) (d + 1) refl)

  -- Runs ----------------------------------------------------------------------------------------------------------

  -- the numbers of open items that were set aside
  abbrev depths : List ℕ → List ℕ
  depths [] = []
  depths (t ∷ ts) = length ts ∷ depths ts

  depths_below : (ts : List ℕ) → length ts ≤ d → AllByRecursion (λ q. q < d + 2) (depths ts)
  depths_below [] h = tt
  depths_below (t ∷ ts) h = (omega arith, depths_below ts (omega arith))

  abbrev ends : ℕ → List ℕ → ℕ → List Event → ℕ
  ends q ss n c = (follow (step (level_machine d) (plainly (level_machine d))) (stand q ss n) c).state

  -- no item that is opened from here on lies deeper than d
  abbrev Shallow : List ℕ → ℕ → List Event → Type 0
  Shallow ts n c = (i : ℕ) → n < i → i ≤ follow count n c → length (tags_to_from ts n i c) ≤ d

  -- one item more, not deeper than d
  shallow_more : (t : ℕ) (ts : List ℕ) (n : ℕ) (c : List Event) → suc (length ts) ≤ d → Shallow (t ∷ ts) (suc n) c → Shallow ts n (Open t ∷ c)
  shallow_more t ts n c low h i above most =
      cond_both (eqb (suc n) i) (reverse (t ∷ ts)) (tags_to_from (t ∷ ts) (suc n) i c) (λ p. length p ≤ d)
      (λ e. let l : length (reverse (t ∷ ts)) ≡ length (t ∷ ts) = length-reverse (t ∷ ts) in omega arith)
      (λ e. let ne : suc n ≡ i → ⊥ = eqb-false (suc n) i e in h i (omega arith) most)

  shallow_less : (t : ℕ) (ts : List ℕ) (n : ℕ) (c : List Event) → Shallow ts n (Open t ∷ c) → Shallow (t ∷ ts) (suc n) c
  shallow_less t ts n c h i above most =
      let e : eqb (suc n) i ≡ false = ne_eqb (suc n) i (λ e. omega arith) in
      subst (λ (b : Bool). length (cond b (reverse (t ∷ ts)) (tags_to_from (t ∷ ts) (suc n) i c)) ≤ d) e (h i (omega arith) most)

  -- an item deeper than d
  shallow_not : (t : ℕ) (ts : List ℕ) (n : ℕ) (c : List Event) → d < suc (length ts) → Shallow ts n (Open t ∷ c) → ⊥
  shallow_not t ts n c deep h =
      let e : eqb (suc n) (suc n) ≡ true = eq-eqb (suc n) (suc n) refl in
      let l : length (reverse (t ∷ ts)) ≡ length (t ∷ ts) = length-reverse (t ∷ ts) in
      let k : length (reverse (t ∷ ts)) ≤ d = subst (λ (b : Bool). length (cond b (reverse (t ∷ ts)) (tags_to_from (t ∷ ts) (suc n) (suc n) c)) ≤ d) e (h (suc n) (omega arith) (count_grows c (suc n))) in
      omega arith

  level_from : (c : List Event) (ts : List ℕ) (n : ℕ) → length ts ≤ d → AllByRecursion (λ t. t < tags) ts → follow after (within ts) c ≡ over
      → Decides (leb (ends (length ts) (depths ts) n c) d) (Shallow ts n c)
  level_from [] ts n low all h = absurd (within_not_over ts h)
  level_from (Open t ∷ c) ts n low all h =
      elim (cases_lt (length ts) d) [ inl l ↦ deeper l (level_from c (t ∷ ts) (suc n) l (small, all) rest) | inr l ↦ deepest l ]
    where
      small : t < tags
      small = ltb-true t tags (passed (ltb t tags) (within (t ∷ ts)) c h).0

      rest : follow after (within (t ∷ ts)) c ≡ over
      rest = (passed (ltb t tags) (within (t ∷ ts)) c h).1

      deeper : length ts < d → Decides (leb (ends (length (t ∷ ts)) (depths (t ∷ ts)) (suc n) c) d) (Shallow (t ∷ ts) (suc n) c)
          → Decides (leb (ends (length ts) (depths ts) n (Open t ∷ c)) d) (Shallow ts n (Open t ∷ c))
      deeper l more =
          subst (λ (q : ℕ). Decides (leb (ends q (length ts ∷ depths ts) (suc n) c) d) (Shallow ts n (Open t ∷ c))) (sym (enter_deeper (length ts) t low small))
          (Decides-like _ (shallow_more t ts n c l) (shallow_less t ts n c) more)

      deepest : d ≤ length ts → Decides (leb (ends (length ts) (depths ts) n (Open t ∷ c)) d) (Shallow ts n (Open t ∷ c))
      deepest l =
          let q : ℕ = (level_machine d).enter (length ts) t in
          let begins : q ≡ d + 1 = enter_deeper (length ts) t low small ∙ omega arith in
          let at_end : ends q (length ts ∷ depths ts) (suc n) c ≡ d + 1 =
          stays (level_machine d) (plainly (level_machine d)) (d + 1) 0 (omega arith) (λ k u _ hu. enter_deepest u hu) back_deepest
          c (stand q (length ts ∷ depths ts) (suc n)) (t ∷ ts) begins (omega arith) (omega arith, depths_below ts low) (small, all) rest in
          let refused : leb (ends q (length ts ∷ depths ts) (suc n) c) d ≡ false = lt-leb (ends q (length ts ∷ depths ts) (suc n) c) d (omega arith) in
          (λ e. absurd (both_ways _ refused e), λ s. absurd (shallow_not t ts n c (omega arith) s))
  level_from (Close t ∷ c) [] n low all h = absurd (not_from_broken c h)
  level_from (Close t ∷ c) (u ∷ ts) n low all h =
      let p = passed (eqb u t) (within ts) c h in
      let small : t < tags = subst (λ (x : ℕ). x < tags) (eqb-true u t p.0) all.0 in
      subst (λ (q : ℕ). Decides (leb (ends q (depths ts) n c) d) (Shallow ts n c)) (sym (back_outer (length ts) t low small))
      (level_from c ts n (omega arith) all.1 p.1)
  level_from (End ∷ c) [] n low all h =
      subst (λ (e : List Event). Decides (leb (ends 0 [] n e) d) (Shallow [] n (End ∷ e))) (sym (over_only_empty c h))
      (λ _ i above most. absurd (omega arith), λ _. le-leb 0 d (omega arith))
  level_from (End ∷ c) (u ∷ ts) n low all h = absurd (not_from_broken c h)

  pub level_accepts : LevelAccepts d
  level_accepts c h =
      Decides-like _ (λ s i low high. s i low high) (λ s i low high. s i low high) (level_from c [] 0 (omega arith) tt h)

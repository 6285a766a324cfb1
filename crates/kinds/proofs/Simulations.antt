-- Runs side by side: what every event keeps, a run keeps.
use Rattle.std.proofs.Common.{◌≡◌, ℕ, suc, ◌-◌, ◌<◌, ◌≤◌, Bool, true, false, cond, eqb, ltb, List, [], ◌∷◌, sym, refl, ap, ◌∙◌, subst, arith}
use Rattle.std.specs.List.{AllByRecursion}
use Rattle.std.proofs.lemmas.Bool.{ltb-true, eqb-true, cond_both}
use Rattle.book.specs.declared.event.Event.{Event}
use Rattle.book.specs.declared.event.Event.TheVariants.{Open, Close, End}
use Rattle.book.specs.Limits.{tags}
use Rattle.book.specs.Catalogue.{follow, Nest, within, over, broken, after}
use Rattle.book.specs.Machines.{Machine, Marks, Lawful, LawfulMarks, selecting, Entering, plainly, marking, Stand, stand, last, others, step, run}

-- Two runs --------------------------------------------------------------------------------------------------------

-- a relation that every event keeps holds after any events
pub follow_related : {S T : Type 0} (R : S → T → Type 0) (f : S → Event → S) (g : T → Event → T)
    → ((s : S) (t : T) (e : Event) → R s t → R (f s e) (g t e))
    → (c : List Event) (s : S) (t : T) → R s t → R (follow f s c) (follow g t c)
follow_related R f g keep [] s t r = r
follow_related R f g keep (e ∷ c) s t r = follow_related R f g keep c (f s e) (g t e) (keep s t e r)

-- two runs as one
pub follow_pair : {S T : Type 0} (f : S → Event → S) (g : T → Event → T) (c : List Event) (s : S) (t : T)
    → follow {S = S × T} (λ o e. (f o.0 e, g o.1 e)) (s, t) c ≡ (follow f s c, follow g t c)
follow_pair f g [] s t = refl
follow_pair f g (e ∷ c) s t = follow_pair f g c (f s e) (g t e)

-- machines that answer alike run alike
pub run_same : (m n : Machine) (f g : Entering) → m.start ≡ n.start
    → ((s q t : ℕ) → m.back s q t ≡ n.back s q t) → ((k s t : ℕ) → f k s t ≡ g k s t)
    → (c : List Event) → run m f c ≡ run n g c
run_same m n f g start back enter c =
    follow_related ◌≡◌ (step m f) (step n g) (λ s t e p. subst (λ (u : Stand). step m f s e ≡ step n g u e) p (one s e)) c
    (stand m.start [] 0) (stand n.start [] 0) (ap (λ (q : ℕ). stand q [] 0) start)
  where
    one : (s : Stand) (e : Event) → step m f s e ≡ step n g s e
    one s (Open t) = ap (λ (q : ℕ). stand q (s.state ∷ s.aside) (suc s.items)) (enter (suc s.items) s.state t)
    one s (Close t) = ap (λ (q : ℕ). stand q (others s.aside) s.items) (back (last s.aside) s.state t)
    one s End = refl

-- One run ---------------------------------------------------------------------------------------------------------

-- each item is entered within the width
abbrev pub Enters : Machine → Entering → Type 0
Enters m f = (k s t : ℕ) → f k s t ≤ m.width - 1

pub plainly_enters : (m : Machine) → Lawful m → Enters m (plainly m)
plainly_enters m law k s t = law.enters s t

pub marking_enters : (m : Machine) (x : Marks) (i : ℕ) → Lawful m → LawfulMarks m x → Enters m (marking (selecting m x) i)
marking_enters m x i law marks k s t =
    cond_both (eqb k i) (x s t) (m.enter s t) (λ q. q ≤ m.width - 1) (λ _. marks.marks s t) (λ _. law.enters s t)

-- a run stays within the width
pub run_within : (m : Machine) (f : Entering) → Lawful m → Enters m f → (c : List Event) → (run m f c).state ≤ m.width - 1
run_within m f law enters c =
    follow_related (λ (s t : Stand). s.state ≤ m.width - 1) (step m f) (step m f) keep c (stand m.start [] 0) (stand m.start [] 0) law.starts
  where
    keep : (s t : Stand) (e : Event) → s.state ≤ m.width - 1 → (step m f s e).state ≤ m.width - 1
    keep s t (Open u) h = enters (suc s.items) s.state u
    keep s t (Close u) h = law.backs (last s.aside) s.state u
    keep s t End h = h

-- A state that stays ----------------------------------------------------------------------------------------------

-- The state z stays itself in every item and behind every item, and past the item n every item is entered plainly.
module _ (m : Machine) (f : Entering) (z n : ℕ) (below : z < m.width)
    (enter : (k t : ℕ) → n < k → t < tags → f k z t ≡ z)
    (back : (s t : ℕ) → s < m.width → t < tags → m.back s z t ≡ z) where
  -- the run stands in z, whatever the events came to
  Fixed : Stand → Nest → Type 0
  Fixed s (within ts) = (s.state ≡ z) × (n ≤ s.items) × AllByRecursion (λ q. q < m.width) s.aside × AllByRecursion (λ t. t < tags) ts
  Fixed s over = s.state ≡ z
  Fixed s broken = Unit {0}

  aside_below : (ss : List ℕ) → AllByRecursion (λ q. q < m.width) ss → (last ss < m.width) × AllByRecursion (λ q. q < m.width) (others ss)
  aside_below [] h = (omega arith, tt)
  aside_below (s ∷ ss) h = (h.0, h.1)

  keep_fixed : (s : Stand) (h : Nest) (e : Event) → Fixed s h → Fixed (step m f s e) (after h e)
  unfolding Fixed
  keep_fixed s (within ts) (Open t) r = by (ltb t tags) refl
    where
      by : (b : Bool) → ltb t tags ≡ b → Fixed (step m f s (Open t)) (cond b (within (t ∷ ts)) broken)
      by true e =
          let small : t < tags = ltb-true t tags e in (
            ap (λ (q : ℕ). f (suc s.items) q t) r.0 ∙ enter (suc s.items) t (omega (arith, r.1)) small,
            omega (arith, r.1),
            (subst (λ (q : ℕ). q < m.width) (sym r.0) below, r.2),
            (small, r.3),
          )
      by false e = tt
  keep_fixed s (within []) (Close t) r = tt
  keep_fixed s (within (u ∷ ts)) (Close t) r = by (eqb u t) refl
    where
      by : (b : Bool) → eqb u t ≡ b → Fixed (step m f s (Close t)) (cond b (within ts) broken)
      by true e =
          let a = aside_below s.aside r.2 in
          let small : t < tags = subst (λ (x : ℕ). x < tags) (eqb-true u t e) r.3.0 in (
            ap (λ (q : ℕ). m.back (last s.aside) q t) r.0 ∙ back (last s.aside) t a.0 small,
            r.1,
            a.1,
            r.3.1,
          )
      by false e = tt
  keep_fixed s (within []) End r = r.0
  keep_fixed s (within (u ∷ ts)) End r = tt
  keep_fixed s over e r = tt
  keep_fixed s broken e r = tt

  pub stays : (c : List Event) (s : Stand) (ts : List ℕ) → s.state ≡ z → n ≤ s.items
      → AllByRecursion (λ q. q < m.width) s.aside → AllByRecursion (λ t. t < tags) ts → follow after (within ts) c ≡ over
      → (follow (step m f) s c).state ≡ z
  unfolding Fixed
  stays c s ts a b d e h =
      subst (Fixed (follow (step m f) s c)) h (follow_related Fixed (step m f) after keep_fixed c s (within ts) (a, b, d, e))

-- The law of the path book.
use Rattle.std.proofs.Common.{◌≡◌, ℕ, zero, suc, ◌+◌, ◌-◌, ◌*◌, ◌/◌, ◌%◌, ◌^◌, ◌<◌, ◌≤◌, Bool, true, false, cond, ◌&&◌, ◌||◌, eqb, ltb, leb, ◌⊎◌, List, [], ◌∷◌, reverse, length, drop, Decides, sym, refl, ap, ◌∙◌, subst, inl, inr, add-one, add-zero, pow-suc, arith, drop-cons, pow_pos}
use mathlib.Core.List.{reverse_aux}
use native.Mathlib.Nat.{div-eq_of_lt, add-mul-div_right}
use Rattle.std.specs.List.{AllByRecursion}
use Rattle.std.proofs.lemmas.Nat.{pow-add, pow_below}
use Rattle.std.proofs.lemmas.List.{drop_all}
use Rattle.std.proofs.lemmas.Bool.Decides.{Decides-at}
use Rattle.std.proofs.lemmas.Bool.{cases_lt, cases_eq, ltb-true, lt-ltb, le-ltb, le-leb, eqb-true, ne_eqb, eq-eqb, both_ways, and_parts, and_from, or_cases, or_left, or_right}
use Rattle.book.specs.Limits.{tags}
use Rattle.book.specs.declared.event.Event.{Event}
use Rattle.book.specs.declared.event.Event.TheVariants.{Open, Close, End}
use Rattle.kinds.specs.declared.path.Axis.{Axis}
use Rattle.kinds.specs.declared.path.Axis.TheVariants.{Child, Descendant}
use Rattle.kinds.specs.declared.path.PathStep.{PathStep}
use Rattle.book.specs.Catalogue.{follow, within, over, after, count, opened}
use Rattle.book.specs.Machines.{selecting, marking, stand, step}
use Rattle.kinds.specs.Places.{tags_to_from}
use Rattle.kinds.specs.Path.{descends, fits, step_at, member, set_of, set_of_below, keeps, adds, enter_set, matches, hit, miss, path_machine, path_marks, Fits, none_left, next_fits, passed_over, PathSelects}
use Rattle.book.proofs.Nesting.{not_from_broken, within_not_over, over_only_empty, passed}
use Rattle.kinds.proofs.Simulations.{stays}

-- Members of a set ------------------------------------------------------------------------------------------------

-- a higher power of two leaves a bit as it is
lower_bit : (j m x : ℕ) → j < m → (x + 2 ^ m) / 2 ^ j % 2 ≡ x / 2 ^ j % 2
lower_bit j m x h =
    let k : ℕ = m - j - 1 in
    let e : m ≡ suc k + j = omega arith in
    ap (λ (n : ℕ). (x + 2 ^ n) / 2 ^ j % 2) e ∙ ap (λ (y : ℕ). (x + y) / 2 ^ j % 2) (pow-add 2 (suc k) j)
    ∙ ap (λ (y : ℕ). y % 2) (add-mul-div_right x (2 ^ suc k) (pow_pos j)) ∙ (let p : 2 ^ suc k ≡ 2 ^ k * 2 = pow-suc 2 k in omega arith)

-- one number more
pub set_more : (p : ℕ → Bool) (m : ℕ) → set_of p (m + 1) ≡ set_of p m + cond (p m) (2 ^ m) 0
set_more p m = ap (set_of p) (add-one m)

-- one place more
pub adds_more : (steps : List PathStep) (s t j : ℕ) → adds steps s t (j + 1) ≡ (member s j && fits (step_at steps j) t)
adds_more steps s t j = ap (adds steps s t) (add-one j)

member_set_of : (p : ℕ → Bool) (m j : ℕ) → j < m → member (set_of p m) j ≡ p j
member_set_of p zero j h = absurd (omega arith)
member_set_of p (suc m) j h =
    elim (cases_lt j m) [ inl l ↦ below l (p m) (member_set_of p m j l) | inr l ↦ top (omega arith) ]
  where
    below : j < m → (b : Bool) → member (set_of p m) j ≡ p j → member (set_of p m + cond b (2 ^ m) 0) j ≡ p j
    below l true e = ap (λ (x : ℕ). eqb x 1) (lower_bit j m (set_of p m) l) ∙ e
    below l false e = ap (λ (x : ℕ). member x j) (add-zero (set_of p m)) ∙ e

    here : (b : Bool) → member (set_of p m + cond b (2 ^ m) 0) m ≡ b
    here true =
        let one : (set_of p m + 1 * 2 ^ m) / 2 ^ m ≡ set_of p m / 2 ^ m + 1 = add-mul-div_right (set_of p m) 1 (pow_pos m) in
        let none : set_of p m / 2 ^ m ≡ 0 = div-eq_of_lt (set_of_below p m) in
        let same : set_of p m + 2 ^ m ≡ set_of p m + 1 * 2 ^ m = omega arith in
        ap (λ (x : ℕ). eqb (x / 2 ^ m % 2) 1) same ∙ ap (λ (x : ℕ). eqb (x % 2) 1) (one ∙ ap (λ (x : ℕ). x + 1) none)
    here false =
        ap (λ (x : ℕ). member x m) (add-zero (set_of p m)) ∙ ap (λ (x : ℕ). eqb (x % 2) 1) (div-eq_of_lt (set_of_below p m))

    top : j ≡ m → member (set_of p (suc m)) j ≡ p j
    top e = ap (member (set_of p (suc m))) e ∙ here (p m) ∙ ap p (sym e)

-- the first set has 0 alone
member_one : (j : ℕ) → member 1 j ≡ true → j ≡ 0
member_one zero h = refl
member_one (suc j) h = absurd (both_ways (member 1 (suc j)) none h)
  where
    none : member 1 (suc j) ≡ false
    none = ap (λ (x : ℕ). eqb (x % 2) 1) (div-eq_of_lt (pow_below 0 (suc j) (omega arith)))

-- Sets and the tags that they wait for ------------------------------------------------------------------------------

descendant : (a : Axis) → descends a ≡ true → a ≡ Descendant
descendant Child h = cc
descendant Descendant h = refl

step_fits_none : {a : PathStep} {rest : List PathStep} → Fits (a ∷ rest) [] → ⊥
step_fits_none f = elim f [ ]

none_fits_tag : {t : ℕ} {ts : List ℕ} → Fits [] (t ∷ ts) → ⊥
none_fits_tag f = elim f [ ]

fits_cases : {a : PathStep} {rest : List PathStep} {t : ℕ} {ts : List ℕ} → Fits (a ∷ rest) (t ∷ ts)
    → ((fits a t ≡ true) × Fits rest ts) ⊎ ((a.axis ≡ Descendant) × Fits (a ∷ rest) ts)
fits_cases (next_fits h f) = inl (h, f)
fits_cases (passed_over d f) = inr (d, f)

module _ (steps : List PathStep) (some : 1 ≤ length steps) where
  -- what is left behind the first j steps
  left_at : (j : ℕ) → j < length steps → drop j steps ≡ step_at steps j ∷ drop (suc j) steps
  left_at j h = drop-cons steps j _ h

  -- The set s waits for the tags ts: from a place of s on they fit.
  Waits : ℕ → List ℕ → Type 0
  Waits s ts = (j : ℕ) × (j < length steps) × (member s j ≡ true) × Fits (drop j steps) ts

  start_waits : (ts : List ℕ) → Waits 1 ts → Fits steps ts
  unfolding Waits
  start_waits ts w = subst (λ (j : ℕ). Fits (drop j steps) ts) (member_one w.0 w.2) w.3

  waits_start : (ts : List ℕ) → Fits steps ts → Waits 1 ts
  unfolding Waits
  waits_start ts f = (0, omega arith, refl, f)

  -- the set inside an item with the tag t waits for what may follow t
  enter_waits : (s t u : ℕ) (us : List ℕ) → Waits (enter_set steps s t) (u ∷ us) → Waits s (t ∷ u ∷ us)
  unfolding Waits
  enter_waits s t u us w = from w.0 w.1 w.3 (sym (member_set_of (λ j. keeps steps s j || adds steps s t j) (length steps) w.0 w.1) ∙ w.2)
    where
      kept : (j : ℕ) → j < length steps → Fits (drop j steps) (u ∷ us) → keeps steps s j ≡ true → Waits s (t ∷ u ∷ us)
      kept j h f e =
          let p = and_parts (member s j) (descends (step_at steps j).axis) e in (
            j,
            h,
            p.0,
            subst (λ (l : List PathStep). Fits l (t ∷ u ∷ us)) (sym (left_at j h))
                (passed_over (descendant (step_at steps j).axis p.1) (subst (λ (l : List PathStep). Fits l (u ∷ us)) (left_at j h) f)),
          )

      added : (j : ℕ) → j < length steps → Fits (drop j steps) (u ∷ us) → adds steps s t j ≡ true → Waits s (t ∷ u ∷ us)
      added zero h f e = cc
      added (suc j) h f e =
          let p = and_parts (member s j) (fits (step_at steps j) t) e in
          let l : j < length steps = omega arith in
          (j, l, p.0, subst (λ (l : List PathStep). Fits l (t ∷ u ∷ us)) (sym (left_at j l)) (next_fits p.1 f))

      from : (j : ℕ) → j < length steps → Fits (drop j steps) (u ∷ us) → (keeps steps s j || adds steps s t j) ≡ true → Waits s (t ∷ u ∷ us)
      from j h f e = elim (or_cases (keeps steps s j) (adds steps s t j) e) [ inl k ↦ kept j h f k | inr k ↦ added j h f k ]

  waits_enter : (s t u : ℕ) (us : List ℕ) → Waits s (t ∷ u ∷ us) → Waits (enter_set steps s t) (u ∷ us)
  unfolding Waits
  waits_enter s t u us w =
      elim (fits_cases (subst (λ (l : List PathStep). Fits l (t ∷ u ∷ us)) (left_at w.0 w.1) w.3)) [
        | inl f ↦ elim (cases_lt (suc w.0) (length steps)) [ inl l ↦ next l f.0 f.1 | inr l ↦ absurd (past l f.1) ]
        | inr f ↦ passing f.0 f.1
      ]
    where
      next : suc w.0 < length steps → fits (step_at steps w.0) t ≡ true → Fits (drop (suc w.0) steps) (u ∷ us) → Waits (enter_set steps s t) (u ∷ us)
      next l e f = (
        suc w.0,
        l,
        member_set_of (λ j. keeps steps s j || adds steps s t j) (length steps) (suc w.0) l ∙ or_right (keeps steps s (suc w.0)) (adds steps s t (suc w.0)) (and_from (member s w.0) (fits (step_at steps w.0) t) w.2 e),
        f,
      )

      past : length steps ≤ suc w.0 → Fits (drop (suc w.0) steps) (u ∷ us) → ⊥
      past l f = none_fits_tag (subst (λ (x : List PathStep). Fits x (u ∷ us)) (drop_all (suc w.0) steps l) f)

      passing : (step_at steps w.0).axis ≡ Descendant → Fits (step_at steps w.0 ∷ drop (suc w.0) steps) (u ∷ us) → Waits (enter_set steps s t) (u ∷ us)
      passing e f = (
        w.0,
        w.1,
        member_set_of (λ j. keeps steps s j || adds steps s t j) (length steps) w.0 w.1 ∙ or_left (keeps steps s w.0) (adds steps s t w.0) (and_from (member s w.0) (descends (step_at steps w.0).axis) w.2 (ap descends e)),
        subst (λ (l : List PathStep). Fits l (u ∷ us)) (sym (left_at w.0 w.1)) f,
      )

  -- all steps are matched at an item if the set waits for its tag alone
  matches_waits : (s t : ℕ) → matches steps s t ≡ true → Waits s (t ∷ [])
  unfolding Waits
  matches_waits s t e =
      let p = and_parts (member s (length steps - 1)) (fits (step_at steps (length steps - 1)) t) e in
      let l : length steps - 1 < length steps = omega arith in
      let n : length steps ≤ suc (length steps - 1) = omega arith in (
        length steps - 1,
        l,
        p.0,
        subst (λ (x : List PathStep). Fits x (t ∷ [])) (sym (left_at (length steps - 1) l))
            (next_fits p.1 (subst (λ (x : List PathStep). Fits x []) (sym (drop_all (suc (length steps - 1)) steps n)) none_left)),
      )

  waits_matches : (s t : ℕ) → Waits s (t ∷ []) → matches steps s t ≡ true
  unfolding Waits
  waits_matches s t w =
      elim (fits_cases (subst (λ (l : List PathStep). Fits l (t ∷ [])) (left_at w.0 w.1) w.3)) [
        | inl f ↦ elim (cases_lt (suc w.0) (length steps)) [
          | inl l ↦ absurd (step_fits_none (subst (λ (x : List PathStep). Fits x []) (left_at (suc w.0) l) f.1))
          | inr l ↦ at w.0 w.2 f.0 (let h : w.0 < length steps = w.1 in omega arith)
        ]
        | inr f ↦ absurd (step_fits_none f.1)
      ]
    where
      at : (j : ℕ) → member s j ≡ true → fits (step_at steps j) t ≡ true → j ≡ length steps - 1 → matches steps s t ≡ true
      at j a b e = subst (λ (x : ℕ). (member s x && fits (step_at steps x) t) ≡ true) e (and_from (member s j) (fits (step_at steps j) t) a b)

  -- the set inside items with these tags, the innermost first
  abbrev inside : List ℕ → ℕ
  inside [] = 1
  inside (t ∷ ts) = enter_set steps (inside ts) t

  inside_waits : (ts : List ℕ) (u : ℕ) (us : List ℕ) → Waits (inside ts) (u ∷ us) → Fits steps (reverse_aux ts (u ∷ us))
  inside_waits [] u us w = start_waits (u ∷ us) w
  inside_waits (t ∷ ts) u us w = inside_waits ts t (u ∷ us) (enter_waits (inside ts) t u us w)

  waits_inside : (ts : List ℕ) (u : ℕ) (us : List ℕ) → Fits steps (reverse_aux ts (u ∷ us)) → Waits (inside ts) (u ∷ us)
  waits_inside [] u us f = waits_start (u ∷ us) f
  waits_inside (t ∷ ts) u us f = waits_enter (inside ts) t u us (waits_inside ts t (u ∷ us) f)

  matches_decides : (ts : List ℕ) (t : ℕ) → Decides (matches steps (inside ts) t) (Fits steps (reverse (t ∷ ts)))
  matches_decides ts t = (λ e. inside_waits ts t [] (matches_waits (inside ts) t e), λ f. waits_matches (inside ts) t (waits_inside ts t [] f))

  -- Answers -------------------------------------------------------------------------------------------------------

  inside_below : (ts : List ℕ) → inside ts < 2 ^ length steps
  inside_below [] = pow_below 0 (length steps) (omega arith)
  inside_below (t ∷ ts) = set_of_below (λ j. keeps steps (inside ts) j || adds steps (inside ts) t j) (length steps)

  enter_is : (s t : ℕ) → s < 2 ^ length steps → t < tags → (path_machine steps).enter s t ≡ enter_set steps s t
  enter_is s t hs ht = simp (lt-ltb s (2 ^ length steps + 2) (omega arith), lt-ltb t tags ht, lt-ltb s (2 ^ length steps) hs)

  mark_is : (s t : ℕ) → s < 2 ^ length steps → t < tags → path_marks steps s t ≡ cond (matches steps s t) (hit (length steps)) (miss (length steps))
  mark_is s t hs ht = simp (lt-ltb s (2 ^ length steps + 2) (omega arith), lt-ltb t tags ht, lt-ltb s (2 ^ length steps) hs)

  back_outer : (s q t : ℕ) → s < 2 ^ length steps → q < 2 ^ length steps → t < tags → (path_machine steps).back s q t ≡ s
  back_outer s q t hs hq ht =
      simp (lt-ltb s (2 ^ length steps + 2) (omega arith), lt-ltb q (2 ^ length steps + 2) (omega arith), lt-ltb t tags ht, lt-ltb q (2 ^ length steps) hq)

  -- hit and miss stay themselves
  enter_stays : (z t : ℕ) → 2 ^ length steps ≤ z → z < 2 ^ length steps + 2 → t < tags → (path_machine steps).enter z t ≡ z
  enter_stays z t low high ht = simp (lt-ltb z (2 ^ length steps + 2) high, lt-ltb t tags ht, le-ltb z (2 ^ length steps) low)

  back_stays : (z s t : ℕ) → 2 ^ length steps ≤ z → z < 2 ^ length steps + 2 → s < 2 ^ length steps + 2 → t < tags → (path_machine steps).back s z t ≡ z
  back_stays z s t low high hs ht = simp (lt-ltb s (2 ^ length steps + 2) hs, lt-ltb z (2 ^ length steps + 2) high, lt-ltb t tags ht, le-ltb z (2 ^ length steps) low)

  -- Runs ----------------------------------------------------------------------------------------------------------

  -- the sets that were set aside
  abbrev asides : List ℕ → List ℕ
  asides [] = []
  asides (t ∷ ts) = inside ts ∷ asides ts

  asides_below : (ts : List ℕ) → AllByRecursion (λ q. q < 2 ^ length steps + 2) (asides ts)
  asides_below [] = tt
  asides_below (t ∷ ts) = (let h : inside ts < 2 ^ length steps = inside_below ts in omega arith, asides_below ts)

  module _ (i : ℕ) where
    -- the state in which the run ends that enters item i by mark
    abbrev ends : ℕ → List ℕ → ℕ → List Event → ℕ
    ends q ss n c = (follow (step (path_machine steps) (marking (selecting (path_machine steps) (path_marks steps)) i)) (stand q ss n) c).state

    -- from hit or miss the run does not come away
    ends_stays : (z : ℕ) (ss ts : List ℕ) (c : List Event) → 2 ^ length steps ≤ z → z < 2 ^ length steps + 2 → AllByRecursion (λ q. q < 2 ^ length steps + 2) ss → AllByRecursion (λ t. t < tags) ts
        → follow after (within ts) c ≡ over → ends z ss i c ≡ z
    ends_stays z ss ts c low high below small h =
        stays (path_machine steps) (marking (selecting (path_machine steps) (path_marks steps)) i) z i high
        (λ k t later ht. ap (λ (b : Bool). cond b (path_marks steps z t) ((path_machine steps).enter z t)) (ne_eqb k i (λ e. omega arith)) ∙ enter_stays z t low high ht)
        (λ s t hs ht. back_stays z s t low high hs ht)
        c (stand z ss i) ts refl (omega arith) below small h

    -- item i opens
    marked : (t : ℕ) (ts : List ℕ) (c : List Event) → t < tags → AllByRecursion (λ u. u < tags) ts → follow after (within (t ∷ ts)) c ≡ over
        → Decides (eqb (ends (path_marks steps (inside ts) t) (inside ts ∷ asides ts) i c) (hit (length steps))) (Fits steps (reverse (t ∷ ts)))
    marked t ts c ht small h =
        Decides-at _ (matches steps (inside ts) t)
        (ap (λ (q : ℕ). eqb (ends q (inside ts ∷ asides ts) i c) (hit (length steps))) (mark_is (inside ts) t (inside_below ts) ht) ∙ by (matches steps (inside ts) t))
        (matches_decides ts t)
      where
        by : (b : Bool) → eqb (ends (cond b (hit (length steps)) (miss (length steps))) (inside ts ∷ asides ts) i c) (hit (length steps)) ≡ b
        by true =
            eq-eqb (ends (hit (length steps)) (inside ts ∷ asides ts) i c) (hit (length steps))
            (ends_stays (hit (length steps)) (inside ts ∷ asides ts) (t ∷ ts) c (omega arith) (omega arith) (asides_below (t ∷ ts)) (ht, small) h)
        by false =
            let e : ends (miss (length steps)) (inside ts ∷ asides ts) i c ≡ miss (length steps) =
            ends_stays (miss (length steps)) (inside ts ∷ asides ts) (t ∷ ts) c (omega arith) (omega arith) (asides_below (t ∷ ts)) (ht, small) h in
            ne_eqb (ends (miss (length steps)) (inside ts ∷ asides ts) i c) (hit (length steps)) (λ f. omega arith)

    path_from : (c : List Event) (ts : List ℕ) (n : ℕ) → n < i → i ≤ follow count n c → AllByRecursion (λ t. t < tags) ts → follow after (within ts) c ≡ over
        → Decides (eqb (ends (inside ts) (asides ts) n c) (hit (length steps))) (Fits steps (tags_to_from ts n i c))
    path_from [] ts n above most small h = absurd (within_not_over ts h)
    path_from (Open t ∷ c) ts n above most small h =
        elim (cases_eq (suc n) i) [ inl e ↦ here e | inr e ↦ there e (path_from c (t ∷ ts) (suc n) (omega arith) most (ht, small) rest) ]
      where
        ht : t < tags
        ht = ltb-true t tags (passed (ltb t tags) (within (t ∷ ts)) c h).0

        rest : follow after (within (t ∷ ts)) c ≡ over
        rest = (passed (ltb t tags) (within (t ∷ ts)) c h).1

        -- by whether the item is item i
        Goal : Bool → Type 0
        Goal b =
            Decides (eqb (ends (cond b (path_marks steps (inside ts) t) ((path_machine steps).enter (inside ts) t)) (inside ts ∷ asides ts) (suc n) c) (hit (length steps)))
            (Fits steps (cond b (reverse (t ∷ ts)) (tags_to_from (t ∷ ts) (suc n) i c)))

        here : suc n ≡ i → Goal (eqb (suc n) i)
        here e =
            subst Goal (sym (eq-eqb (suc n) i e))
            (subst (λ (k : ℕ). Decides (eqb (ends (path_marks steps (inside ts) t) (inside ts ∷ asides ts) k c) (hit (length steps))) (Fits steps (reverse (t ∷ ts)))) (sym e) (marked t ts c ht small rest))

        there : (suc n ≡ i → ⊥) → Decides (eqb (ends (inside (t ∷ ts)) (asides (t ∷ ts)) (suc n) c) (hit (length steps))) (Fits steps (tags_to_from (t ∷ ts) (suc n) i c)) → Goal (eqb (suc n) i)
        there e more =
            subst Goal (sym (ne_eqb (suc n) i e))
            (subst (λ (q : ℕ). Decides (eqb (ends q (inside ts ∷ asides ts) (suc n) c) (hit (length steps))) (Fits steps (tags_to_from (t ∷ ts) (suc n) i c)))
            (sym (enter_is (inside ts) t (inside_below ts) ht)) more)
    path_from (Close t ∷ c) [] n above most small h = absurd (not_from_broken c h)
    path_from (Close t ∷ c) (u ∷ ts) n above most small h =
        let p = passed (eqb u t) (within ts) c h in
        let ht : t < tags = subst (λ (x : ℕ). x < tags) (eqb-true u t p.0) small.0 in
        subst (λ (q : ℕ). Decides (eqb (ends q (asides ts) n c) (hit (length steps))) (Fits steps (tags_to_from ts n i c)))
        (sym (back_outer (inside ts) (inside (u ∷ ts)) t (inside_below ts) (inside_below (u ∷ ts)) ht))
        (path_from c ts n above most small.1 p.1)
    path_from (End ∷ c) [] n above most small h =
        let none : i ≤ follow count n [] = subst (λ (e : List Event). i ≤ follow count n e) (over_only_empty c h) most in
        absurd (omega arith)
    path_from (End ∷ c) (u ∷ ts) n above most small h = absurd (not_from_broken c h)

  pub path_selects : PathSelects steps
  path_selects c h i low high =
      Decides-at _ _ (item (leb 1 i) (leb i (opened c)) _ (le-leb 1 i low) (le-leb i (opened c) high)) (path_from i c [] 0 low high tt h)
    where
      item : (x y a : Bool) → x ≡ true → y ≡ true → (x && y && a) ≡ a
      item true true a p q = refl
      item true false a p q = cc
      item false y a p q = cc

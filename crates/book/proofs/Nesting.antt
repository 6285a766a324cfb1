-- How events nest, and that events which break no rule have an ending.
use Rattle.std.proofs.Common.{◌≡◌, ℕ, suc, ◌+◌, ◌*◌, ◌≤◌, Bool, true, false, cond, eqb, ltb, List, [], ◌∷◌, ◌++◌, length, sym, refl, ◌∙◌, subst, arith}
use Rattle.std.proofs.lemmas.Bool.{eq-eqb}
use Rattle.book.specs.declared.event.Event.{Event}
use Rattle.book.specs.declared.event.Event.TheVariants.{Open, Close, End}
use Rattle.book.specs.Limits.{tags}
use Rattle.book.specs.Catalogue.{follow, Nest, within, over, broken, after, nest, Sound, Ending, count, opened}

pub follow_append : {S : Type 0} (f : S → Event → S) (s : S) (xs ys : List Event) → follow f s (xs ++ ys) ≡ follow f (follow f s xs) ys
follow_append f s [] ys = refl
follow_append f s (x ∷ xs) ys = follow_append f (f s x) xs ys

-- Broken rules and the end ----------------------------------------------------------------------------------------

-- a broken rule stays broken
pub stays_broken : (e : List Event) → follow after broken e ≡ broken
stays_broken [] = refl
stays_broken (x ∷ e) = stays_broken e

pub not_from_broken : (e : List Event) → follow after broken e ≡ over → ⊥
not_from_broken e h = let z : over ≡ broken = sym h ∙ stays_broken e in apart z
  where
    apart : over ≡ broken → ⊥
    apart p = cc

pub within_not_over : (ts : List ℕ) → within ts ≡ over → ⊥
within_not_over ts p = cc

pub within_not_broken : (ts : List ℕ) → within ts ≡ broken → ⊥
within_not_broken ts p = cc

-- after the end nothing may come
pub over_only_empty : (e : List Event) → follow after over e ≡ over → e ≡ []
over_only_empty [] h = refl
over_only_empty (x ∷ e) h = absurd (not_from_broken e h)

pub same_open : (ts us : List ℕ) → within ts ≡ within us → ts ≡ us
same_open ts us e = cc

-- a broken rule, or the end, leaves no item open
pub broken_not_within : (e : List Event) (ts : List ℕ) → follow after broken e ≡ within ts → ⊥
broken_not_within e ts at = within_not_broken ts (sym at ∙ stays_broken e)

pub over_not_within : (e : List Event) (ts : List ℕ) → follow after over e ≡ within ts → ⊥
over_not_within [] ts at = within_not_over ts (sym at)
over_not_within (x ∷ e) ts at = broken_not_within e ts at

pub passed_within : (b : Bool) (us : List ℕ) (e : List Event) (ts : List ℕ) → follow after (cond b (within us) broken) e ≡ within ts → follow after (within us) e ≡ within ts
passed_within true us e ts at = at
passed_within false us e ts at = absurd (broken_not_within e ts at)

-- a test that was passed
pub passed : (b : Bool) (n : Nest) (e : List Event) → follow after (cond b n broken) e ≡ over → (b ≡ true) × (follow after n e ≡ over)
passed true n e h = (refl, h)
passed false n e h = absurd (not_from_broken e h)

-- Endings ---------------------------------------------------------------------------------------------------------

-- closes the open items, and ends
pub close_all : List ℕ → List Event
close_all [] = End ∷ []
close_all (t ∷ ts) = Close t ∷ close_all ts

pub close_all_ends : (ts : List ℕ) → follow after (within ts) (close_all ts) ≡ over
unfolding close_all
close_all_ends [] = refl
close_all_ends (t ∷ ts) = subst (λ (b : Bool). follow after (cond b (within ts) broken) (close_all ts) ≡ over) (sym (eq-eqb t t refl)) (close_all_ends ts)

pub close_all_opens_none : (ts : List ℕ) (n : ℕ) → follow count n (close_all ts) ≡ n
unfolding close_all
close_all_opens_none [] n = refl
close_all_opens_none (t ∷ ts) n = close_all_opens_none ts n

pub ending_from : (n : Nest) → (n ≡ broken → ⊥) → (e : List Event) × (follow after n e ≡ over) × ((k : ℕ) → follow count k e ≡ k)
ending_from (within ts) s = (close_all ts, close_all_ends ts, close_all_opens_none ts)
ending_from over s = ([], refl, λ k. refl)
ending_from broken s = absurd (s refl)

-- every sound list of events has an ending that opens nothing more
pub ending : (h : List Event) → Sound h → (e : List Event) × Ending h e × (opened (h ++ e) ≡ opened h)
ending h s =
    let r = ending_from (nest h) s in
    (r.0, follow_append after (within []) h r.0 ∙ r.1, follow_append count 0 h r.0 ∙ r.2 (opened h))

pub ending_sound : (h e : List Event) → Ending h e → Sound h
ending_sound h e fin b = not_from_broken e (subst (λ (n : Nest). follow after n e ≡ over) b (sym (follow_append after (within []) h e) ∙ fin))

-- Items and events ------------------------------------------------------------------------------------------------

pub count_grows : (e : List Event) (n : ℕ) → n ≤ follow count n e
count_grows [] n = omega arith
count_grows (Open t ∷ e) n = let k = count_grows e (suc n) in omega arith
count_grows (Close t ∷ e) n = count_grows e n
count_grows (End ∷ e) n = count_grows e n

pub count_shift : (e : List Event) (n : ℕ) → follow count (suc n) e ≡ suc (follow count n e)
count_shift [] n = refl
count_shift (Open t ∷ e) n = count_shift e (suc n)
count_shift (Close t ∷ e) n = count_shift e n
count_shift (End ∷ e) n = count_shift e n

pub opened_grows : (h e : List Event) → opened h ≤ opened (h ++ e)
opened_grows h e = let k = count_grows e (opened h) in let a = follow_append count 0 h e in omega arith

-- how far a list of events has come: two for each item, less one for each that is open, and one for the end
abbrev owed : Nest → ℕ → ℕ → Type 0
owed (within ts) len n = len + length ts ≡ 2 * n
owed over len n = len ≡ 2 * n + 1
owed broken len n = Unit {0}

one_more : (s : Nest) (e : Event) (len n : ℕ) → owed s len n → owed (after s e) (suc len) (count n e)
one_more (within ts) (Open t) len n h = go (ltb t tags)
  where
    go : (b : Bool) → owed (cond b (within (t ∷ ts)) broken) (suc len) (suc n)
    go true = omega arith
    go false = tt
one_more (within []) (Close t) len n h = tt
one_more (within (u ∷ ts)) (Close t) len n h = go (eqb u t)
  where
    go : (b : Bool) → owed (cond b (within ts) broken) (suc len) n
    go true = omega arith
    go false = tt
one_more (within []) End len n h = omega arith
one_more (within (u ∷ ts)) End len n h = tt
one_more over e len n h = tt
one_more broken e len n h = tt

all_more : (e : List Event) (s : Nest) (len n : ℕ) → owed s len n → owed (follow after s e) (len + length e) (follow count n e)
all_more [] s len n h = subst (λ (k : ℕ). owed s k n) (let z : len ≡ len + 0 = omega arith in z) h
all_more (x ∷ e) s len n h = subst (λ (k : ℕ). owed (follow after (after s x) e) k (follow count (count n x) e)) (let z : suc len + length e ≡ len + suc (length e) = omega arith in z)
    (all_more e (after s x) (suc len) (count n x) (one_more s x len n h))

pub events_bounded : (h : List Event) → Sound h → length h ≤ 2 * opened h + 1
events_bounded h s = go (nest h) refl (all_more h (within []) 0 0 (omega arith))
  where
    go : (n : Nest) → nest h ≡ n → owed (nest h) (0 + length h) (opened h) → length h ≤ 2 * opened h + 1
    go (within ts) at o = let z : 0 + length h + length ts ≡ 2 * opened h = subst (λ (x : Nest). owed x (0 + length h) (opened h)) at o in omega arith
    go over at o = let z : 0 + length h ≡ 2 * opened h + 1 = subst (λ (x : Nest). owed x (0 + length h) (opened h)) at o in omega arith
    go broken at o = absurd (s at)

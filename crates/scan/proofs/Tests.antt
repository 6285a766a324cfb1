-- The tests tell the lines of the table of checks, and the first that is met refuses. Assumes nothing.
use Rattle.std.proofs.Common.{◌≡◌, ℕ, ◌≤◌, Bool, true, false, cond, eqb, leb, ◌↔◌, List, [], ◌∷◌, length, Ok, Err, Result, sym, refl, subst, inl, inr, arith}
use Rattle.std.proofs.lemmas.Bool.{leb-true, le-leb, eqb-true, eqb-false, eq-eqb, ne_eqb, not-true, not_from_false, both_ways}
use Rattle.book.specs.declared.event.Event.{Event}
use Rattle.book.specs.declared.event.Event.TheVariants.{Open, Close, End}
use Rattle.book.specs.declared.answer.Refusal.{Refusal}
use Rattle.book.specs.declared.answer.Refusal.TheVariants.{NoStates, Ended, ShortList, BadTag, TooDeep, TooMany, HoldFull, NoneOpen, OtherTag, StillOpen}
use Rattle.book.specs.Limits.{tags, most_open, most_items}
use Rattle.book.specs.Catalogue.{Nest, within, over, broken, nest, opened}
use Rattle.book.specs.Machines.{Machine}
use Rattle.book.specs.Checks.{OnOpen, OnClose, OnEnd, SharedMet, NoneMet, Topmost}
use Rattle.book.proofs.Nesting.{within_not_over, within_not_broken, same_open}
use Rattle.scan.specs.Tests.{is_over, open_tags, is_bare, is_open, is_other, on_open, on_close, on_end, shared_test, checked}

-- a test tells a fact
abbrev pub Tells : Bool → Type 0 → Type 0
Tells b P = (b ≡ true) ↔ P

pub never : {P : Type 0} → (P → ⊥) → Tells false P
never none = (λ y. absurd (both_ways false refl y), λ z. absurd (none z))

-- Any table -------------------------------------------------------------------------------------------------------

-- each test tells its line once those above it are unmet
abbrev pub AllTell : (Refusal → Bool) → (Refusal → Type 0) → List Refusal → Type 0
AllTell test met [] = Unit {0}
AllTell test met (l ∷ ls) = Tells (test l) (met l) × ((met l → ⊥) → AllTell test met ls)

pub all_tell : (test : Refusal → Bool) (met : Refusal → Type 0) → ((r : Refusal) → Tells (test r) (met r)) → (ls : List Refusal) → AllTell test met ls
all_tell test met tells [] = tt
all_tell test met tells (l ∷ ls) = (tells l, λ _. all_tell test met tells ls)

abbrev pub Outcome : {A : Type 0} → (Refusal → Type 0) → List Refusal → A → Result A Refusal → Type 0
Outcome met ls a (Ok b) = NoneMet met ls × (b ≡ a)
Outcome met ls a (Err r) = Topmost met ls r

outcome_more : {A : Type 0} (met : Refusal → Type 0) (l : Refusal) (ls : List Refusal) (a : A) (v : Result A Refusal) → (met l → ⊥)
    → Outcome met ls a v → Outcome met (l ∷ ls) a v
outcome_more met l ls a (Ok b) n o = ((n, o.0), o.1)
outcome_more met l ls a (Err r) n o = inr (n, o)

pub checked_right : {A : Type 0} (test : Refusal → Bool) (met : Refusal → Type 0) (ls : List Refusal) (a : A) → AllTell test met ls
    → Outcome met ls a (checked test ls a)
checked_right test met [] a tells = (tt, refl)
checked_right {A} test met (l ∷ ls) a tells = go (test l) refl (checked_right test met ls a)
  where
    go : (b : Bool) → test l ≡ b → (AllTell test met ls → Outcome met ls a (checked test ls a)) → Outcome met (l ∷ ls) a (cond b (Err l) (checked test ls a))
    go true e more = inl (tells.0.0 e, refl)
    go false e more =
        let unmet : met l → ⊥ = (λ y. both_ways (test l) e (tells.0.1 y)) in
        outcome_more met l ls a (checked test ls a) unmet (more (tells.1 unmet))

-- Where the events stand ------------------------------------------------------------------------------------------

is_over_tells : (n : Nest) → Tells (is_over n) (n ≡ over)
is_over_tells (within ts) = never (within_not_over ts)
is_over_tells over = (λ y. refl, λ y. refl)
is_over_tells broken = never apart
  where
    apart : broken ≡ over → ⊥
    apart p = let w : ◌≡◌ {A = ℕ} 0 1 = cc in omega arith

is_deep_tells : (n : Nest) → Tells (leb most_open (length (open_tags n))) ((ts : List ℕ) × (n ≡ within ts) × (most_open ≤ length ts))
is_deep_tells (within ts) = (
  λ y. (ts, refl, leb-true most_open (length ts) y),
  λ z. le-leb most_open (length ts) (subst (λ (us : List ℕ). most_open ≤ length us) (sym (same_open ts z.0 z.1)) z.2),
)
is_deep_tells over = never (λ z. within_not_over z.0 (sym z.1))
is_deep_tells broken = never (λ z. within_not_broken z.0 (sym z.1))

is_bare_tells : (n : Nest) → Tells (is_bare n) (n ≡ within [])
is_bare_tells (within []) = (λ y. refl, λ y. refl)
is_bare_tells (within (u ∷ ts)) = never (λ y. cc)
is_bare_tells over = never (λ y. within_not_over [] (sym y))
is_bare_tells broken = never (λ y. within_not_broken [] (sym y))

is_other_tells : (t : ℕ) (n : Nest) → Tells (is_other t (open_tags n)) ((u : ℕ) × (ts : List ℕ) × (n ≡ within (u ∷ ts)) × (u ≡ t → ⊥))
is_other_tells t (within []) = never (λ z. cc z.2)
is_other_tells t (within (u ∷ ts)) = (
  λ y. (u, ts, refl, eqb-false u t (not-true (eqb u t) y)),
  λ z. not_from_false (eqb u t) (ne_eqb u t (λ e. z.3 (cc z.2))),
)
is_other_tells t over = never (λ z. within_not_over (z.0 ∷ z.1) (sym z.2))
is_other_tells t broken = never (λ z. within_not_broken (z.0 ∷ z.1) (sym z.2))

is_open_tells : (n : Nest) → Tells (is_open (open_tags n)) ((u : ℕ) × (ts : List ℕ) × (n ≡ within (u ∷ ts)))
is_open_tells (within []) = never (λ z. cc z.2)
is_open_tells (within (u ∷ ts)) = (λ y. (u, ts, refl), λ z. refl)
is_open_tells over = never (λ z. within_not_over (z.0 ∷ z.1) (sym z.2))
is_open_tells broken = never (λ z. within_not_broken (z.0 ∷ z.1) (sym z.2))

-- The lines that scans and watches share --------------------------------------------------------------------------

pub on_open_tells : (p : ℕ → Bool) (P : ℕ → Type 0) (e : Event) → ((t : ℕ) → Tells (p t) (P t)) → Tells (on_open p e) (OnOpen P e)
on_open_tells p P (Open t) tells = tells t
on_open_tells p P (Close t) tells = never (λ y. y)
on_open_tells p P End tells = never (λ y. y)

on_close_tells : (p : ℕ → Bool) (P : ℕ → Type 0) (e : Event) → ((t : ℕ) → Tells (p t) (P t)) → Tells (on_close p e) (OnClose P e)
on_close_tells p P (Open t) tells = never (λ y. y)
on_close_tells p P (Close t) tells = tells t
on_close_tells p P End tells = never (λ y. y)

on_end_tells : (b : Bool) (P : Type 0) (e : Event) → Tells b P → Tells (on_end b e) (OnEnd P e)
on_end_tells b P (Open t) tells = never (λ y. y)
on_end_tells b P (Close t) tells = never (λ y. y)
on_end_tells b P End tells = tells

module _ (m : Machine) (h : List Event) (e : Event) where
  at_events : (r : Refusal) → Tells (shared_test m.width (nest h) (opened h) e r) (SharedMet m h e r)
  at_events NoStates = (eqb-true m.width 0, eq-eqb m.width 0)
  at_events Ended = is_over_tells (nest h)
  at_events ShortList = never (λ y. y)
  at_events BadTag = on_open_tells (λ t. leb tags t) (λ t. tags ≤ t) e (λ t. (leb-true tags t, le-leb tags t))
  at_events TooDeep = on_open_tells (λ t. leb most_open (length (open_tags (nest h)))) (λ t. (ts : List ℕ) × (nest h ≡ within ts) × (most_open ≤ length ts)) e (λ t. is_deep_tells (nest h))
  at_events TooMany = on_open_tells (λ t. leb most_items (opened h)) (λ t. most_items ≤ opened h) e (λ t. (leb-true most_items (opened h), le-leb most_items (opened h)))
  at_events HoldFull = never (λ y. y)
  at_events NoneOpen = on_close_tells (λ t. is_bare (nest h)) (λ t. nest h ≡ within []) e (λ t. is_bare_tells (nest h))
  at_events OtherTag = on_close_tells (λ t. is_other t (open_tags (nest h))) (λ t. (u : ℕ) × (ts : List ℕ) × (nest h ≡ within (u ∷ ts)) × (u ≡ t → ⊥)) e (λ t. is_other_tells t (nest h))
  at_events StillOpen = on_end_tells (is_open (open_tags (nest h))) ((u : ℕ) × (ts : List ℕ) × (nest h ≡ within (u ∷ ts))) e (is_open_tells (nest h))

  pub shared_tells : (place : Nest) (opens : ℕ) → place ≡ nest h → opens ≡ opened h → (r : Refusal) → Tells (shared_test m.width place opens e r) (SharedMet m h e r)
  shared_tells place opens p o r =
      subst (λ (n : Nest). Tells (shared_test m.width n opens e r) (SharedMet m h e r)) (sym p)
      (subst (λ (k : ℕ). Tells (shared_test m.width (nest h) k e r) (SharedMet m h e r)) (sym o) (at_events r))

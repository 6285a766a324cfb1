-- The table of checks: one outcome a call, the topmost line, and that an accepted call breaks no rule.
use Rattle.std.proofs.Common.{◌≡◌, ℕ, Bool, true, false, cond, eqb, ltb, ◌⊎◌, ◌↔◌, List, [], ◌∷◌, ◌++◌, sym, refl, ap, ◌∙◌, subst, inl, inr}
use Rattle.std.proofs.lemmas.Bool.{ltb-false, eqb-false}
use Rattle.book.specs.Limits.{tags}
use Rattle.book.specs.declared.event.Event.{Event}
use Rattle.book.specs.declared.event.Event.TheVariants.{Open, Close, End}
use Rattle.book.specs.declared.answer.Refusal.{Refusal}
use Rattle.book.specs.declared.answer.Refusal.TheVariants.{NoStates, Ended, ShortList, BadTag, TooDeep, TooMany, HoldFull, NoneOpen, OtherTag, StillOpen}
use Rattle.book.specs.Catalogue.{Nest, within, over, broken, after, nest, Sound}
use Rattle.book.specs.Machines.{Machine, Selecting}
use Rattle.book.specs.Checks.{scan_lines, watch_lines, SharedMet, Met, NoneMet, Topmost, Accepts, WatchAccepts, OneOutcomeOf, OneOutcome, MetBelowUnmet, RefusedByTopmost}
use Rattle.book.proofs.Steps.{nest_more}

-- Any table -------------------------------------------------------------------------------------------------------

pub none_met : (met : Refusal → Type 0) (lines : List Refusal) → ((r : Refusal) → met r → ⊥) → NoneMet met lines
none_met met [] none = tt
none_met met (l ∷ lines) none = (none l, none_met met lines none)

pub not_both : (met : Refusal → Type 0) (lines : List Refusal) (r : Refusal) → NoneMet met lines → Topmost met lines r → ⊥
not_both met [] r n t = t
not_both met (l ∷ lines) r n (inl a) = n.0 a.0
not_both met (l ∷ lines) r n (inr a) = not_both met lines r n.1 a.1

pub topmost_same : (met : Refusal → Type 0) (lines : List Refusal) (r s : Refusal) → Topmost met lines r → Topmost met lines s → r ≡ s
topmost_same met [] r s t u = absurd t
topmost_same met (l ∷ lines) r s (inl a) (inl b) = a.1 ∙ sym b.1
topmost_same met (l ∷ lines) r s (inl a) (inr b) = absurd (b.0 a.0)
topmost_same met (l ∷ lines) r s (inr a) (inl b) = absurd (a.0 b.0)
topmost_same met (l ∷ lines) r s (inr a) (inr b) = topmost_same met lines r s a.1 b.1

pub one_outcome_of : (met : Refusal → Type 0) (lines : List Refusal) → OneOutcomeOf (NoneMet met lines) (Topmost met lines)
one_outcome_of met lines = (not_both met lines, topmost_same met lines)

pub one_outcome : OneOutcome
one_outcome = (λ m h room e. one_outcome_of (Met m h room e) scan_lines, λ m h e. one_outcome_of (SharedMet m h e) watch_lines)

topmost_below : (met : Refusal → Type 0) (lines : List Refusal) (r : Refusal) → Topmost met lines r → MetBelowUnmet met lines r
topmost_below met [] r t = absurd t
topmost_below met (l ∷ lines) r (inl a) = ([], lines, ap (λ (x : Refusal). x ∷ lines) (sym a.1), subst met (sym a.1) a.0, tt)
topmost_below met (l ∷ lines) r (inr a) =
    let b = topmost_below met lines r a.1 in
    (l ∷ b.0, b.1, ap (λ (x : List Refusal). l ∷ x) b.2, b.3, (a.0, b.4))

below_topmost : (met : Refusal → Type 0) (above below : List Refusal) (r : Refusal) → met r → NoneMet met above → Topmost met (above ++ (r ∷ below)) r
below_topmost met [] below r y n = inl (y, refl)
below_topmost met (l ∷ above) below r y n = inr (n.0, below_topmost met above below r y n.1)

pub topmost_is : (met : Refusal → Type 0) (lines : List Refusal) (r : Refusal) → Topmost met lines r ↔ MetBelowUnmet met lines r
topmost_is met lines r = (
  topmost_below met lines r,
  λ b. subst (λ (x : List Refusal). Topmost met x r) (sym b.2) (below_topmost met b.0 b.1 r b.3 b.4),
)

pub refused_by_topmost : RefusedByTopmost
refused_by_topmost = (λ m h room e r. topmost_is (Met m h room e) scan_lines r, λ m h e r. topmost_is (SharedMet m h e) watch_lines r)

-- lines that can be told one after the other, each once those above it are unmet
abbrev pub Told : (Refusal → Type 0) → List Refusal → Type 0
Told met [] = Unit {0}
Told met (l ∷ lines) = (met l ⊎ (met l → ⊥)) × ((met l → ⊥) → Told met lines)

pub some_outcome : (met : Refusal → Type 0) (lines : List Refusal) → Told met lines → ((r : Refusal) × Topmost met lines r) ⊎ NoneMet met lines
some_outcome met [] told = inr tt
some_outcome met (l ∷ lines) told = go told.0 (some_outcome met lines)
  where
    go : met l ⊎ (met l → ⊥) → (Told met lines → ((r : Refusal) × Topmost met lines r) ⊎ NoneMet met lines)
        → ((r : Refusal) × Topmost met (l ∷ lines) r) ⊎ NoneMet met (l ∷ lines)
    go (inl y) rest = inl (l, inl (y, refl))
    go (inr n) rest = elim (rest (told.1 n)) [ inl t ↦ inl (t.0, inr (n, t.1)) | inr none ↦ inr (n, none) ]

-- The lines of a scan and of a watch ------------------------------------------------------------------------------

-- no line of the table is met by an accepted call
pub unmet : (m : Selecting) (h : List Event) (room : ℕ) (e : Event) → Accepts m h room e → (r : Refusal) → Met m h room e r → ⊥
unmet m h room e ok NoStates = ok.0
unmet m h room e ok Ended = ok.1.0
unmet m h room e ok ShortList = ok.1.1.0
unmet m h room e ok BadTag = ok.1.1.1.0
unmet m h room e ok TooDeep = ok.1.1.1.1.0
unmet m h room e ok TooMany = ok.1.1.1.1.1.0
unmet m h room e ok HoldFull = ok.1.1.1.1.1.1.0
unmet m h room e ok NoneOpen = ok.1.1.1.1.1.1.1.0
unmet m h room e ok OtherTag = ok.1.1.1.1.1.1.1.1.0
unmet m h room e ok StillOpen = ok.1.1.1.1.1.1.1.1.1.0

-- and a call that meets none is accepted
pub accepts : (m : Selecting) (h : List Event) (room : ℕ) (e : Event) → ((r : Refusal) → Met m h room e r → ⊥) → Accepts m h room e
accepts m h room e none = none_met (Met m h room e) scan_lines none

pub shared_unmet : (m : Selecting) (h : List Event) (room : ℕ) (e : Event) → Accepts m h room e → (r : Refusal) → SharedMet m.shape h e r → ⊥
shared_unmet m h room e ok NoStates = unmet m h room e ok NoStates
shared_unmet m h room e ok Ended = unmet m h room e ok Ended
shared_unmet m h room e ok ShortList = λ y. y
shared_unmet m h room e ok BadTag = unmet m h room e ok BadTag
shared_unmet m h room e ok TooDeep = unmet m h room e ok TooDeep
shared_unmet m h room e ok TooMany = unmet m h room e ok TooMany
shared_unmet m h room e ok HoldFull = λ y. y
shared_unmet m h room e ok NoneOpen = unmet m h room e ok NoneOpen
shared_unmet m h room e ok OtherTag = unmet m h room e ok OtherTag
shared_unmet m h room e ok StillOpen = unmet m h room e ok StillOpen

pub watch_unmet : (m : Machine) (h : List Event) (e : Event) → WatchAccepts m h e → (r : Refusal) → SharedMet m h e r → ⊥
watch_unmet m h e ok NoStates = ok.0
watch_unmet m h e ok Ended = ok.1.0
watch_unmet m h e ok ShortList = λ y. y
watch_unmet m h e ok BadTag = ok.1.1.0
watch_unmet m h e ok TooDeep = ok.1.1.1.0
watch_unmet m h e ok TooMany = ok.1.1.1.1.0
watch_unmet m h e ok HoldFull = λ y. y
watch_unmet m h e ok NoneOpen = ok.1.1.1.1.1.0
watch_unmet m h e ok OtherTag = ok.1.1.1.1.1.1.0
watch_unmet m h e ok StillOpen = ok.1.1.1.1.1.1.1.0

pub watch_accepts : (m : Machine) (h : List Event) (e : Event) → ((r : Refusal) → SharedMet m h e r → ⊥) → WatchAccepts m h e
watch_accepts m h e none = none_met (SharedMet m h e) watch_lines none

-- Accepted calls break no rule ------------------------------------------------------------------------------------

failed : (c : Bool) (ts : List ℕ) → cond c (within ts) broken ≡ broken → c ≡ false
failed true ts p = cc
failed false ts p = refl

pub unmet_sound : (m : Machine) (h : List Event) (e : Event) → Sound h → ((r : Refusal) → SharedMet m h e r → ⊥) → Sound (h ++ (e ∷ []))
unmet_sound m h e s none b = on (nest h) refl e none (sym (nest_more h e) ∙ b)
  where
    at_place : (n : Nest) → nest h ≡ n → (e : Event) → ((r : Refusal) → SharedMet m h e r → ⊥) → after n e ≡ broken → ⊥
    at_place (within ts) at (Open t) none b = none BadTag (ltb-false t tags (failed (ltb t tags) (t ∷ ts) b))
    at_place (within []) at (Close t) none b = none NoneOpen at
    at_place (within (u ∷ ts)) at (Close t) none b = none OtherTag (u, ts, at, eqb-false u t (failed (eqb u t) ts b))
    at_place (within []) at End none b = cc
    at_place (within (u ∷ ts)) at End none b = none StillOpen (u, ts, at)
    at_place over at e none b = none Ended at
    at_place broken at e none b = s at

    on : (n : Nest) → nest h ≡ n → (e : Event) → ((r : Refusal) → SharedMet m h e r → ⊥) → after (nest h) e ≡ broken → ⊥
    on n at e none b = at_place n at e none (subst (λ (x : Nest). after x e ≡ broken) at b)

pub accepted_sound : (m : Selecting) (h : List Event) (room : ℕ) (e : Event) → Sound h → Accepts m h room e → Sound (h ++ (e ∷ []))
accepted_sound m h room e s ok = unmet_sound m.shape h e s (shared_unmet m h room e ok)

pub watch_accepted_sound : (m : Machine) (h : List Event) (e : Event) → Sound h → WatchAccepts m h e → Sound (h ++ (e ∷ []))
watch_accepted_sound m h e s ok = unmet_sound m h e s (watch_unmet m h e ok)

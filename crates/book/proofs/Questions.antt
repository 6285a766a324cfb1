-- Questions about catalogues: what every ending answers stays so, and after the end the catalogue answers.
use Rattle.std.proofs.Common.{◌≡◌, Bool, true, false, ◌↔◌, List, [], ◌++◌, sym, ap, ◌∙◌, subst, inl, inr, append_assoc, append-nil}
use Rattle.std.proofs.lemmas.Bool.{both_ways, cases_Bool}
use Rattle.book.specs.declared.event.Event.{Event}
use Rattle.book.specs.Catalogue.{follow, Nest, within, over, after, nest, Sound, Ending}
use Rattle.book.specs.Orders.{Every, Some}
use Rattle.book.proofs.Nesting.{follow_append, over_only_empty, ending}

-- Every and some --------------------------------------------------------------------------------------------------

-- where no ending answers otherwise, every ending answers so
pub every_unless : (question : List Event → Bool) (h : List Event) → (Some question false h → ⊥) → Every question true h
every_unless question h none e fin = elim (cases_Bool (question (h ++ e))) [ inl y ↦ y | inr n ↦ absurd (none (e, fin, n)) ]

pub never_unless : (question : List Event → Bool) (h : List Event) → (Some question true h → ⊥) → Every question false h
never_unless question h none e fin = elim (cases_Bool (question (h ++ e))) [ inl y ↦ absurd (none (e, fin, y)) | inr n ↦ n ]

-- there is an ending, so that not every one answers yes and every one no
pub not_every_both : (question : List Event → Bool) (h : List Event) → Sound h → Every question true h → Every question false h → ⊥
not_every_both question h s y n = let e = ending h s in both_ways (question (h ++ e.0)) (n e.0 e.1) (y e.0 e.1)

pub not_every_some : (question : List Event → Bool) (h : List Event) → Every question true h → Some question false h → ⊥
not_every_some question h every some = both_ways (question (h ++ some.0)) some.2 (every some.0 some.1)

pub not_never_some : (question : List Event → Bool) (h : List Event) → Every question false h → Some question true h → ⊥
not_never_some question h never some = both_ways (question (h ++ some.0)) (never some.0 some.1) some.2

-- More events -----------------------------------------------------------------------------------------------------

pub every_on : (question : List Event → Bool) (b : Bool) (h d : List Event) → Every question b h → Every question b (h ++ d)
every_on question b h d every e fin =
    let same = append_assoc h d e in
    subst (λ (x : List Event). question x ≡ b) (sym same) (every (d ++ e) (subst (λ (x : List Event). nest x ≡ over) same fin))

-- After the end ---------------------------------------------------------------------------------------------------

-- the only ending is the empty list
pub only_empty_ending : (h : List Event) → nest h ≡ over → (e : List Event) → Ending h e → e ≡ []
only_empty_ending h fin e f = over_only_empty e (ap (λ (n : Nest). follow after n e) (sym fin) ∙ sym (follow_append after (within []) h e) ∙ f)

pub every_at_end : (question : List Event → Bool) (b : Bool) (h : List Event) → nest h ≡ over → Every question b h ↔ (question h ≡ b)
every_at_end question b h fin = (
  λ every. subst (λ (x : List Event). question x ≡ b) (append-nil h) (every [] (ap nest (append-nil h) ∙ fin)),
  λ y e fin'. subst (λ (x : List Event). question (h ++ x) ≡ b) (sym (only_empty_ending h fin e fin')) (subst (λ (x : List Event). question x ≡ b) (sym (append-nil h)) y),
)

pub some_at_end : (question : List Event → Bool) (b : Bool) (h : List Event) → nest h ≡ over → Some question b h → question h ≡ b
some_at_end question b h fin some =
    subst (λ (x : List Event). question x ≡ b) (ap (λ (x : List Event). h ++ x) (only_empty_ending h fin some.0 some.1) ∙ append-nil h) some.2

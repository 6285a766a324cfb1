-- Due, dropped and held items, right rules, and right orders.
use Rattle.std.proofs.Common.{◌≡◌, ℕ, ◌<◌, Bool, true, false, ◌⊎◌, List, [], ◌∷◌, ◌++◌, sym, refl, ◌∙◌, subst, inl, inr, append_assoc, arith}
use Rattle.std.proofs.lemmas.Bool.{cases_Bool, cases_lt, both_ways}
use Rattle.book.specs.declared.event.Event.{Event}
use Rattle.book.specs.Catalogue.{Nest, within, over, broken, nest, Catalogue, Sound, opened}
use Rattle.book.specs.Machines.{Selecting, Lawful, LawfulMarks, run, marking, selected}
use Rattle.book.specs.Orders.{Some, Opened, Due, Dropped, Held}
use Rattle.book.specs.Tables.{Fits, may_end, Decided}
use Rattle.book.specs.Earliest.{AlwaysEnding, NotTwo, OneOfThree, ItemsAreOneOfThree, DecisionsLast, EndDecides, RightIfDue, RightRuleOrdersDue, OrderRightIfDue, LeftOut, TooEarlyIsWrong}
use Rattle.book.proofs.Nesting.{ending, ending_sound}
use Rattle.book.proofs.Selections.{opened_on, selected_is, selected_opened}
use Rattle.book.proofs.Questions.{every_unless, never_unless, not_every_both, not_every_some, not_never_some, every_on, every_at_end, some_at_end}
use Rattle.book.proofs.Tables.{tables_decide_item}

-- Due, dropped, held ----------------------------------------------------------------------------------------------

pub always_ending : AlwaysEnding
always_ending h = (λ s. let r = ending h s in (r.0, r.1), λ x. ending_sound h x.0 x.1)

pub sound_before : (p d : List Event) → Sound (p ++ d) → Sound p
sound_before p d s = let e = ending (p ++ d) s in ending_sound p (d ++ e.0) (subst (λ (x : List Event). nest x ≡ over) (append_assoc p d e.0) e.1)

pub due_opened : (m : Selecting) (h : List Event) (i : ℕ) → Sound h → Due m h i → Opened h i
due_opened m h i s d =
    let e = ending h s in
    let o = selected_opened m i (h ++ e.0) (d e.0 e.1) in
    (o.0, let a = o.1 in let b = e.2 in omega arith)

pub due_on : (m : Selecting) (h d : List Event) (i : ℕ) → Due m h i → Due m (h ++ d) i
due_on m h d i = every_on (selected m i) true h d

pub dropped_on : (m : Selecting) (h d : List Event) (i : ℕ) → Dropped m h i → Dropped m (h ++ d) i
dropped_on m h d i dr = (opened_on h d i dr.0, every_on (selected m i) false h d dr.1)

pub decisions_last : DecisionsLast
decisions_last m h d i s = (λ due. (due_opened m h i s due, due_on m h d i due), dropped_on m h d i)

pub not_two : (m : Selecting) (h : List Event) (i : ℕ) → Sound h → NotTwo m h i
not_two m h i s = (
  λ due dr. not_every_both (selected m i) h s due dr.1,
  λ due held. not_every_some (selected m i) h due held.2,
  λ dr held. not_never_some (selected m i) h dr.1 held.1,
)

-- an opened item is none of the three in no case
pub not_none : (m : Selecting) (h : List Event) (i : ℕ) → Opened h i → (Due m h i → ⊥) → (Dropped m h i → ⊥) → (Held m h i → ⊥) → ⊥
not_none m h i o nd np nh = nd (every_unless (selected m i) h (λ sf. np (o, never_unless (selected m i) h (λ st. nh (o, st, sf)))))

one_by_answers : (m : Selecting) (h : List Event) (i : ℕ) → Opened h i → Dec (Some (selected m i) true h) → Dec (Some (selected m i) false h) → OneOfThree m h i
one_by_answers m h i o (yes y) (yes z) = inr (inr (o, y, z))
one_by_answers m h i o (yes y) (no z) = inl (every_unless (selected m i) h z)
one_by_answers m h i o (no y) d = inr (inl (o, never_unless (selected m i) h y))

-- After the end ---------------------------------------------------------------------------------------------------

pub end_decides : EndDecides
end_decides m h i fin =
    let question : List Event → Bool = selected m i in
    let t = every_at_end question true h fin in
    let f = every_at_end question false h fin in (
      t,
      (λ dr. (dr.0, f.0 dr.1), λ x. (x.0, f.1 x.1)),
      λ held. both_ways (question h) (some_at_end question false h fin held.2) (some_at_end question true h fin held.1),
    )

-- Where a table fits ----------------------------------------------------------------------------------------------

by_decision : (m : Selecting) (h : List Event) (i : ℕ) (y n : Bool) → Decided m h i y n → OneOfThree m h i
by_decision m h i true true d = inr (inr d)
by_decision m h i true false d = inl d
by_decision m h i false true d = inr (inl d)
by_decision m h i false false d = absurd d

-- a book without states selects nothing
pub none_selected : (m : Selecting) → Lawful m.shape → m.shape.width ≡ 0 → (i : ℕ) (c : List Event) → selected m i c ≡ false
none_selected m law none i c = elim (cases_Bool (selected m i c)) [
  | inl y ↦ absurd (both_ways (selected m i c)
      (selected_is m i c (selected_opened m i c y) ∙ law.no_accept (run m.shape (marking m i) c).state (omega arith)) y)
  | inr n ↦ n
]

module _ (m : Selecting) (reach : ℕ → ℕ → Bool) (law : Lawful m.shape) (mark_law : LawfulMarks m.shape m.mark) (fits : Fits m.shape reach) where
  pub one_of_three : (h : List Event) (i : ℕ) → Sound h → Opened h i → OneOfThree m h i
  one_of_three h i s o = elim (cases_lt_zero m.shape.width) [
    | inl some ↦ by_nest some (nest h) refl
    | inr none ↦ inr (inl (o, λ e fin. none_selected m law none i (h ++ e)))
  ]
    where
      cases_lt_zero : (n : ℕ) → (0 < n) ⊎ (n ≡ 0)
      cases_lt_zero n = elim (cases_lt 0 n) [ inl a ↦ inl a | inr a ↦ inr (omega arith) ]

      by_nest : 0 < m.shape.width → (n : Nest) → nest h ≡ n → OneOfThree m h i
      by_nest some (within ts) at =
          let can : Bool → Bool = may_end reach m.shape ts (run m.shape (marking m i) h) in
          by_decision m h i (can true) (can false) (tables_decide_item m reach law mark_law some fits h i ts at o)
      by_nest some over at = (let d = end_decides m h i at in elim (cases_Bool (selected m i h)) [ inl y ↦ inl (d.0.1 y) | inr n ↦ inr (inl (d.1.1 (o, n))) ])
      by_nest some broken at = absurd (s at)

  pub is_due : (h : List Event) → Sound h → (i : ℕ) → Opened h i → Due m h i ⊎ (Due m h i → ⊥)
  is_due h s i o = let t = not_two m h i s in
      elim (one_of_three h i s o) [ inl d ↦ inl d | inr x ↦ inr (λ d. elim x [ inl y ↦ t.0 d y | inr y ↦ t.1 d y ]) ]

  pub is_dropped : (h : List Event) → Sound h → (i : ℕ) → Opened h i → Dropped m h i ⊎ (Dropped m h i → ⊥)
  is_dropped h s i o = let t = not_two m h i s in
      elim (one_of_three h i s o) [ inl d ↦ inr (λ y. t.0 d y) | inr x ↦ elim x [ inl y ↦ inl y | inr y ↦ inr (λ d. t.2 d y) ] ]

  pub is_held : (h : List Event) → Sound h → (i : ℕ) → Opened h i → Held m h i ⊎ (Held m h i → ⊥)
  is_held h s i o = let t = not_two m h i s in
      elim (one_of_three h i s o) [ inl d ↦ inr (λ y. t.1 d y) | inr x ↦ elim x [ inl y ↦ inr (λ d. t.2 y d) | inr y ↦ inl y ] ]

pub items_are_one_of_three : ItemsAreOneOfThree
items_are_one_of_three = (not_two, one_by_answers, one_of_three)

-- Right rules -----------------------------------------------------------------------------------------------------

-- an event and those after it
split : (p : List Event) (x : Event) (e : List Event) → (p ++ (x ∷ [])) ++ e ≡ p ++ (x ∷ e)
split p x e = append_assoc p (x ∷ []) e

pub right_if_due : RightIfDue
right_if_due m rule = (
  λ right p x i o e fin. subst (λ (c : List Event). selected m i c ≡ true) (sym (split p x e)) (right p x e i (subst (λ (c : List Event). nest c ≡ over) (split p x e) fin) o),
  λ due p x e i fin o. subst (λ (c : List Event). selected m i c ≡ true) (split p x e) (due p x i o e (subst (λ (c : List Event). nest c ≡ over) (sym (split p x e)) fin)),
)

pub right_rule_orders_due : RightRuleOrdersDue
right_rule_orders_due m rule right p x d i s ordered =
    let to : List Event = p ++ (x ∷ []) in
    let sound : Sound to = sound_before to d (subst Sound (sym (split p x d)) s) in
    let due : Due m to i = (right_if_due m rule).0 right p x i ordered in
    (due_opened m to i sound due, due, subst (λ (c : List Event). Due m c i) (split p x d) (due_on m to d i due))

-- Right orders ----------------------------------------------------------------------------------------------------

pub order_right_if_due : OrderRightIfDue
order_right_if_due m h i = (
  λ right e fin. right (h ++ e) (fin, (e, refl)),
  λ due c begins. subst (λ (x : List Event). selected m i x ≡ true) (sym begins.1.1) (due begins.1.0 (subst Catalogue begins.1.1 begins.0)),
)

-- an ending that leaves an item out
left_out : (m : Selecting) (h : List Event) (i : ℕ) → Some (selected m i) false h → LeftOut m h i
left_out m h i some = (h ++ some.0, (some.1, (some.0, refl)), some.2)

-- the ending that opens nothing more leaves out what is not opened
unopened_left_out : (m : Selecting) (h : List Event) (i : ℕ) → Sound h → (Opened h i → ⊥) → LeftOut m h i
unopened_left_out m h i s unopened =
    let e = ending h s in
    left_out m h i (
      e.0,
      e.1,
      elim (cases_Bool (selected m i (h ++ e.0))) [
        | inl y ↦ absurd (unopened (let o = selected_opened m i (h ++ e.0) y in (o.0, let a = o.1 in let b = e.2 in omega arith)))
        | inr n ↦ n
      ],
    )

pub too_early_is_wrong : TooEarlyIsWrong
too_early_is_wrong = (
  λ m h i not_due none. not_due (every_unless (selected m i) h (λ some. none (left_out m h i some))),
  unopened_left_out,
  λ m reach law mark_law fits h i s not_due. elim (opened_or_not h i) [
    | inl o ↦ elim (one_of_three m reach law mark_law fits h i s o) [
      | inl due ↦ absurd (not_due due)
      | inr other ↦ elim other [
        | inl dr ↦ (let e = ending h s in left_out m h i (e.0, e.1, dr.1 e.0 e.1))
        | inr held ↦ left_out m h i held.2
      ]
    ]
    | inr unopened ↦ unopened_left_out m h i s unopened
  ],
)
  where
    opened_or_not : (h : List Event) (i : ℕ) → Opened h i ⊎ (Opened h i → ⊥)
    opened_or_not h i = elim (cases_lt 0 i) [
      | inl a ↦ elim (cases_lt (opened h) i) [ inl b ↦ inr (λ o. let c = o.1 in omega arith) | inr b ↦ inl (omega arith, b) ]
      | inr a ↦ inr (λ o. let c = o.0 in omega arith)
    ]

-- The levels say what every ending, and what some ending, answers.
use Rattle.std.proofs.Common.{◌≡◌, ℕ, suc, ◌≤◌, Bool, cond, eqb, ltb, ◌↔◌, List, [], ◌∷◌, ◌++◌, sym, refl, ap, ◌∙◌, subst, arith}
use Rattle.std.proofs.lemmas.Bool.{eqb-true, ne_eqb}
use Rattle.book.specs.Limits.{tags}
use Rattle.book.specs.declared.event.Event.{Event}
use Rattle.book.specs.declared.event.Event.TheVariants.{Open, Close, End}
use Rattle.book.specs.Catalogue.{follow, Nest, within, over, after, nest}
use Rattle.book.specs.Machines.{Machine, Selecting, Entering, Stand, stand, last, others, step, run, plainly, marking, accepted, selected}
use Rattle.book.specs.Rows.{events, through, Reach}
use Rattle.book.specs.Levels.{Sure, Possible, LevelsTell, LevelsDecideSelected, LevelsDecideAccepted}
use Rattle.book.proofs.Nesting.{follow_append, not_from_broken, within_not_over, over_only_empty, passed}
use Rattle.book.proofs.Steps.{run_items}
use Rattle.book.proofs.Rows.{PlainFrom, plain_later, reach_here, reach_then, reach_item, row_nests, row_leads, close_nests}
use Rattle.book.proofs.Selections.{selected_is, opened_on}

-- Over a row of whole items ---------------------------------------------------------------------------------------

module _ (m : Machine) (b : Bool) where
  -- what is sure stays so, and what is possible was so, over a row of whole items
  pub sure_on : (ts ss : List ℕ) (p q : ℕ) → Reach m p q → Sure m b ts ss p → Sure m b ts ss q
  sure_on [] ss p q a s = λ q' r. s q' (reach_then m p q q' a r)
  sure_on (t ∷ ts) ss p q a s = λ q' r. s q' (reach_then m p q q' a r)

  pub possible_before : (ts ss : List ℕ) (p q : ℕ) → Reach m p q → Possible m b ts ss q → Possible m b ts ss p
  possible_before [] ss p q a s = (s.0, reach_then m p q s.0 a s.1, s.2)
  possible_before (t ∷ ts) ss p q a s = (s.0, reach_then m p q s.0 a s.1, s.2)

-- From the levels to the endings ----------------------------------------------------------------------------------

module _ (m : Machine) (f : Entering) (b : Bool) where
  abbrev Ends : Stand → List Event → Type 0
  Ends c e = m.accepts (follow (step m f) c e).state ≡ b

  -- an item that is entered plainly
  opens : (t : ℕ) (e : List Event) (ss : List ℕ) (q n : ℕ) → PlainFrom m f n → Ends (stand (m.enter q t) (q ∷ ss) (suc n)) e ↔ Ends (stand q ss n) (Open t ∷ e)
  opens t e ss q n pl =
      let same = pl (suc n) q t (omega arith) in
      let P : ℕ → Type 0 = λ x. Ends (stand x (q ∷ ss) (suc n)) e in
      (subst P (sym same), subst P same)

  -- what the levels call sure is so at every ending
  pub sure_holds : (e : List Event) (ts ss : List ℕ) (q n : ℕ) → PlainFrom m f n → Sure m b ts ss q → follow after (within ts) e ≡ over → Ends (stand q ss n) e
  sure_holds [] ts ss q n pl s fin = absurd (within_not_over ts fin)
  sure_holds (Open t ∷ e) ts ss q n pl s fin =
      let ok = passed (ltb t tags) (within (t ∷ ts)) e fin in
      let inside : Sure m b (t ∷ ts) (q ∷ ss) (m.enter q t) = λ q' r. sure_on m b ts ss q (m.back q q' t) (reach_item m q q' t ok.0 r) s in
      (opens t e ss q n pl).0 (sure_holds e (t ∷ ts) (q ∷ ss) (m.enter q t) (suc n) (plain_later m f n pl) inside ok.1)
  sure_holds (Close t ∷ e) [] ss q n pl s fin = absurd (not_from_broken e fin)
  sure_holds (Close t ∷ e) (u ∷ ts) ss q n pl s fin =
      let ok = passed (eqb u t) (within ts) e fin in
      let same = eqb-true u t ok.0 in
      sure_holds e ts (others ss) (m.back (last ss) q t) n pl (subst (λ (x : ℕ). Sure m b ts (others ss) (m.back (last ss) q x)) same (s q (reach_here m q))) ok.1
  sure_holds (End ∷ e) [] ss q n pl s fin = subst (λ (x : List Event). Ends (stand q ss n) x) (sym (over_only_empty e fin)) (s q (reach_here m q))
  sure_holds (End ∷ e) (u ∷ ts) ss q n pl s fin = absurd (not_from_broken e fin)

  -- what some ending comes to is possible by the levels
  pub found_possible : (e : List Event) (ts ss : List ℕ) (q n : ℕ) → PlainFrom m f n → follow after (within ts) e ≡ over → Ends (stand q ss n) e
      → Possible m b ts ss q
  found_possible [] ts ss q n pl fin a = absurd (within_not_over ts fin)
  found_possible (Open t ∷ e) ts ss q n pl fin a =
      let ok = passed (ltb t tags) (within (t ∷ ts)) e fin in
      let inside : Possible m b (t ∷ ts) (q ∷ ss) (m.enter q t) = found_possible e (t ∷ ts) (q ∷ ss) (m.enter q t) (suc n) (plain_later m f n pl) ok.1 ((opens t e ss q n pl).1 a) in
      possible_before m b ts ss q (m.back q inside.0 t) (reach_item m q inside.0 t ok.0 inside.1) inside.2
  found_possible (Close t ∷ e) [] ss q n pl fin a = absurd (not_from_broken e fin)
  found_possible (Close t ∷ e) (u ∷ ts) ss q n pl fin a =
      let ok = passed (eqb u t) (within ts) e fin in
      let same = eqb-true u t ok.0 in
      (q, reach_here m q, subst (λ (x : ℕ). Possible m b ts (others ss) (m.back (last ss) q x)) (sym same) (found_possible e ts (others ss) (m.back (last ss) q t) n pl ok.1 a))
  found_possible (End ∷ e) [] ss q n pl fin a = (q, reach_here m q, subst (λ (x : List Event). Ends (stand q ss n) x) (over_only_empty e fin) a)
  found_possible (End ∷ e) (u ∷ ts) ss q n pl fin a = absurd (not_from_broken e fin)

-- From the endings to the levels ----------------------------------------------------------------------------------

module _ (m : Machine) (f : Entering) (b : Bool) where
  -- what is so at every ending is sure by the levels
  pub holds_sure : (ts ss : List ℕ) (q n : ℕ) → PlainFrom m f n → ((e : List Event) → follow after (within ts) e ≡ over → Ends m f b (stand q ss n) e)
      → Sure m b ts ss q
  holds_sure [] ss q n pl every = λ q' r.
      let lead = row_leads m f r.0 ss q n pl in
      subst (λ (x : ℕ). m.accepts x ≡ b) r.2
      (subst (λ (c : Stand). m.accepts c.state ≡ b) (lead.2 (End ∷ [])) (every (events r.0 ++ (End ∷ [])) (row_nests r.0 [] (End ∷ []) r.1)))
  holds_sure (t ∷ ts) ss q n pl every = λ q' r.
      let lead = row_leads m f r.0 ss q n pl in
      subst (λ (x : ℕ). Sure m b ts (others ss) (m.back (last ss) x t)) r.2
      (holds_sure ts (others ss) (m.back (last ss) (through m r.0 q) t) lead.0 lead.1
      (λ e fin. subst (λ (c : Stand). m.accepts c.state ≡ b) (lead.2 (Close t ∷ e))
      (every (events r.0 ++ (Close t ∷ e)) (row_nests r.0 (t ∷ ts) (Close t ∷ e) r.1 ∙ close_nests t ts e ∙ fin))))

  -- what is possible by the levels some ending comes to
  pub possible_found : (ts ss : List ℕ) (q n : ℕ) → PlainFrom m f n → Possible m b ts ss q
      → (e : List Event) × (follow after (within ts) e ≡ over) × Ends m f b (stand q ss n) e
  possible_found [] ss q n pl p =
      let r = p.1 in
      let lead = row_leads m f r.0 ss q n pl in (
        events r.0 ++ (End ∷ []),
        row_nests r.0 [] (End ∷ []) r.1,
        subst (λ (c : Stand). m.accepts c.state ≡ b) (sym (lead.2 (End ∷ []))) (subst (λ (x : ℕ). m.accepts x ≡ b) (sym r.2) p.2),
      )
  possible_found (t ∷ ts) ss q n pl p =
      let r = p.1 in
      let lead = row_leads m f r.0 ss q n pl in
      let on = possible_found ts (others ss) (m.back (last ss) (through m r.0 q) t) lead.0 lead.1
      (subst (λ (x : ℕ). Possible m b ts (others ss) (m.back (last ss) x t)) (sym r.2) p.2) in (
        events r.0 ++ (Close t ∷ on.0),
        row_nests r.0 (t ∷ ts) (Close t ∷ on.0) r.1 ∙ close_nests t ts on.0 ∙ on.1,
        subst (λ (c : Stand). m.accepts c.state ≡ b) (sym (lead.2 (Close t ∷ on.0))) on.2,
      )

-- Levels and endings ----------------------------------------------------------------------------------------------

-- the levels and the endings, for any question that the run's last state answers
module _ (m : Machine) (f : Entering) (p : List Event → Bool) (h : List Event) (ts : List ℕ)
    (at : nest h ≡ within ts) (pl : PlainFrom m f (run m f h).items)
    (asks : (e : List Event) → p (h ++ e) ≡ m.accepts (run m f (h ++ e)).state) where
  ends : (e : List Event) → p (h ++ e) ≡ m.accepts (follow (step m f) (run m f h) e).state
  ends e = asks e ∙ ap (λ (x : Stand). m.accepts x.state) (follow_append (step m f) (stand m.start [] 0) h e)

  nests : (e : List Event) → nest (h ++ e) ≡ follow after (within ts) e
  nests e = follow_append after (within []) h e ∙ ap (λ (n : Nest). follow after n e) at

  pub levels_tell : LevelsTell m ts (run m f h) p h
  levels_tell b =
      let q : ℕ = (run m f h).state in
      let ss : List ℕ = (run m f h).aside in
      let n : ℕ = (run m f h).items in (
        (
          λ s e fin. ends e ∙ sure_holds m f b e ts ss q n pl s (sym (nests e) ∙ fin),
          λ every. holds_sure m f b ts ss q n pl (λ e fin. sym (ends e) ∙ every e (nests e ∙ fin)),
        ),
        (
          λ x. let r = possible_found m f b ts ss q n pl x in (r.0, nests r.0 ∙ r.1, ends r.0 ∙ r.2),
          λ x. found_possible m f b x.0 ts ss q n pl (sym (nests x.0) ∙ x.1) (sym (ends x.0) ∙ x.2),
        ),
      )

mark_plain : (m : Selecting) (i n : ℕ) → i ≤ n → PlainFrom m.shape (marking m i) n
mark_plain m i n le k s t lt = ap (λ (b : Bool). cond b (m.mark s t) (m.shape.enter s t)) (ne_eqb k i (λ e. omega arith))

pub levels_decide_selected : LevelsDecideSelected
levels_decide_selected m h i ts at o =
    levels_tell m.shape (marking m i) (selected m i) h ts at
    (mark_plain m i (run m.shape (marking m i) h).items (let a = run_items m.shape (marking m i) h (stand m.shape.start [] 0) in let b = o.1 in omega arith))
    (λ e. selected_is m i (h ++ e) (opened_on h e i o))

pub levels_decide_accepted : LevelsDecideAccepted
levels_decide_accepted m h ts at = levels_tell m (plainly m) (accepted m) h ts at (λ k s t lt. refl) (λ e. refl)

-- The items that a scan judges at an event: their numbers, their runs, and which of them are due or held. Assumes nothing.
use Rattle.std.proofs.Common.{◌≡◌, ℕ, suc, ◌<◌, ◌≤◌, Bool, true, false, cond, ltb, ◌↔◌, List, [], ◌∷◌, ◌++◌, map, sym, refl, ap, ◌∙◌, subst, inl, inr, arith}
use Rattle.std.specs.List.{All}
use Rattle.std.proofs.lemmas.List.Elements.{All-nil, All-cons, All-weaker, All-map, All-append}
use Rattle.std.proofs.lemmas.Bool.{ne_eqb, cases_lt}
use Rattle.book.specs.declared.event.Event.{Event}
use Rattle.book.specs.declared.event.Event.TheVariants.{Open, Close, End}
use Rattle.book.specs.declared.answer.Order.{Order}
use Rattle.book.specs.Limits.{tags}
use Rattle.book.specs.Catalogue.{Nest, within, over, broken, after, nest, Sound, opened}
use Rattle.book.specs.Machines.{Selecting, Lawful, LawfulMarks, Stand, run, plainly, marking}
use Rattle.book.specs.Orders.{Opened, Due, Dropped, Held}
use Rattle.book.specs.Tables.{Fits, Decided}
use Rattle.book.specs.ItemLists.{In, Rising, Lists}
use Rattle.book.specs.Shown.{JustDue}
use Rattle.book.proofs.ItemLists.{in_left, in_right, in_cases}
use Rattle.book.proofs.Selections.{opened_on}
use Rattle.book.proofs.Earliest.{due_opened, due_on, dropped_on, not_two, one_of_three}
use Rattle.std.proofs.lemmas.List.{map-append}
use Rattle.book.proofs.Exact.{plus}
use Rattle.book.proofs.Steps.{nest_more, opened_more, run_opens_new}
use Rattle.scan.specs.Tracks.{marked, may, Follows}
use Rattle.scan.specs.Model.{Holding, Model, onward, fresh, pending, is_due, is_held, due_at, held_at}
use Rattle.scan.specs.Standing.{HeldRight, item_in, Stands}
use Rattle.scan.proofs.Tracks.{follows_enter, run_follows}
use Rattle.scan.proofs.Judging.{item_decided, due_told, held_told}
use Rattle.scan.proofs.Holdings.{items_onward, all_listed, kept_in, rising_append, kept_rising}
use Rattle.scan.proofs.Opening.{opening_old, opening_new}

module _ (reach : ℕ → ℕ → Bool) (m : Selecting) (law : Lawful m.shape) (mark_law : LawfulMarks m.shape m.mark) (fits : Fits m.shape reach)
    (s : Model) (h : List Event) (given : List Order) (st : Stands reach m s h given) where
  -- The item that an event opens ----------------------------------------------------------------------------------

  fresh_in : (e : Event) (i : ℕ) → In i (map item_in (fresh reach m s e)) ↔ (Opened (plus h e) i × (i ≤ opened h → ⊥))
  fresh_in (Open t) i =
      let o = opened_more h (Open t) in
      let k = st.opens in (
        elim [ inl q ↦ ((omega arith, omega arith), λ le. omega arith) | inr y ↦ absurd y ],
        λ z. inl (let a = z.0.1 in elim (cases_lt (opened h) i) [ inl b ↦ (let c : i ≡ suc s.opened = omega arith in c) | inr b ↦ absurd (z.1 b) ]),
      )
  fresh_in (Close t) i = (λ y. absurd y, λ z. absurd (z.1 (let a = z.0.1 in let o = opened_more h (Close t) in omega arith)))
  fresh_in End i = (λ y. absurd y, λ z. absurd (z.1 (let a = z.0.1 in let o = opened_more h End in omega arith)))

  fresh_rising : (e : Event) → Rising (opened h) (map item_in (fresh reach m s e))
  fresh_rising (Open t) = ((let k = st.opens in omega arith), tt)
  fresh_rising (Close t) = tt
  fresh_rising End = tt

  module _ (some : 0 < m.shape.width) where
    fresh_follows : (t : ℕ) → Sound (plus h (Open t))
        → Follows reach m.shape (nest (plus h (Open t))) (marked reach m t s.base) (run m.shape (marking m (suc (opened h))) (plus h (Open t)))
    fresh_follows t sound = go (nest h) refl
      where
        go : (n : Nest) → nest h ≡ n
            → Follows reach m.shape (nest (h ++ (Open t ∷ []))) (marked reach m t s.base) (run m.shape (marking m (suc (opened h))) (h ++ (Open t ∷ [])))
        go (within ts) at = on (ltb t tags) refl
          where
            f : Follows reach m.shape (within ts) s.base (run m.shape (plainly m.shape) h)
            f = subst (λ (n : Nest). Follows reach m.shape n s.base (run m.shape (plainly m.shape) h)) at st.base

            to : (b : Bool) → ltb t tags ≡ b → nest (h ++ (Open t ∷ [])) ≡ cond b (within (t ∷ ts)) broken
            to b e = nest_more h (Open t) ∙ ap (λ (n : Nest). after n (Open t)) at ∙ ap (λ (b : Bool). cond b (within (t ∷ ts)) broken) e

            on : (b : Bool) → ltb t tags ≡ b
                → Follows reach m.shape (nest (h ++ (Open t ∷ []))) (marked reach m t s.base) (run m.shape (marking m (suc (opened h))) (h ++ (Open t ∷ [])))
            on true e =
                subst (λ (n : Nest). Follows reach m.shape n (marked reach m t s.base) (run m.shape (marking m (suc (opened h))) (h ++ (Open t ∷ [])))) (sym (to true e))
                (subst (λ (c : Stand). Follows reach m.shape (within (t ∷ ts)) (marked reach m t s.base) c) (sym (run_opens_new m h t))
                (follows_enter reach m.shape law some ts s.base (run m.shape (plainly m.shape) h) t (m.mark s.base.top.state t) (m.mark (run m.shape (plainly m.shape) h).state t) (suc (opened h))
                (ap (λ (q : ℕ). m.mark q t) f.0) f))
            on false e = absurd (sound (to false e))
        go over at = absurd (sound (nest_more h (Open t) ∙ ap (λ (n : Nest). after n (Open t)) at))
        go broken at = absurd (st.exact.sound at)

    fresh_right : (e : Event) → Sound (plus h e) → All (HeldRight reach m (plus h e)) (fresh reach m s e)
    fresh_right (Open t) sound = All-cons (HeldRight reach m (plus h (Open t))) (record { item = suc s.opened; since = suc s.events; track = marked reach m t s.base }) []
        (subst (λ (k : ℕ). HeldRight reach m (h ++ (Open t ∷ [])) (record { item = suc k; since = suc s.events; track = marked reach m t s.base })) (sym st.opens)
        (fresh_follows t sound, ap suc st.events ∙ sym (opening_new h [] t)))
        (All-nil (HeldRight reach m (plus h (Open t))))
    fresh_right (Close t) sound = All-nil (HeldRight reach m (plus h (Close t)))
    fresh_right End sound = All-nil (HeldRight reach m (plus h End))

    module _ (e : Event) (sound : Sound (plus h e)) where
      -- All that are judged ---------------------------------------------------------------------------------------

      items : map item_in (pending reach m s e) ≡ map item_in s.held ++ map item_in (fresh reach m s e)
      items = map-append item_in (map (onward reach m.shape e) s.held) (fresh reach m s e)
          ∙ ap (λ (r : List ℕ). r ++ map item_in (fresh reach m s e)) (items_onward reach m.shape e s.held)

      was_held : (i : ℕ) → In i (map item_in s.held) ↔ Held m h i
      was_held = st.held.1

      -- what was opened and is not decided
      pending_in : (i : ℕ) → In i (map item_in (pending reach m s e)) ↔ (Opened (plus h e) i × (Due m h i → ⊥) × (Dropped m h i → ⊥))
      pending_in i = subst (λ (r : List ℕ). In i r ↔ (Opened (plus h e) i × (Due m h i → ⊥) × (Dropped m h i → ⊥))) (sym items) (
        λ y. elim (in_cases i (map item_in s.held) (map item_in (fresh reach m s e)) y) [
          | inl a ↦ (let d = (was_held i).0 a in let two = not_two m h i st.exact.sound in (opened_on h (e ∷ []) i d.0, λ u. two.1 u d, λ u. two.2 u d))
          | inr b ↦ (let z = (fresh_in e i).0 b in (z.0, λ u. z.1 (due_opened m h i st.exact.sound u).1, λ u. z.1 u.0.1))
        ],
        λ z. elim (cases_lt (opened h) i) [
          | inl a ↦ in_right i (map item_in s.held) (map item_in (fresh reach m s e)) ((fresh_in e i).1 (z.0, λ le. omega arith))
          | inr b ↦ in_left i (map item_in s.held) (map item_in (fresh reach m s e)) ((was_held i).1
              (elim (one_of_three m reach law mark_law fits h i st.exact.sound (z.0.0, b)) [ inl u ↦ absurd (z.1 u) | inr w ↦ elim w [ inl u ↦ absurd (z.2 u) | inr u ↦ u ] ]))
        ],
      )

      pending_rising : Rising 0 (map item_in (pending reach m s e))
      pending_rising = subst (Rising 0) (sym items)
          (rising_append 0 (opened h) (map item_in s.held) (map item_in (fresh reach m s e)) (omega arith) st.held.0 (fresh_rising e) (λ i y. ((was_held i).0 y).0.1))

      pub pending_right : All (HeldRight reach m (plus h e)) (pending reach m s e)
      pending_right = All-append (HeldRight reach m (plus h e)) (map (onward reach m.shape e) s.held) (fresh reach m s e)
          (All-map (HeldRight reach m (plus h e)) (onward reach m.shape e) s.held
          (All-weaker (λ (x : Holding). In (item_in x) (map item_in s.held) × HeldRight reach m h x) (λ (x : Holding). HeldRight reach m (plus h e) (onward reach m.shape e x))
          (λ x r. old x r.0 r.1) s.held (all_listed (HeldRight reach m h) s.held st.each)))
          (fresh_right e sound)
        where
          old : (x : Holding) → In (item_in x) (map item_in s.held) → HeldRight reach m h x → HeldRight reach m (plus h e) (onward reach m.shape e x)
          old x y r =
              let o : Opened h x.item = ((was_held x.item).0 y).0 in
              let lo = o.0 in
              let hi = o.1 in (
                run_follows reach m.shape law some h e x.track (marking m x.item) sound
                    (λ q t. ap (λ (b : Bool). cond b (m.mark q t) (m.shape.enter q t)) (ne_eqb (suc (opened h)) x.item (λ z. omega arith))) r.0,
                r.1 ∙ sym (opening_old h (e ∷ []) x.item lo hi),
              )

      decided : (x : Holding) → In (item_in x) (map item_in (pending reach m s e)) → HeldRight reach m (plus h e) x
          → Decided m (plus h e) x.item (may m.shape e true x.track) (may m.shape e false x.track)
      decided x y r = item_decided reach m law mark_law fits some h e x.item ((pending_in x.item).0 y).0 x.track r.0

      all_tell : (p : Holding → Bool) (Kind : ℕ → Type 0)
          → ((x : Holding) → Decided m (plus h e) x.item (may m.shape e true x.track) (may m.shape e false x.track) → (p x ≡ true) ↔ Kind x.item)
          → All (λ (x : Holding). (p x ≡ true) ↔ Kind x.item) (pending reach m s e)
      all_tell p Kind tells =
          All-weaker (λ (x : Holding). In (item_in x) (map item_in (pending reach m s e)) × HeldRight reach m (plus h e) x) (λ (x : Holding). (p x ≡ true) ↔ Kind x.item)
          (λ x r. tells x (decided x r.0 r.1)) (pending reach m s e) (all_listed (HeldRight reach m (plus h e)) (pending reach m s e) pending_right)

      -- The due and the held --------------------------------------------------------------------------------------

      pub due_lists : Lists (JustDue m h e) (map item_in (due_at reach m s e))
      due_lists =
          let ps : List Holding = pending reach m s e in
          let is = kept_in (is_due m.shape e) (Due m (plus h e)) ps
          (all_tell (is_due m.shape e) (Due m (plus h e)) (λ x. due_told m (plus h e) sound x.item (may m.shape e true x.track) (may m.shape e false x.track))) in (
            kept_rising (is_due m.shape e) 0 ps pending_rising,
            λ i. (
              λ y. let z = (is i).0 y in (z.1, ((pending_in i).0 z.0).1),
              λ z. (is i).1 ((pending_in i).1 (due_opened m (plus h e) i sound z.0, z.1, λ d. (not_two m (plus h e) i sound).0 z.0 (dropped_on m h (e ∷ []) i d)), z.0),
            ),
          )

      pub held_lists : Lists (Held m (plus h e)) (map item_in (held_at reach m s e))
      held_lists =
          let ps : List Holding = pending reach m s e in
          let is = kept_in (is_held m.shape e) (Held m (plus h e)) ps
          (all_tell (is_held m.shape e) (Held m (plus h e)) (λ x. held_told m (plus h e) sound x.item (may m.shape e true x.track) (may m.shape e false x.track))) in
          let two = (λ (i : ℕ). not_two m (plus h e) i sound) in (
            kept_rising (is_held m.shape e) 0 ps pending_rising,
            λ i. (
              λ y. ((is i).0 y).1,
              λ z. (is i).1 ((pending_in i).1 (z.0, λ d. (two i).1 (due_on m h (e ∷ []) i d) z, λ d. (two i).2 (dropped_on m h (e ∷ []) i d) z), z),
            ),
          )

-- One step of the scan over lists keeps the promise, and it stands after it. Assumes nothing.
use Rattle.std.proofs.Common.{◌≡◌, ℕ, suc, ◌+◌, ◌<◌, ◌≤◌, Bool, cond, ltb, ◌≢◌, List, [], ◌∷◌, ◌++◌, map, length, take, drop, Ok, Err, Result, sym, refl, ap, ◌∙◌, subst, inl, inr, arith, length-append}
use lib.ListN.{length-map}
use Rattle.std.proofs.lemmas.List.Elements.{All-nil, All-weaker, All-filter}
use Rattle.std.proofs.lemmas.Bool.{ltb-true, lt-ltb, cases_lt}
use Rattle.book.specs.declared.event.Event.{Event}
use Rattle.book.specs.declared.event.Event.TheVariants.{Open, Close, End}
use Rattle.book.specs.declared.answer.Order.{Order}
use Rattle.book.specs.declared.answer.Totals.{Totals}
use Rattle.book.specs.declared.answer.Refusal.{Refusal}
use Rattle.book.specs.declared.answer.Refusal.TheVariants.{NoStates, Ended, BadTag, TooDeep, TooMany, HoldFull, NoneOpen, OtherTag, StillOpen}
use Rattle.book.specs.Limits.{tags, most_held, least_room}
use Rattle.book.specs.Catalogue.{Nest, within, over, broken, after, nest, Sound, count}
use Rattle.book.specs.Machines.{Selecting, Lawful, LawfulMarks, plainly}
use Rattle.book.specs.Orders.{Dropped, Held}
use Rattle.book.specs.Tables.{Fits}
use Rattle.book.specs.ItemLists.{Counts}
use Rattle.book.specs.Checks.{scan_lines, Overfull, Met, Accepts}
use Rattle.book.specs.Promise.{Exchange, exchange, opening, with_orders, Keeps}
use Rattle.book.specs.PromiseLaws.{with_event}
use Rattle.book.specs.Shown.{JustDue, Shown}
use Rattle.book.proofs.ItemLists.{listed, counts_same}
use Rattle.book.proofs.Earliest.{is_dropped}
use Rattle.book.proofs.Nesting.{within_not_broken}
use Rattle.book.proofs.Checks.{accepted_sound, unmet}
use Rattle.book.proofs.Exact.{plus, exact_none, exact_on, orders_so_far, shown_is_enough}
use Rattle.book.proofs.Steps.{nest_more, opened_more}
use Rattle.scan.specs.Model.{Holding, Model, pending, is_due, is_held, due_at, held_at, next, test, totals, answer, list_after, model_after}
use Rattle.scan.specs.Standing.{HeldRight, item_in, Stands, StepKept, BeginsRight, StepsRight}
use Rattle.scan.proofs.Tracks.{first_follows, run_follows}
use Rattle.scan.proofs.Holdings.{notes_are}
use Rattle.scan.proofs.Tests.{Tells, never, AllTell, Outcome, checked_right, shared_tells}
use Rattle.scan.proofs.Pending.{pending_right, due_lists, held_lists}

module _ (reach : ℕ → ℕ → Bool) (m : Selecting) (law : Lawful m.shape) (mark_law : LawfulMarks m.shape m.mark) (fits : Fits m.shape reach)
    (s : Model) (h : List Event) (given : List Order) (st : Stands reach m s h given) where
  -- An accepted call ----------------------------------------------------------------------------------------------

  module _ (some : 0 < m.shape.width) (e : Event) (sound : Sound (plus h e)) (before : List Order) (ok : Accepts m h (length before) e) where
    abbrev due : List Holding
    due = due_at reach m s e

    abbrev a : Totals
    a = totals (length due) (next reach m s e)

    abbrev x : Exchange
    x = exchange e before (Ok a) (list_after reach m s e before (Ok a))

    length_now : suc s.events ≡ length (plus h e)
    length_now = let p = st.events in let q = length-append h (e ∷ []) in omega arith

    -- the answer, with any count of the dropped
    abbrev with_dropped : ℕ → Totals
    with_dropped k = record { orders = length due; opened = count s.opened e; ordered = s.ordered + length due; dropped = k; held = length (held_at reach m s e) }

    shown_with : (k : ℕ) → Counts (Dropped m (plus h e)) k → Shown m h given x (with_dropped k)
    shown_with k d = record {
      accepted = ok;
      orders = (
        map item_in due,
        due_lists reach m law mark_law fits s h given st some e sound,
        sym (length-map due item_in),
        λ i. notes_are (plus h e) (suc s.events) due length_now
            (All-weaker (HeldRight reach m (plus h e)) (λ (y : Holding). y.since ≡ opening y.item (plus h e)) (λ y r. r.1) due
            (All-filter (is_due m.shape e) (HeldRight reach m (plus h e)) (pending reach m s e) (pending_right reach m law mark_law fits s h given st some e sound))) i
            ++ drop (sym (length-map due item_in) i) before,
      );
      opens = ap (λ (n : ℕ). count n e) st.opens ∙ sym (opened_more h e);
      ordered = ap (λ (n : ℕ). n + length due) st.ordered;
      dropped = d;
      held = (map item_in (held_at reach m s e), held_lists reach m law mark_law fits s h given st some e sound, length-map (held_at reach m s e) item_in);
    }

    -- as opened = ordered + dropped + held for any count, the answer has the right one
    step_shown : Shown m h given x a
    step_shown =
        let D = listed (Dropped m (plus h e)) (plus h e) (λ i y. y.0) (is_dropped m reach law mark_law fits (plus h e) sound) in
        let n : ℕ = length D.0 in
        let all = (shown_is_enough m h given x (with_dropped n) st.exact (shown_with n (D.0, D.1, refl))).all in
        shown_with a.dropped (D.0, D.1, omega (arith, all))

    step_stands : Stands reach m (next reach m s e) (plus h e) (given ++ take a.orders x.later)
    step_stands = record {
      exact = exact_on m h given x a.orders st.exact ok step_shown.orders;
      place = ap (λ (n : Nest). after n e) st.place ∙ sym (nest_more h e);
      events = length_now;
      opens = step_shown.opens;
      ordered = step_shown.ordered ∙ sym (orders_so_far (JustDue m h e) (plus h e) given x a.orders step_shown.orders);
      base = run_follows reach m.shape law some h e s.base (plainly m.shape) sound (λ q t. refl) st.base;
      held = held_lists reach m law mark_law fits s h given st some e sound;
      each = All-filter (is_held m.shape e) (HeldRight reach m (plus h e)) (pending reach m s e) (pending_right reach m law mark_law fits s h given st some e sound);
    }

  -- The checks ----------------------------------------------------------------------------------------------------

  some_states : (m.shape.width ≡ 0 → ⊥) → 0 < m.shape.width
  some_states none = let w : m.shape.width ≢ 0 = none in omega arith

  -- an open whose first lines are unmet breaks no rule
  open_sound : (t : ℕ) → (nest h ≡ over → ⊥) → (tags ≤ t → ⊥) → Sound (plus h (Open t))
  open_sound t going small b = go (nest h) refl
    where
      go : (n : Nest) → nest h ≡ n → ⊥
      go (within ts) at =
          let less : t < tags = elim (cases_lt t tags) [ inl y ↦ y | inr z ↦ absurd (small z) ] in
          within_not_broken (t ∷ ts)
          (ap (λ (c : Bool). cond c (within (t ∷ ts)) broken) (sym (lt-ltb t tags less)) ∙ ap (λ (n : Nest). after n (Open t)) (sym at) ∙ sym (nest_more h (Open t)) ∙ b)
      go over at = going at
      go broken at = st.exact.sound at

  full_tells : (t : ℕ) → 0 < m.shape.width → Sound (plus h (Open t)) → Tells (ltb most_held (length (held_at reach m s (Open t)))) (Overfull m (plus h (Open t)))
  full_tells t some sound =
      let ks : List Holding = held_at reach m s (Open t) in
      let counts : Counts (Held m (plus h (Open t))) (length ks) = (map item_in ks, held_lists reach m law mark_law fits s h given st some (Open t) sound, length-map ks item_in) in (
        λ y. (length ks, counts, ltb-true most_held (length ks) y),
        λ z. lt-ltb most_held (length ks) (let q = counts_same (Held m (plus h (Open t))) z.0 (length ks) z.1 counts in let p = z.2 in omega arith),
      )

  hold_tells : (room : ℕ) (e : Event) → (m.shape.width ≡ 0 → ⊥) → (nest h ≡ over → ⊥) → (Met m h room e BadTag → ⊥)
      → Tells (test reach m s room e HoldFull) (Met m h room e HoldFull)
  hold_tells room (Open t) states going small = full_tells t (some_states states) (open_sound t going small)
  hold_tells room (Close t) states going small = never (λ y. y)
  hold_tells room End states going small = never (λ y. y)

  tests_tell : (room : ℕ) (e : Event) → AllTell (test reach m s room e) (Met m h room e) scan_lines
  tests_tell room e =
      let shared = shared_tells m.shape h e s.place s.opened st.place st.opens in (
        shared NoStates,
        λ states. (
          shared Ended,
          λ going. (
            (ltb-true room least_room, lt-ltb room least_room),
            λ _. (
              shared BadTag,
              λ small. (
                shared TooDeep,
                λ _. (shared TooMany, λ _. (hold_tells room e states going small, λ _. (shared NoneOpen, λ _. (shared OtherTag, λ _. (shared StillOpen, λ _. tt))))),
              ),
            ),
          ),
        ),
      )

-- Statements ------------------------------------------------------------------------------------------------------

pub steps_right : StepsRight
steps_right reach m s e before law mark_law fits h given st =
    go (answer reach m s (length before) e)
    (checked_right (test reach m s (length before) e) (Met m h (length before) e) scan_lines (totals (length (due_at reach m s e)) (next reach m s e))
    (tests_tell reach m law mark_law fits s h given st (length before) e))
  where
    go : (v : Result Totals Refusal) → Outcome (Met m h (length before) e) scan_lines (totals (length (due_at reach m s e)) (next reach m s e)) v
        → Keeps m h given (exchange e before v (list_after reach m s e before v)) × Stands reach m (model_after reach m s e v) (with_event h e v) (with_orders given v (list_after reach m s e before v))
    go (Ok b) o =
        subst (λ (a : Totals). Keeps m h given (exchange e before (Ok a) (list_after reach m s e before (Ok a)))
        × Stands reach m (next reach m s e) (plus h e) (given ++ take a.orders (list_after reach m s e before (Ok a)))) (sym o.1)
        (let some : 0 < m.shape.width = (let w : m.shape.width ≢ 0 = unmet m h (length before) e o.0 NoStates in omega arith) in
        let sound : Sound (plus h e) = accepted_sound m h (length before) e st.exact.sound o.0 in
        let a : Totals = totals (length (due_at reach m s e)) (next reach m s e) in (
          shown_is_enough m h given (exchange e before (Ok a) (list_after reach m s e before (Ok a))) a st.exact (step_shown reach m law mark_law fits s h given st some e sound before o.0),
          step_stands reach m law mark_law fits s h given st some e sound before o.0,
        ))
    go (Err r) o = ((o, refl), st)

pub begins_right : BeginsRight
begins_right reach m = record {
  exact = exact_none m;
  place = refl;
  events = refl;
  opens = refl;
  ordered = refl;
  base = first_follows reach m.shape;
  held = (tt, λ i. (λ y. absurd y, λ z. let a = z.0.0 in let b = z.0.1 in absurd (omega arith)));
  each = All-nil (HeldRight reach m []);
}

-- whatever has the answer, the list and the state of the scan over lists keeps the promise
pub step_kept : (reach : ℕ → ℕ → Bool) (m : Selecting) (s s' : Model) (e : Event) (before later : List Order) (a : Result Totals Refusal)
    → a ≡ answer reach m s (length before) e → later ≡ list_after reach m s e before a → s' ≡ model_after reach m s e a → StepKept reach m s e before a later s'
step_kept reach m s s' e before later a p q t =
    subst (λ (l : List Order). StepKept reach m s e before a l s') (sym q)
    (subst (λ (x : Model). StepKept reach m s e before a (list_after reach m s e before a) x) (sym t)
    (subst (λ (b : Result Totals Refusal). StepKept reach m s e before b (list_after reach m s e before b) (model_after reach m s e b)) (sym p)
    (steps_right reach m s e before)))

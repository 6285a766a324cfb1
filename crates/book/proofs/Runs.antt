-- Over whole runs: the answers agree with the checks, and the orders so far are those of the due items.
use Rattle.std.proofs.Common.{◌≡◌, List, [], ◌∷◌, ◌++◌, map, length, Ok, Err, Result, sym, refl, ap, ◌∙◌, subst, inl, inr}
use Rattle.book.specs.declared.event.Event.{Event}
use Rattle.book.specs.declared.answer.Order.{Order}
use Rattle.book.specs.declared.answer.Totals.{Totals}
use Rattle.book.specs.declared.answer.Refusal.{Refusal}
use Rattle.book.specs.Machines.{Selecting}
use Rattle.book.specs.Checks.{Accepts, Refuses, scan_lines, Met}
use Rattle.book.specs.History.{Bring, Call, event_of, EventsSoFar}
use Rattle.book.specs.Promise.{Exchange, call_of, with_orders, orders_after, orders_of, Answered, Keeps, Promise}
use Rattle.book.specs.PromiseLaws.{with_event, events_after, events_of, AnswerAgrees, AnswersAgree, OrdersAreTheDue}
use Rattle.book.specs.Shown.{Exact}
use Rattle.book.proofs.Earliest.{end_decides}
use Rattle.book.proofs.Checks.{not_both, topmost_same}
use Rattle.book.proofs.History.{events_same, events_more}
use Rattle.book.proofs.Exchanges.{kept_none, kept_more, kept_before, kept_at, through_all}
use Rattle.book.proofs.Exact.{exact_none, exact_step}

-- One exchange more -----------------------------------------------------------------------------------------------

pub orders_more : (xs : List Exchange) (x : Exchange) (given : List Order)
    → orders_after given (xs ++ (x ∷ [])) ≡ with_orders (orders_after given xs) x.answer x.later
orders_more [] x given = refl
orders_more (y ∷ xs) x given = orders_more xs x (with_orders given y.answer y.later)

pub answered_more : (xs : List Exchange) (x : Exchange) (h : List Event) → events_after h (xs ++ (x ∷ [])) ≡ with_event (events_after h xs) x.call x.answer
answered_more [] x h = refl
answered_more (y ∷ xs) x h = answered_more xs x (with_event h y.call y.answer)

-- the event that a call brings, by its answer
pub keeps_brings : (m : Selecting) (h : List Event) (given : List Order) (x : Exchange) (a : Result Totals Refusal) → Answered m h given x a
    → Bring event_of (λ g c. Accepts m g c.room c.event) (λ g c r. Refuses m g c.room c.event r) h (call_of x ∷ []) (with_event h x.call a)
keeps_brings m h given x (Ok a) k = inl (k.accepted, refl)
keeps_brings m h given x (Err r) k = inr ((r, k.0), refl)

abbrev after_call : List Event → Exchange → List Event
after_call h x = with_event h x.call x.answer

pub events_on : (m : Selecting) (calls : List Call) (h : List Event) (given : List Order) (x : Exchange) → EventsSoFar m calls h → Keeps m h given x
    → EventsSoFar m (calls ++ (call_of x ∷ [])) (with_event h x.call x.answer)
events_on m calls h given x at k = events_more m calls (call_of x) h (after_call h x) at (keeps_brings m h given x x.answer k)

pub promise_none : (m : Selecting) → Promise m []
promise_none m = kept_none (EventsSoFar m) call_of (λ h zs x. Keeps m h (orders_of zs) x)

pub promise_more : (m : Selecting) (xs : List Exchange) (x : Exchange) (h : List Event) → Promise m xs → EventsSoFar m (map call_of xs) h
    → Keeps m h (orders_of xs) x → Promise m (xs ++ (x ∷ []))
promise_more m xs x h = kept_more (EventsSoFar m) call_of (λ g zs y. Keeps m g (orders_of zs) y) xs x h

-- What lasts ------------------------------------------------------------------------------------------------------

-- a fact that each exchange hands on holds after all of them
pub over_run : (m : Selecting) (P : List Order → List Event → Type 0) → P [] []
    → ((given : List Order) (h : List Event) (x : Exchange) → P given h → Keeps m h given x → P (with_orders given x.answer x.later) (with_event h x.call x.answer))
    → (xs : List Exchange) → Promise m xs → (h : List Event) × EventsSoFar m (map call_of xs) h × P (orders_of xs) h
over_run m P start step xs p =
    through_all (EventsSoFar m) call_of (λ h zs x. Keeps m h (orders_of zs) x) (events_same m)
    (λ ys h. P (orders_of ys) h) after_call
    (λ ys x h at y k. (events_on m (map call_of ys) h (orders_of ys) x at k, subst (λ (l : List Order). P l (after_call h x)) (sym (orders_more ys x [])) (step (orders_of ys) h x y k)))
    xs [] refl start p

pub over_run_at : (m : Selecting) (P : List Order → List Event → Type 0) → P [] []
    → ((given : List Order) (h : List Event) (x : Exchange) → P given h → Keeps m h given x → P (with_orders given x.answer x.later) (with_event h x.call x.answer))
    → (xs : List Exchange) (h : List Event) → Promise m xs → EventsSoFar m (map call_of xs) h → P (orders_of xs) h
over_run_at m P start step xs h p at =
    let r = over_run m P start step xs p in
    subst (λ (g : List Event). P (orders_of xs) g) (events_same m (map call_of xs) r.0 h r.1 at) r.2

pub exact_run : (m : Selecting) (xs : List Exchange) (h : List Event) → Promise m xs → EventsSoFar m (map call_of xs) h → Exact m h (orders_of xs)
exact_run m xs h p at = over_run_at m (λ given g. Exact m g given) (exact_none m) (λ given g x ex k. exact_step m g given x x.answer ex k) xs h p at

pub orders_are_the_due : OrdersAreTheDue
orders_are_the_due m xs h p at =
    let ex = exact_run m xs h p at in (
      ex.once,
      ex.due,
      λ fin i. let t = (end_decides m h i fin).0 in (λ y. t.0 ((ex.due i).0 y), λ y. (ex.due i).1 (t.1 y)),
    )

-- Answers and checks ----------------------------------------------------------------------------------------------

err_same : (r s : Refusal) (x : Result Totals Refusal) → x ≡ Err r → x ≡ Err s → r ≡ s
err_same r s x p q = cc

agrees : (m : Selecting) (h : List Event) (given : List Order) (x : Exchange) (a : Result Totals Refusal) → x.answer ≡ a → Answered m h given x a
    → AnswerAgrees m h x
agrees m h given x (Ok a) is k = (
  (λ _. k.accepted, λ _. (a, is)),
  λ r. (λ e. cc, λ t. absurd (not_both (Met m h (length x.before) x.call) scan_lines r k.accepted t)),
)
agrees m h given x (Err r) is k = (
  (λ o. cc o.1, λ ok. absurd (not_both (Met m h (length x.before) x.call) scan_lines r ok k.0)),
  λ s. (
    λ e. subst (Refuses m h (length x.before) x.call) (err_same r s x.answer is e) k.0,
    λ t. is ∙ ap err_of (topmost_same (Met m h (length x.before) x.call) scan_lines r s k.0 t),
  ),
)
  where
    err_of : Refusal → Result Totals Refusal
    err_of q = Err q

-- the events by the answers are the events so far
pub events_answered : (m : Selecting) (xs : List Exchange) → Promise m xs → EventsSoFar m (map call_of xs) (events_of xs)
events_answered m xs p =
    let r = through_all (EventsSoFar m) call_of (λ h zs x. Keeps m h (orders_of zs) x) (events_same m)
    (λ ys h. events_of ys ≡ h) after_call
    (λ ys x h at y k. (events_on m (map call_of ys) h (orders_of ys) x at k, answered_more ys x [] ∙ ap (λ (g : List Event). after_call g x) y))
    xs [] refl refl p in
    subst (EventsSoFar m (map call_of xs)) (sym r.2) r.1

-- An exchange of a run --------------------------------------------------------------------------------------------

module _ (m : Selecting) (xs ys : List Exchange) (x : Exchange) (zs : List Exchange) (p : Promise m xs) (e : xs ≡ ys ++ (x ∷ zs)) where
  pub promise_before : Promise m ys
  promise_before = kept_before (EventsSoFar m) call_of (λ h ws w. Keeps m h (orders_of ws) w) ys (x ∷ zs) (subst (Promise m) e p)

  pub events_before : EventsSoFar m (map call_of ys) (events_of ys)
  events_before = events_answered m ys promise_before

  pub exact_before : Exact m (events_of ys) (orders_of ys)
  exact_before = exact_run m ys (events_of ys) promise_before events_before

  pub keeps_here : Keeps m (events_of ys) (orders_of ys) x
  keeps_here = kept_at (EventsSoFar m) call_of (λ h ws w. Keeps m h (orders_of ws) w) (events_same m) xs ys x zs (events_of ys) p e events_before

pub answers_agree : AnswersAgree
answers_agree m xs p = (
  events_answered m xs p,
  λ ys x zs e. agrees m (events_of ys) (orders_of ys) x x.answer refl (keeps_here m xs ys x zs p e),
)

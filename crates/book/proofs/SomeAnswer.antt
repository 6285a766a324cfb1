-- Where a table fits, each call has an answer that keeps the promise.
use Rattle.std.proofs.Common.{ℕ, ◌+◌, Bool, List, [], ◌∷◌, ◌++◌, map, length, drop, Ok, Err, Result, refl, inl, inr}
use Rattle.book.specs.declared.event.Event.{Event}
use Rattle.book.specs.declared.answer.Order.{Order}
use Rattle.book.specs.declared.answer.Totals.{Totals}
use Rattle.book.specs.declared.answer.Refusal.{Refusal}
use Rattle.book.specs.Catalogue.{Sound, opened}
use Rattle.book.specs.Machines.{Selecting, Lawful, LawfulMarks}
use Rattle.book.specs.Orders.{Dropped}
use Rattle.book.specs.Tables.{Fits}
use Rattle.book.specs.Checks.{Accepts}
use Rattle.book.specs.History.{EventsSoFar}
use Rattle.book.specs.Promise.{Exchange, exchange, call_of, orders_of, order, item_of, Keeps, Promise}
use Rattle.book.specs.PromiseLaws.{asked, SomeAnswer}
use Rattle.book.specs.Shown.{Exact, JustDue}
use Rattle.book.proofs.Earliest.{due_opened, is_due, is_dropped}
use Rattle.book.proofs.ItemLists.{in_or_not, listed}
use Rattle.book.proofs.Checks.{accepted_sound}
use Rattle.book.proofs.Exchanges.{some_exchanges}
use Rattle.book.proofs.Exact.{shown_is_enough}
use Rattle.book.proofs.Runs.{events_answered, exact_run, promise_more}
use Rattle.book.proofs.Telling.{held_list, scan_outcome}

module _ (m : Selecting) (reach : ℕ → ℕ → Bool) (law : Lawful m.shape) (mark_law : LawfulMarks m.shape m.mark) (fits : Fits m.shape reach) where
  abbrev Answer : List Event → List Order → Event → List Order → Type 0
  Answer h given e before = (a : Result Totals Refusal) × (later : List Order) × Keeps m h given (exchange e before a later)

  accepted_answer : (h : List Event) (given : List Order) (e : Event) (before : List Order) → Exact m h given → Accepts m h (length before) e
      → Answer h given e before
  accepted_answer h given e before ex ok =
      let now : List Event = h ++ (e ∷ []) in
      let s : Sound now = accepted_sound m h (length before) e ex.sound ok in
      let old : List ℕ = map item_of given in
      let new = listed (JustDue m h e) now (λ i y. due_opened m now i s y.0)
      (λ i o. elim (is_due m reach law mark_law fits now s i o) [ inl d ↦ elim (in_or_not old i) [ inl y ↦ inr (λ z. z.1 ((ex.due i).0 y)) | inr n ↦ inl (d, λ b. n ((ex.due i).1 b)) ] | inr n ↦ inr (λ z. n z.0) ]) in
      let dropped = listed (Dropped m now) now (λ i y. y.0) (is_dropped m reach law mark_law fits now s) in
      let held = held_list m reach law mark_law fits now s in
      let a : Totals = record { orders = length new.0; opened = opened now; ordered = length given + length new.0; dropped = length dropped.0; held = length held.0 } in
      let later : List Order = map (order now) new.0 ++ drop (length new.0) before in (
        Ok a,
        later,
        shown_is_enough m h given (exchange e before (Ok a) later) a ex (record {
          accepted = ok;
          orders = (new.0, new.1, refl, refl);
          opens = refl;
          ordered = refl;
          dropped = (dropped.0, dropped.1, refl);
          held = (held.0, held.1, refl);
        }),
      )

  pub any_answer : (h : List Event) (given : List Order) (e : Event) (before : List Order) → Exact m h given → Answer h given e before
  any_answer h given e before ex =
      elim (scan_outcome m reach law mark_law fits h (length before) ex.sound e)
      [ inl f ↦ (Err f.0, before, (f.1, refl)) | inr ok ↦ accepted_answer h given e before ex ok ]

  next_answer : (xs : List Exchange) → Promise m xs → (e : Event) (before : List Order)
      → (a : Result Totals Refusal) × (later : List Order) × Promise m (xs ++ (exchange e before a later ∷ []))
  next_answer xs p e before =
      let at = events_answered m xs p in
      let r = any_answer _ (orders_of xs) e before (exact_run m xs _ p at) in
      (r.0, r.1, promise_more m xs (exchange e before r.0 r.1) _ p at r.2)

pub some_answer : SomeAnswer
some_answer m reach law mark_law fits = (
  next_answer m reach law mark_law fits,
  some_exchanges (EventsSoFar m) call_of (λ h zs x. Keeps m h (orders_of zs) x) asked
      (λ xs p q. let r = next_answer m reach law mark_law fits xs p q.call q.before in (exchange q.call q.before r.0 r.1, refl, r.2)),
)

-- An accepted call, on the scan over lists that a scan stands for, before it and after it. Assumes nothing.
use Rattle.std.proofs.Common.{◌≡◌, ℕ, suc, ◌+◌, ◌-◌, Bool, List, [], ◌++◌, map, length, drop, Ok, Err, Result, filter, sym, refl, ap, ◌∙◌, subst}
use Rattle.book.specs.declared.event.Event.{Event}
use Rattle.book.specs.declared.answer.Order.{Order}
use Rattle.book.specs.declared.answer.Totals.{Totals}
use Rattle.book.specs.Catalogue.{after, count}
use Rattle.book.specs.Checks.{scan_lines}
use Rattle.book.specs.declared.answer.Refusal.{Refusal}
use Rattle.book.specs.Machines.{Selecting, Lawful, LawfulMarks}
use Rattle.ready.proofs.Existence.{ready_fits}
use Rattle.scan.specs.Tests.{checked}
use Rattle.scan.specs.Tracks.{moved}
use Rattle.scan.specs.Model.{Holding, Model, begun, pending, is_due, is_held, due_at, held_at, next, test, totals, answer, note, list_after}
use Rattle.scan.specs.Standing.{Stands}
use Rattle.scan.proofs.Standing.{begins_right, step_kept}
use Rattle.scan_calls.specs.declared.scanning.Scan.{Scan}
use Rattle.scan_calls.specs.Rows.{base_of, held_of, Settled}
use Rattle.scan_calls.specs.Scans.{model_of, meaning_of, table_of, totals_of, Counted, Stepped, Called}
use Rattle.scan_calls.proofs.Lines.{ok_is, err_is, apart}

-- the items judged are those that the event leaves pending, and what is counted is counted on
module _ (reach : ℕ → ℕ → Bool) (m : Selecting) (e : Event) (old new : Model) (event sent left : ℕ) (items : List Holding) (before later : List Order)
    (number : event ≡ suc old.events) (judged : items ≡ pending reach m old e) (settled : Settled m.shape e event items before later sent new.held left)
    (place : new.place ≡ after old.place e) (events : new.events ≡ event) (opens : new.opened ≡ count old.opened e)
    (ordered : new.ordered ≡ old.ordered + sent) (base : new.base ≡ moved reach m.shape e old.base) where
  sent_is : sent ≡ length (due_at reach m old e)
  sent_is = settled.due ∙ ap (λ (hs : List Holding). length (filter (is_due m.shape e) hs)) judged

  model_is : new ≡ next reach m old e
  model_is =
      let held : new.held ≡ held_at reach m old e = settled.held ∙ ap (filter (is_held m.shape e)) judged in
      let sum : new.ordered ≡ old.ordered + length (due_at reach m old e) = ordered ∙ ap (λ (k : ℕ). old.ordered + k) sent_is in
      λ i. record { place = place i; events = (events ∙ number) i; opened = opens i; ordered = sum i; base = base i; held = held i }

  -- the answer has these totals
  module _ (a : Totals) (is : a ≡ record { orders = sent; opened = new.opened; ordered = new.ordered; dropped = new.opened - (new.ordered + (left - 1)); held = left - 1 }) where
    totals_is : a ≡ totals (length (due_at reach m old e)) (next reach m old e)
    totals_is = is
        ∙ (λ i. record { orders = sent; opened = new.opened; ordered = new.ordered; dropped = new.opened - (new.ordered + sym settled.cells i); held = sym settled.cells i })
        ∙ (λ i. totals (sent_is i) (model_is i))

    answer_is : Ok (tt {0}) ≡ checked (test reach m old (length before) e) scan_lines (tt {0}) → Ok a ≡ answer reach m old (length before) e
    answer_is ok = ok_is (test reach m old (length before) e) scan_lines (tt {0}) a (totals (length (due_at reach m old e)) (next reach m old e)) ok totals_is

    list_is : later ≡ list_after reach m old e before (Ok a)
    list_is = settled.list
        ∙ (λ i. map (note (number i)) (filter (is_due m.shape e) (judged i)) ++ drop sent before)
        ∙ ap (λ (k : ℕ). map (note (suc old.events)) (due_at reach m old e) ++ drop k before) (sym (ap (λ (x : Totals). x.orders) is))

-- A call of a scan ----------------------------------------------------------------------------------------------

module _ {B : Type 0} {selects : _} {book : _} (e : Event) (s : Scan B selects book) (before : List Order) where
  abbrev reach : ℕ → ℕ → Bool
  reach = table_of s

  abbrev m : Selecting
  m = meaning_of s

  abbrev lines : Refusal → Bool
  lines = test reach m (model_of s) (length before) e

  -- a refused one changes nothing
  pub refused : (r : Refusal) → Err r ≡ checked lines scan_lines (tt {0}) → Stepped e s s before before (Err r)
  refused r is = record {
    same = refl;
    answer = err_is lines scan_lines (tt {0}) (totals (length (due_at reach m (model_of s) e)) (next reach m (model_of s) e)) r is;
    list = refl;
    model = refl;
    unchanged = λ l q. refl;
  }

  -- an accepted one: behind it the scan is at first x, whose rows alone are behind the event, and then s'
  pub accepted : (x s' : Scan B selects book) (later : List Order) (event sent : ℕ) (items : List Holding) → Counted event sent x s' → x.ready ≡ s.ready → event ≡ suc s.events → items ≡ pending reach m (model_of s) e
      → Settled m.shape e event items before later sent (held_of x.rows) x.rows.count → (model_of x).place ≡ after (model_of s).place e → x.opened ≡ count s.opened e
      → x.ordered ≡ s.ordered → base_of x.rows ≡ moved reach m.shape e (base_of s.rows) → (a : Totals) → a ≡ totals_of sent s' → Ok (tt {0}) ≡ checked lines scan_lines (tt {0})
      → Stepped e s s' before later (Ok a)
  accepted x s' later event sent items counts same number judged settled place opens ordered base a is ok =
      let new : Model = record (model_of x) { events = event; ordered = x.ordered + sent } in
      let sum : new.ordered ≡ s.ordered + sent = ap (λ (k : ℕ). k + sent) ordered in
      let told : a ≡ record { orders = sent; opened = new.opened; ordered = new.ordered; dropped = new.opened - (new.ordered + (x.rows.count - 1)); held = x.rows.count - 1 } =
      is ∙ (λ i. record {
        orders = sent;
        opened = (counts.model i).opened;
        ordered = (counts.model i).ordered;
        dropped = (counts.model i).opened - ((counts.model i).ordered + ((counts.rows i).count - 1));
        held = (counts.rows i).count - 1;
      }) in
      record {
        same = counts.ready ∙ same;
        answer = answer_is reach m e (model_of s) new event sent x.rows.count items before later number judged settled place refl opens sum base a told ok;
        list = list_is reach m e (model_of s) new event sent x.rows.count items before later number judged settled place refl opens sum base a told;
        model = counts.model ∙ model_is reach m e (model_of s) new event sent x.rows.count items before later number judged settled place refl opens sum base;
        unchanged = λ l q. apart a l q;
      }

-- What the scan over lists does keeps the promise ----------------------------------------------------------------

pub begun_stands : (reach : ℕ → ℕ → Bool) (m : Selecting) (s : Model) → s ≡ begun reach m.shape → Stands reach m s [] []
begun_stands reach m s is = subst (λ (x : Model). Stands reach m x [] []) (sym is) (begins_right reach m)

pub called : {B : Type 0} {selects : _} {book : _} (call e : Event) → call ≡ e → (s s' : Scan B selects book) (before later : List Order) (a : Result Totals Refusal)
    → Lawful (meaning_of s).shape → LawfulMarks (meaning_of s).shape (meaning_of s).mark → Stepped e s s' before later a → Called call s s' before later a
called call e is s s' before later a law marks step = subst (λ (f : Event). Called f s s' before later a) (sym is) (record {
  stepped = step;
  kept = step_kept (table_of s) (meaning_of s) (model_of s) (model_of s') e before later a step.answer step.list step.model law marks
      (ready_fits (meaning_of s).shape law (table_of s) s.ready.leads);
})

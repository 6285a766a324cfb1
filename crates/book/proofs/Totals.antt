-- The totals count the items of each kind.
use Rattle.std.proofs.Common.{◌≡◌, ℕ, ◌+◌, ◌<◌, ◌≤◌, List, [], ◌∷◌, ◌++◌, map, length, take, Ok, sym, ◌∙◌, subst, inl, inr, arith}
use lib.ListN.{length-map}
use Rattle.book.specs.declared.event.Event.{Event}
use Rattle.book.specs.declared.answer.Order.{Order}
use Rattle.book.specs.declared.answer.Totals.{Totals}
use Rattle.book.specs.Catalogue.{opened}
use Rattle.book.specs.Machines.{Selecting}
use Rattle.book.specs.Orders.{Due, Dropped, Held}
use Rattle.book.specs.ItemLists.{Counts}
use Rattle.book.specs.Promise.{Exchange, orders_of, item_of, NewlyDue, Fulfilled, Answered}
use Rattle.book.specs.PromiseLaws.{events_of, TotalsAreTrue}
use Rattle.book.specs.Shown.{Exact}
use Rattle.book.proofs.Earliest.{due_opened}
use Rattle.book.proofs.ItemLists.{in_or_not, listed, rising_once, once_fewer}
use Rattle.book.proofs.Exact.{exact_step, orders_so_far}
use Rattle.book.proofs.Runs.{exact_before, keeps_here}

pub due_counted : (m : Selecting) (h : List Event) (given : List Order) → Exact m h given → Counts (Due m h) (length given)
due_counted m h given ex =
    let G : List ℕ = map item_of given in
    let among : (i : ℕ) → Due m h i → (0 < i) × (i ≤ opened h) = (λ i d. let o = due_opened m h i ex.sound d in ((let a = o.0 in omega arith), o.1)) in
    let r = listed (Due m h) h (λ i d. due_opened m h i ex.sound d)
    (λ i o. elim (in_or_not G i) [ inl y ↦ inl ((ex.due i).0 y) | inr n ↦ inr (λ d. n ((ex.due i).1 d)) ]) in
    let a = once_fewer r.0 G (opened h) (rising_once 0 r.0 r.1.0) ex.once (λ i y. among i ((ex.due i).0 y)) (λ i y. (ex.due i).1 ((r.1.1 i).0 y)) in
    let b = once_fewer G r.0 (opened h) ex.once (rising_once 0 r.0 r.1.0) (λ i y. among i ((r.1.1 i).0 y)) (λ i y. (r.1.1 i).1 ((ex.due i).0 y)) in
    let c = length-map given item_of in
    (r.0, r.1, (let z : length r.0 ≡ length given = omega arith in z))

totals_true : (m : Selecting) (h : List Event) (given : List Order) (x : Exchange) (a : Totals) → Exact m h given → Fulfilled m h given x a →
    let now : List Event = h ++ (x.call ∷ []) in
    (a.opened ≡ opened now) × Counts (Due m now) a.ordered × Counts (Dropped m now) a.dropped × Counts (Held m now) a.held × (a.opened ≡ a.ordered + a.dropped + a.held)
totals_true m h given x a ex k =
    let now : List Event = h ++ (x.call ∷ []) in
    let many = orders_so_far (NewlyDue m h x.call) now given x a.orders k.orders in (
      k.opens,
      subst (Counts (Due m now)) (many ∙ sym k.ordered)
          (due_counted m now (given ++ take a.orders x.later) (exact_step m h given x (Ok a) ex k)),
      k.dropped,
      k.held,
      k.all,
    )

pub totals_are_true : TotalsAreTrue
totals_are_true m xs ys x a p ok =
    let k : Answered m (events_of ys) (orders_of ys) x (Ok a) = subst (Answered m (events_of ys) (orders_of ys) x) ok.1 (keeps_here m xs ys x ok.0.0 p ok.0.1) in
    totals_true m (events_of ys) (orders_of ys) x a (exact_before m xs ys x ok.0.0 p ok.0.1) k

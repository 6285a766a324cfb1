-- The promise leaves no choice: one call has one answer and leaves one list, and the same calls the same exchanges.
use Rattle.std.proofs.Common.{◌≡◌, ℕ, ◌+◌, List, ◌++◌, map, length, drop, Ok, Err, Result, sym, ap, ◌∙◌, subst}
use Rattle.book.specs.declared.event.Event.{Event}
use Rattle.book.specs.declared.answer.Order.{Order}
use Rattle.book.specs.declared.answer.Totals.{Totals}
use Rattle.book.specs.declared.answer.Refusal.{Refusal}
use Rattle.book.specs.Machines.{Selecting}
use Rattle.book.specs.Orders.{Dropped, Held}
use Rattle.book.specs.Checks.{scan_lines, Met}
use Rattle.book.specs.History.{EventsSoFar}
use Rattle.book.specs.Promise.{Exchange, exchange, call_of, orders_of, order, NewlyDue, Keeps}
use Rattle.book.specs.PromiseLaws.{OneAnswer, Asked, asked, OneRun}
use Rattle.book.proofs.ItemLists.{lists_same, counts_same}
use Rattle.book.proofs.Checks.{not_both, topmost_same}
use Rattle.book.proofs.History.{events_same}
use Rattle.book.proofs.Exchanges.{same_exchanges}
use Rattle.book.proofs.Exact.{plus}

same_totals : (a b : Totals) → a.orders ≡ b.orders → a.opened ≡ b.opened → a.ordered ≡ b.ordered → a.dropped ≡ b.dropped → a.held ≡ b.held → a ≡ b
same_totals a b p q r s t = λ i. record { orders = p i; opened = q i; ordered = r i; dropped = s i; held = t i }

ok_of : Totals → Result Totals Refusal
ok_of t = Ok t

err_of : Refusal → Result Totals Refusal
err_of r = Err r

pub one_answer : OneAnswer
unfolding ok_of err_of
one_answer m h given e before l k (Ok a) (Ok b) u v =
    let now : List Event = plus h e in
    let items : u.orders.0 ≡ v.orders.0 = lists_same (NewlyDue m h e) u.orders.0 v.orders.0 u.orders.1 v.orders.1 in
    let n : a.orders ≡ b.orders = u.orders.2 ∙ ap length items ∙ sym v.orders.2 in (
      ap ok_of (same_totals a b n
          (u.opens ∙ sym v.opens)
          (u.ordered ∙ ap (λ (j : ℕ). length given + j) n ∙ sym v.ordered)
          (counts_same (Dropped m now) a.dropped b.dropped u.dropped v.dropped)
          (counts_same (Held m now) a.held b.held u.held v.held)),
      u.orders.3 ∙ ap (λ (j : List ℕ). map (order now) j ++ drop (length j) before) items ∙ sym v.orders.3,
    )
one_answer m h given e before l k (Ok a) (Err s) u v = absurd (not_both (Met m h (length before) e) scan_lines s u.accepted v.0)
one_answer m h given e before l k (Err r) (Ok b) u v = absurd (not_both (Met m h (length before) e) scan_lines r v.accepted u.0)
one_answer m h given e before l k (Err r) (Err s) u v = (ap err_of (topmost_same (Met m h (length before) e) scan_lines r s u.0 v.0), u.1 ∙ sym v.1)

-- an exchange by its parts
same_exchange : (x y : Exchange) → x.call ≡ y.call → x.before ≡ y.before → x.answer ≡ y.answer → x.later ≡ y.later → x ≡ y
same_exchange x y p q r s = λ i. record { call = p i; before = q i; answer = r i; later = s i }

one_exchange : (m : Selecting) (h : List Event) (given : List Order) (x y : Exchange) → asked x ≡ asked y → Keeps m h given x → Keeps m h given y → x ≡ y
one_exchange m h given x y e u v =
    let c : x.call ≡ y.call = ap (λ (a : Asked). a.call) e in
    let b : x.before ≡ y.before = ap (λ (a : Asked). a.before) e in
    let w : Keeps m h given (exchange x.call x.before y.answer y.later) =
    subst (λ (f : Event). Keeps m h given (exchange f x.before y.answer y.later)) (sym c)
    (subst (λ (l : List Order). Keeps m h given (exchange y.call l y.answer y.later)) (sym b) v) in
    let same = one_answer m h given x.call x.before x.later y.later x.answer y.answer u w in
    same_exchange x y c b same.0 same.1

pub one_run : OneRun
one_run m xs ys k l e =
    same_exchanges (EventsSoFar m) call_of (λ h zs x. Keeps m h (orders_of zs) x) (events_same m) asked
    (λ h zs x y a. one_exchange m h (orders_of zs) x y a) xs ys k l e

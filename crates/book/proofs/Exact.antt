-- From call to call the orders given stay those of the due items, and what a scan shows is enough for the promise.
use Rattle.std.proofs.Common.{◌≡◌, ℕ, ◌+◌, Bool, true, false, ◌↔◌, List, [], ◌∷◌, ◌++◌, map, length, take, drop, Ok, Err, Result, sym, refl, ap, ◌∙◌, subst, inl, inr, append-nil, arith, length-append}
use lib.ListN.{length-map}
use Rattle.std.proofs.lemmas.Bool.{both_ways}
use Rattle.book.specs.declared.event.Event.{Event}
use Rattle.book.specs.declared.answer.Order.{Order}
use Rattle.book.specs.declared.answer.Totals.{Totals}
use Rattle.book.specs.declared.answer.Refusal.{Refusal}
use Rattle.book.specs.Catalogue.{Sound, opened}
use Rattle.book.specs.Machines.{Selecting}
use Rattle.book.specs.Orders.{Due, Dropped, Held}
use Rattle.book.specs.ItemLists.{In, Once, Lists, Counts}
use Rattle.book.specs.Checks.{Accepts}
use Rattle.book.specs.Promise.{Exchange, with_orders, order, item_of, NewlyDue, Answered}
use Rattle.book.specs.PromiseLaws.{with_event}
use Rattle.book.specs.Shown.{Exact, JustDue, ShownIsEnough}
use Rattle.book.proofs.Earliest.{due_opened, due_on, not_two, not_none, right_rule_orders_due}
use Rattle.book.proofs.ItemLists.{in_left, in_right, in_cases, in_or_not, lists_alike, mem, mem_in, in_mem, tally, one_if, tally_rising, tally_three, tally_once, rising_once, once_append}
use Rattle.book.proofs.Checks.{accepted_sound}
use Rattle.book.proofs.History.{sound_none}
use Rattle.std.proofs.Math.Seq.{take-append_seam}
use Rattle.std.proofs.lemmas.List.{map-append}

abbrev pub plus : List Event → Event → List Event
plus h e = h ++ (e ∷ [])

-- Newly due -------------------------------------------------------------------------------------------------------

-- due now and not just before, or due now and at no earlier event since its open: the same
pub just_newly : (m : Selecting) (h : List Event) (e : Event) → Sound h → (i : ℕ) → JustDue m h e i ↔ NewlyDue m h e i
just_newly m h e s i = (
  λ j. (j.0, λ p d at o due. j.1 (subst (λ (l : List Event). Due m l i) (sym at) (due_on m p d i due))),
  λ n. (n.0, λ due. n.1 h [] (sym (append-nil h)) (due_opened m h i s due) due),
)

-- The first records of a list -------------------------------------------------------------------------------------

pub items_back : (h : List Event) (items : List ℕ) → map item_of (map (order h) items) ≡ items
items_back h [] = refl
items_back h (i ∷ items) = ap (λ (r : List ℕ). i ∷ r) (items_back h items)

-- n records, of the items that a call orders, and the others as they were
abbrev pub Ordering : (ℕ → Type 0) → List Event → Exchange → ℕ → Type 0
Ordering Kind now x n = (items : List ℕ) × Lists Kind items × (n ≡ length items) × (x.later ≡ map (order now) items ++ drop (length items) x.before)

pub ordering_alike : (P Q : ℕ → Type 0) (now : List Event) (x : Exchange) (n : ℕ) → ((i : ℕ) → P i ↔ Q i) → Ordering P now x n → Ordering Q now x n
ordering_alike P Q now x n alike o = (o.0, lists_alike P Q o.0 alike o.1, o.2, o.3)

module _ (Kind : ℕ → Type 0) (now : List Event) (given : List Order) (x : Exchange) (n : ℕ) (o : Ordering Kind now x n) where
  pub first_records : take n x.later ≡ map (order now) o.0
  first_records =
      let items : List ℕ = o.0 in
      ap (λ (k : ℕ). take k x.later) (o.2 ∙ sym (length-map items (order now)))
      ∙ ap (take (length (map (order now) items))) o.3
      ∙ take-append_seam (map (order now) items) (drop (length items) x.before)

  pub items_so_far : map item_of (given ++ take n x.later) ≡ map item_of given ++ o.0
  items_so_far =
      map-append item_of given (take n x.later)
      ∙ ap (λ (r : List ℕ). map item_of given ++ r) (ap (map item_of) first_records ∙ items_back now o.0)

  pub orders_so_far : length (given ++ take n x.later) ≡ length given + n
  orders_so_far =
      length-append given (take n x.later)
      ∙ ap (λ (k : ℕ). length given + k) (ap length first_records ∙ length-map o.0 (order now) ∙ sym o.2)

-- Exact from call to call -----------------------------------------------------------------------------------------

pub exact_none : (m : Selecting) → Exact m [] []
exact_none m = record {
  sound = sound_none;
  due = λ i. (λ y. absurd y, λ d. let o = due_opened m [] i sound_none d in let a = o.0 in let b = o.1 in absurd (omega arith));
  once = tt;
}

pub exact_on : (m : Selecting) (h : List Event) (given : List Order) (x : Exchange) (n : ℕ) → Exact m h given
    → Accepts m h (length x.before) x.call → Ordering (JustDue m h x.call) (plus h x.call) x n → Exact m (plus h x.call) (given ++ take n x.later)
exact_on m h given x n ex ok o =
    let now : List Event = plus h x.call in
    let old : List ℕ = map item_of given in
    let new : List ℕ = o.0 in
    let same : map item_of (given ++ take n x.later) ≡ old ++ new = items_so_far (JustDue m h x.call) now given x n o in
    let due' : (i : ℕ) → In i (old ++ new) ↔ Due m now i = (λ i. (
      λ a. elim (in_cases i old new a) [ inl y ↦ due_on m h (x.call ∷ []) i ((ex.due i).0 y) | inr y ↦ ((o.1.1 i).0 y).0 ],
      λ d. elim (in_or_not old i) [ inl y ↦ in_left i old new y | inr z ↦ in_right i old new ((o.1.1 i).1 (d, λ b. z ((ex.due i).1 b))) ],
    )) in
    let once' : Once (old ++ new) = once_append old new ex.once (rising_once 0 new o.1.0) (λ i a b. ((o.1.1 i).0 b).1 ((ex.due i).0 a)) in
    record {
      sound = accepted_sound m h (length x.before) x.call ex.sound ok;
      due = subst (λ (l : List ℕ). (i : ℕ) → In i l ↔ Due m now i) (sym same) due';
      once = subst Once (sym same) once';
    }

-- the orders given are as many as the due items
pub exact_counted : (m : Selecting) (h : List Event) (given : List Order) → Exact m h given → tally (mem (map item_of given)) 0 (opened h) ≡ length given
exact_counted m h given ex =
    tally_once (map item_of given) (opened h) ex.once (λ i y. let o = due_opened m h i ex.sound ((ex.due i).0 y) in let a = o.0 in ((omega arith), o.1))
    ∙ length-map given item_of

pub exact_step : (m : Selecting) (h : List Event) (given : List Order) (x : Exchange) (a : Result Totals Refusal) → Exact m h given → Answered m h given x a
    → Exact m (with_event h x.call a) (with_orders given a x.later)
exact_step m h given x (Ok a) ex k =
    exact_on m h given x a.orders ex k.accepted
    (ordering_alike (NewlyDue m h x.call) (JustDue m h x.call) (plus h x.call) x a.orders
    (λ i. let j = just_newly m h x.call ex.sound i in (j.1, j.0)) k.orders)
exact_step m h given x (Err r) ex k = ex

-- What is shown is enough -----------------------------------------------------------------------------------------

one_of : (b c d : Bool) → (b ≡ true → c ≡ true → ⊥) → (b ≡ true → d ≡ true → ⊥) → (c ≡ true → d ≡ true → ⊥) → (b ≡ false → c ≡ false → d ≡ false → ⊥)
    → one_if b + one_if c + one_if d ≡ 1
one_of true true d p q r s = absurd (p refl refl)
one_of true false true p q r s = absurd (q refl refl)
one_of true false false p q r s = refl
one_of false true true p q r s = absurd (r refl refl)
one_of false true false p q r s = refl
one_of false false true p q r s = refl
one_of false false false p q r s = absurd (s refl refl refl)

not_member : (xs : List ℕ) (i : ℕ) → mem xs i ≡ false → In i xs → ⊥
not_member xs i f y = both_ways (mem xs i) f (in_mem xs i y)

-- the opened items are the ordered, the dropped and the held
pub totals_add : (m : Selecting) (h : List Event) (given : List Order) (d k : ℕ) → Exact m h given → Counts (Dropped m h) d → Counts (Held m h) k
    → opened h ≡ length given + d + k
totals_add m h given d k ex dropped held =
    let G : List ℕ = map item_of given in
    let D : List ℕ = dropped.0 in
    let H : List ℕ = held.0 in
    let N : ℕ = opened h in
    let two = (λ (i : ℕ). not_two m h i ex.sound) in
    let g = exact_counted m h given ex in
    let a = tally_rising N 0 D dropped.1.0 (λ i y. let z = ((dropped.1.1 i).0 y).0.1 in omega arith) in
    let a' = dropped.2 in
    let b = tally_rising N 0 H held.1.0 (λ i y. let z = ((held.1.1 i).0 y).0.1 in omega arith) in
    let b' = held.2 in
    let sum : tally (mem G) 0 N + tally (mem D) 0 N + tally (mem H) 0 N ≡ N = tally_three (mem G) (mem D) (mem H) 0 N (λ i lo hi. one_of (mem G i) (mem D i) (mem H i)
    (λ p q. (two i).0 ((ex.due i).0 (mem_in G i p)) ((dropped.1.1 i).0 (mem_in D i q)))
    (λ p q. (two i).1 ((ex.due i).0 (mem_in G i p)) ((held.1.1 i).0 (mem_in H i q)))
    (λ p q. (two i).2 ((dropped.1.1 i).0 (mem_in D i p)) ((held.1.1 i).0 (mem_in H i q)))
    (λ p q r. not_none m h i (omega arith, omega arith)
    (λ y. not_member G i p ((ex.due i).1 y)) (λ y. not_member D i q ((dropped.1.1 i).1 y)) (λ y. not_member H i r ((held.1.1 i).1 y)))) in
    omega arith

pub shown_is_enough : ShownIsEnough
shown_is_enough m h given x a ex w =
    let now : List Event = plus h x.call in
    let Kind : ℕ → Type 0 = JustDue m h x.call in
    let ex' = exact_on m h given x a.orders ex w.accepted w.orders in
    let sum = totals_add m now (given ++ take a.orders x.later) a.dropped a.held ex' w.dropped w.held in
    let many = orders_so_far Kind now given x a.orders w.orders in
    let o = w.opens in
    let r = w.ordered in
    record {
      accepted = w.accepted;
      orders = ordering_alike Kind (NewlyDue m h x.call) now x a.orders (just_newly m h x.call ex.sound) w.orders;
      opens = w.opens;
      ordered = w.ordered;
      dropped = w.dropped;
      held = w.held;
      all = omega arith;
      earliest = λ rule right p e d i at by. (ex'.due i).1
          (subst (λ (l : List Event). Due m l i) (sym at) (right_rule_orders_due m rule right p e d i (subst Sound at ex'.sound) by).2);
    }

-- Each order record tells the events of its open and of its order.
use Rattle.std.proofs.Common.{◌≡◌, ℕ, suc, pred, ◌<◌, ◌≤◌, Bool, cond, ◌≢◌, ◌⊎◌, List, [], ◌∷◌, ◌++◌, map, length, get_or, take, drop, Ok, Err, Result, sym, refl, ap, ◌∙◌, subst, inl, inr, append_assoc, arith, length-append}
use Rattle.std.proofs.lemmas.Bool.{cases_eq, cases_lt, eq-eqb, ne_eqb}
use Rattle.book.specs.declared.event.Event.{Event}
use Rattle.book.specs.declared.event.Event.TheVariants.{Open, Close, End}
use Rattle.book.specs.declared.answer.Order.{Order}
use Rattle.book.specs.declared.answer.Totals.{Totals}
use Rattle.book.specs.declared.answer.Refusal.{Refusal}
use Rattle.book.specs.Catalogue.{opened, Sound}
use Rattle.book.specs.Machines.{Selecting}
use Rattle.book.specs.Orders.{Opened, Due}
use Rattle.book.specs.ItemLists.{In}
use Rattle.book.specs.Promise.{Exchange, opening, order, item_of, orders_of, with_orders, NewlyDue, Fulfilled, Answered}
use Rattle.book.specs.PromiseLaws.{with_event, events_of, OpensAt, DueAt, Each, Has, RecordsAreTrue, RecordsRise, NoneIsEarlier}
use Rattle.book.specs.Shown.{Exact}
use Rattle.book.proofs.Nesting.{count_shift}
use Rattle.book.proofs.ItemLists.{rising_places}
use Rattle.std.proofs.lemmas.List.{map-append}
use Rattle.book.proofs.Earliest.{sound_before, due_opened, due_on, order_right_if_due}
use Rattle.book.proofs.Checks.{accepted_sound}
use Rattle.book.proofs.Exact.{exact_none, exact_step, first_records, items_back}
use Rattle.book.proofs.Runs.{over_run_at, exact_run, keeps_here}

-- The event that opens an item ------------------------------------------------------------------------------------

-- one event in front
later : (x : Event) (h : List Event) (i j n : ℕ) → ((p : List Event) → suc (opened p) ≡ i → suc (opened (x ∷ p)) ≡ j) → OpensAt h i n → OpensAt (x ∷ h) j (suc n)
later x h i j n shift o = (x ∷ o.0, o.1, o.2, ap (λ (l : List Event). x ∷ l) o.3, ap suc o.4, shift o.0 o.5)

pub opening_right : (h : List Event) (i : ℕ) → Opened h i → OpensAt h i (opening i h)
opening_right [] i o = let a = o.0 in let b = o.1 in absurd (omega arith)
opening_right (Open t ∷ h) i o = go (cases_eq i 1) (opening_right h (pred i))
  where
    go : (i ≡ 1) ⊎ (i ≡ 1 → ⊥) → (Opened h (pred i) → OpensAt h (pred i) (opening (pred i) h)) → OpensAt (Open t ∷ h) i (opening i (Open t ∷ h))
    go (inl e) ih = ([], t, h, refl, ap (λ (b : Bool). cond b 1 (suc (opening (pred i) h))) (sym (eq-eqb i 1 e)), sym e)
    go (inr ne) ih =
        let big : 1 < i = (let a = o.0 in let b : i ≢ 1 = ne in omega arith) in
        let r = ih ((omega arith), (let a = o.1 in let c = count_shift h 0 in omega arith)) in
        subst (λ (n : ℕ). OpensAt (Open t ∷ h) i n) (ap (λ (b : Bool). cond b 1 (suc (opening (pred i) h))) (sym (ne_eqb i 1 ne)))
        (later (Open t) h (pred i) i (opening (pred i) h) (λ p e. let c = count_shift p 0 in omega arith) r)
opening_right (Close t ∷ h) i o = later (Close t) h i i (opening i h) (λ p e. e) (opening_right h i o)
opening_right (End ∷ h) i o = later End h i i (opening i h) (λ p e. e) (opening_right h i o)

-- Each record ----------------------------------------------------------------------------------------------------

abbrev TrueRecord : Selecting → List Event → Order → Type 0
TrueRecord m h r = OpensAt h r.item r.opened × DueAt m h r.item r.ordered

record_on : (m : Selecting) (h d : List Event) (r : Order) → TrueRecord m h r → TrueRecord m (h ++ d) r
record_on m h d r g =
    let o = g.0 in
    let u = g.1 in (
      (o.0, o.1, o.2 ++ d, ap (λ (l : List Event). l ++ d) o.3 ∙ append_assoc o.0 (Open o.1 ∷ o.2) d, o.4, o.5),
      (u.0, u.1, u.2 ++ d, ap (λ (l : List Event). l ++ d) u.3 ∙ append_assoc u.0 (u.1 ∷ u.2) d, u.4, u.5),
    )

each_on : (m : Selecting) (h d : List Event) (rs : List Order) → Each (TrueRecord m h) rs → Each (TrueRecord m (h ++ d)) rs
each_on m h d [] e = tt
each_on m h d (r ∷ rs) e = (record_on m h d r e.0, each_on m h d rs e.1)

each_append : (P : Order → Type 0) (rs ss : List Order) → Each P rs → Each P ss → Each P (rs ++ ss)
each_append P [] ss a b = b
each_append P (r ∷ rs) ss a b = (a.0, each_append P rs ss a.1 b)

new_records : (m : Selecting) (h : List Event) (e : Event) → Sound (h ++ (e ∷ [])) → (items : List ℕ)
    → ((i : ℕ) → In i items → NewlyDue m h e i) → Each (TrueRecord m (h ++ (e ∷ []))) (map (order (h ++ (e ∷ []))) items)
new_records m h e s [] all = tt
new_records m h e s (i ∷ items) all =
    let now : List Event = h ++ (e ∷ []) in
    let here = all i (inl refl) in (
      (opening_right now i (due_opened m now i s here.0), (h, e, [], refl, (let z = length-append h (e ∷ []) in omega arith), here)),
      new_records m h e s items (λ j y. all j (inr y)),
    )

records_step : (m : Selecting) (h : List Event) (given : List Order) (x : Exchange) (a : Result Totals Refusal) → Exact m h given → Answered m h given x a
    → Each (TrueRecord m h) given → Each (TrueRecord m (with_event h x.call a)) (with_orders given a x.later)
records_step m h given x (Ok a) ex k g =
    let now : List Event = h ++ (x.call ∷ []) in
    each_append (TrueRecord m now) given (take a.orders x.later) (each_on m h (x.call ∷ []) given g)
    (subst (Each (TrueRecord m now)) (sym (first_records (NewlyDue m h x.call) now given x a.orders k.orders))
    (new_records m h x.call (accepted_sound m h (length x.before) x.call ex.sound k.accepted) k.orders.0 (λ i y. (k.orders.1.1 i).0 y)))
records_step m h given x (Err r) ex k g = g

pub records_are_true : RecordsAreTrue
records_are_true m xs h p at =
    (over_run_at m (λ given g. Exact m g given × Each (TrueRecord m g) given) (exact_none m, tt)
    (λ given g x y k. (exact_step m g given x x.answer y.0 k, records_step m g given x x.answer y.0 k y.1)) xs h p at).1

-- By rising number ------------------------------------------------------------------------------------------------

call_rises : (m : Selecting) (h : List Event) (given : List Order) (x : Exchange) (a : Totals) → Fulfilled m h given x a
    → (j k : ℕ) → j < k → k < a.orders → get_or (map item_of x.later) j 0 < get_or (map item_of x.later) k 0
call_rises m h given x a f j k less last =
    let items : List ℕ = f.orders.0 in
    let now : List Event = h ++ (x.call ∷ []) in
    let behind : List Order = drop (length items) x.before in
    let n = f.orders.2 in
    let is : items ++ map item_of behind ≡ map item_of x.later =
    sym (ap (map item_of) f.orders.3 ∙ map-append item_of (map (order now) items) behind ∙ ap (λ (l : List ℕ). l ++ map item_of behind) (items_back now items)) in
    subst (λ (l : List ℕ). get_or l j 0 < get_or l k 0) is (rising_places 0 items (map item_of behind) j k f.orders.1.0 less (omega arith))

pub records_rise : RecordsRise
records_rise m xs ys x a p ok =
    call_rises m (events_of ys) (orders_of ys) x a (subst (Answered m (events_of ys) (orders_of ys) x) ok.1 (keeps_here m xs ys x ok.0.0 p ok.0.1))

-- Earliest --------------------------------------------------------------------------------------------------------

-- of two beginnings of a list, the shorter begins the longer
beginning : {A : Type 0} (p d q e : List A) → p ++ d ≡ q ++ e → length p ≤ length q → (w : List A) × (q ≡ p ++ w)
beginning [] d q e same le = (q, refl)
beginning (x ∷ p) d [] e same le = absurd (omega arith)
beginning (x ∷ p) d (y ∷ q) e same le =
    let heads : x ≡ y = cc in
    let r = beginning p d q e (cc) (omega arith) in
    (r.0, (let b = r.1 in cc))

has_item : (P : Order → Type 0) (rs : List Order) (i : ℕ) → Each P rs → In i (map item_of rs) → Has (λ r. (r.item ≡ i) × P r) rs
has_item P [] i each y = y
has_item P (r ∷ rs) i each (inl e) = inl (sym e, each.0)
has_item P (r ∷ rs) i each (inr y) = inr (has_item P rs i each.1 y)

has_more : (P Q : Order → Type 0) (rs : List Order) → ((r : Order) → P r → Q r) → Has P rs → Has Q rs
has_more P Q [] more y = y
has_more P Q (r ∷ rs) more (inl y) = inl (more r y)
has_more P Q (r ∷ rs) more (inr y) = inr (has_more P Q rs more y)

-- a record is of no later event than any at which its item is due
record_first : (m : Selecting) (h p d : List Event) (r : Order) → Sound h → h ≡ p ++ d → Due m p r.item → TrueRecord m h r → r.ordered ≤ length p
record_first m h p d r s at due true_record = elim (cases_lt (length p) r.ordered) [
  | inl late ↦ absurd (let u = true_record.1 in
      let n = u.4 in
      let w = beginning p d u.0 (u.1 ∷ u.2) (sym at ∙ u.3) (let z : length p ≤ length u.0 = omega arith in z) in
      u.5.1 p w.0 w.1 (due_opened m p r.item (sound_before p d (subst Sound at s)) due) due)
  | inr early ↦ early
]

pub none_is_earlier : NoneIsEarlier
none_is_earlier m xs h run so_far p d i at right =
    let due : Due m p i = (order_right_if_due m p i).0 right in
    let ex = exact_run m xs h run so_far in
    let item : In i (map item_of (orders_of xs)) = (ex.due i).1 (subst (λ (l : List Event). Due m l i) (sym at) (due_on m p d i due)) in
    has_more (λ r. (r.item ≡ i) × TrueRecord m h r) (λ r. (r.item ≡ i) × (r.ordered ≤ length p)) (orders_of xs)
    (λ r y. (y.0, record_first m h p d r ex.sound at (subst (Due m p) (sym y.0) due) y.1))
    (has_item (TrueRecord m h) (orders_of xs) i (records_are_true m xs h run so_far) item)

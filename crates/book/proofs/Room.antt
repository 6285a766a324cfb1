-- At most 128 items are held, so that no call orders more items than its list has room for.
use Rattle.std.proofs.Common.{◌≡◌, ℕ, suc, ◌<◌, ◌≤◌, Bool, List, [], ◌∷◌, ◌++◌, map, length, drop, Ok, Err, Result, sym, refl, ap, ◌∙◌, subst, inl, inr, append_assoc, arith, length-append, length-drop}
use lib.ListN.{length-map}
use Rattle.std.proofs.lemmas.Bool.{cases_lt}
use Rattle.std.proofs.Math.Seq.{drop-append_seam}
use Rattle.book.specs.declared.event.Event.{Event}
use Rattle.book.specs.declared.event.Event.TheVariants.{Open, Close, End}
use Rattle.book.specs.declared.answer.Order.{Order}
use Rattle.book.specs.declared.answer.Totals.{Totals}
use Rattle.book.specs.declared.answer.Refusal.{Refusal}
use Rattle.book.specs.declared.answer.Refusal.TheVariants.{ShortList, HoldFull}
use Rattle.book.specs.Catalogue.{nest, over, Sound, count, opened}
use Rattle.book.specs.Machines.{Selecting, selected}
use Rattle.book.specs.Orders.{Some, Opened, Held}
use Rattle.book.specs.ItemLists.{In, Lists, Counts}
use Rattle.book.specs.Checks.{Accepts}
use Rattle.book.specs.History.{EventsSoFar}
use Rattle.book.specs.Promise.{Exchange, call_of, orders_of, order, NewlyDue, Fulfilled, Answered, Promise}
use Rattle.book.specs.PromiseLaws.{with_event, events_of, ListsAreKept}
use Rattle.book.specs.Shown.{Exact, JustDue}
use Rattle.book.proofs.Steps.{opened_more}
use Rattle.book.proofs.Earliest.{due_opened, dropped_on, not_two, not_none}
use Rattle.book.proofs.ItemLists.{in_left, in_right, in_cases, in_or_not, lists_alike, rising_once, once_append, once_fewer, counts_fewer}
use Rattle.book.proofs.Checks.{unmet, accepted_sound}
use Rattle.book.proofs.Exact.{just_newly}
use Rattle.book.proofs.Runs.{over_run_at, promise_before, events_before, exact_before, keeps_here}
use Rattle.book.proofs.Acceptance.{not_overfull}

-- At most 128 are held --------------------------------------------------------------------------------------------

some_before : (question : List Event → Bool) (b : Bool) (h d : List Event) → Some question b (h ++ d) → Some question b h
some_before question b h d s =
    let same = append_assoc h d s.0 in
    (d ++ s.0, subst (λ (c : List Event). nest c ≡ over) same s.1, subst (λ (c : List Event). question c ≡ b) same s.2)

-- an item that is opened before is held before
held_before : (m : Selecting) (h d : List Event) (i : ℕ) → Opened h i → Held m (h ++ d) i → Held m h i
held_before m h d i o held = (o, some_before (selected m i) _ h d held.1, some_before (selected m i) _ h d held.2)

held_few : (m : Selecting) (h : List Event) (room : ℕ) (e : Event) (n k : ℕ) → Accepts m h room e → Counts (Held m h) n → n ≤ 128
    → Counts (Held m (h ++ (e ∷ []))) k → k ≤ 128
held_few m h room (Open t) n k ok c few d = (not_overfull m (h ++ (Open t ∷ []))).0 (unmet m h room (Open t) ok HoldFull) k d
held_few m h room (Close t) n k ok c few d =
    let less = counts_fewer (Held m (h ++ (Close t ∷ []))) (Held m h) k n (opened h) d c
    (λ i held. held_before m h (Close t ∷ []) i (held.0.0, (let a = held.0.1 in let b = opened_more h (Close t) in omega arith)) held)
    (λ i held. ((let a = held.0.0 in omega arith), held.0.1)) in
    omega arith
held_few m h room End n k ok c few d =
    let less = counts_fewer (Held m (h ++ (End ∷ []))) (Held m h) k n (opened h) d c
    (λ i held. held_before m h (End ∷ []) i (held.0.0, (let a = held.0.1 in let b = opened_more h End in omega arith)) held)
    (λ i held. ((let a = held.0.0 in omega arith), held.0.1)) in
    omega arith

abbrev FewHeld : Selecting → List Event → Type 0
FewHeld m h = (n : ℕ) × Counts (Held m h) n × (n ≤ 128)

few_step : (m : Selecting) (h : List Event) (given : List Order) (x : Exchange) (a : Result Totals Refusal) → Answered m h given x a → FewHeld m h
    → FewHeld m (with_event h x.call a)
few_step m h given x (Ok a) k f = (a.held, k.held, held_few m h (length x.before) x.call f.0 a.held k.accepted f.1 f.2 k.held)
few_step m h given x (Err r) k f = f

pub few_held : (m : Selecting) (xs : List Exchange) (h : List Event) → Promise m xs → EventsSoFar m (map call_of xs) h → FewHeld m h
few_held m xs h p at = over_run_at m (λ given g. FewHeld m g)
    (0, ([], (tt, λ i. (λ y. absurd y, λ held. let a = held.0.0 in let b = held.0.1 in absurd (omega arith))), refl), omega arith)
    (λ given g x f k. few_step m g given x x.answer k f) xs h p at

-- At most 129 are ordered at one event ----------------------------------------------------------------------------

opened_at_most : (n : ℕ) (e : Event) → count n e ≤ suc n
opened_at_most n (Open t) = omega arith
opened_at_most n (Close t) = omega arith
opened_at_most n End = omega arith

-- an item that becomes due was held, or is new
module _ (m : Selecting) (h : List Event) (e : Event) (ys : List ℕ) (held : Lists (Held m h) ys) (now_sound : Sound (h ++ (e ∷ []))) where
  was_held : (i : ℕ) → JustDue m h e i → In i (ys ++ (suc (opened h) ∷ []))
  was_held i j =
      let now : List Event = h ++ (e ∷ []) in
      let o = due_opened m now i now_sound j.0 in
      let most = opened_at_most (opened h) e in
      let is = opened_more h e in
      let low = o.0 in
      let high = o.1 in
      elim (cases_lt (opened h) i) [
        | inl new ↦ in_right i ys (suc (opened h) ∷ []) (inl (let z : i ≡ suc (opened h) = omega arith in z))
        | inr old ↦ elim (in_or_not ys i) [
          | inl y ↦ in_left i ys (suc (opened h) ∷ []) y
          | inr n ↦ absurd (not_none m h i (low, old) j.1 (λ dr. (not_two m now i now_sound).0 j.0 (dropped_on m h (e ∷ []) i dr)) (λ y. n ((held.1 i).1 y)))
        ]
      ]

  above_all : (i : ℕ) → In i ys → In i (suc (opened h) ∷ []) → ⊥
  above_all i y (inl z) = let a = ((held.1 i).0 y).0.1 in omega arith
  above_all i y (inr z) = z

  in_range : (i : ℕ) → In i (ys ++ (suc (opened h) ∷ [])) → (0 < i) × (i ≤ suc (opened h))
  in_range i y = elim (in_cases i ys (suc (opened h) ∷ []) y) [
    | inl a ↦ (let o = ((held.1 i).0 a).0 in ((let b = o.0 in omega arith), (let b = o.1 in omega arith)))
    | inr a ↦ (elim a [ inl z ↦ ((let b : 0 < i = omega arith in b), (let b : i ≤ suc (opened h) = omega arith in b)) | inr z ↦ absurd z ])
  ]

  pub orders_few : (items : List ℕ) → Lists (JustDue m h e) items → length items ≤ suc (length ys)
  orders_few items l =
      let a = once_fewer items (ys ++ (suc (opened h) ∷ [])) (suc (opened h)) (rising_once 0 items l.0)
      (once_append ys (suc (opened h) ∷ []) (rising_once 0 ys held.0) ((λ y. y), tt) above_all) in_range (λ i y. was_held i ((l.1 i).0 y)) in
      let b = length-append ys (suc (opened h) ∷ []) in
      omega arith

fits_list : (m : Selecting) (h : List Event) (given : List Order) (x : Exchange) (a : Totals) → Exact m h given → FewHeld m h → Fulfilled m h given x a
    → a.orders ≤ 129
fits_list m h given x a ex f k =
    let items : List ℕ = k.orders.0 in
    let now_sound = accepted_sound m h (length x.before) x.call ex.sound k.accepted in
    let just : Lists (JustDue m h x.call) items = lists_alike (NewlyDue m h x.call) (JustDue m h x.call) items
    (λ i. let j = just_newly m h x.call ex.sound i in (j.1, j.0)) k.orders.1 in
    let most = orders_few m h x.call f.1.0 f.1.1 now_sound items just in
    let b = f.1.2 in
    let c = f.2 in
    let d = k.orders.2 in
    omega arith

behind_kept : (m : Selecting) (h : List Event) (given : List Order) (x : Exchange) (a : Totals) → Fulfilled m h given x a
    → drop a.orders x.later ≡ drop a.orders x.before
behind_kept m h given x a k =
    let items : List ℕ = k.orders.0 in
    let now : List Event = h ++ (x.call ∷ []) in
    ap (λ (n : ℕ). drop n x.later) (k.orders.2 ∙ sym (length-map items (order now)))
    ∙ ap (drop (length (map (order now) items))) k.orders.3
    ∙ drop-append_seam (map (order now) items) (drop (length items) x.before)
    ∙ ap (λ (n : ℕ). drop n x.before) (sym k.orders.2)

keeps_length : (m : Selecting) (h : List Event) (given : List Order) (x : Exchange) (a : Result Totals Refusal) → Exact m h given → FewHeld m h
    → Answered m h given x a → length x.later ≡ length x.before
keeps_length m h given x (Ok a) ex f k =
    let items : List ℕ = k.orders.0 in
    let now : List Event = h ++ (x.call ∷ []) in
    let few = fits_list m h given x a ex f k in
    let n = k.orders.2 in
    let room : 129 ≤ length x.before = elim (cases_lt (length x.before) 129) [ inl y ↦ absurd (unmet m h (length x.before) x.call k.accepted ShortList y) | inr y ↦ y ] in
    let b = ap length k.orders.3 in
    let c = length-append (map (order now) items) (drop (length items) x.before) in
    let d = length-map items (order now) in
    let e = length-drop (length items) x.before in
    omega arith
keeps_length m h given x (Err r) ex f k = ap length k.1

-- Over whole runs -------------------------------------------------------------------------------------------------

module _ (m : Selecting) (xs ys : List Exchange) (x : Exchange) (zs : List Exchange) (p : Promise m xs) (e : xs ≡ ys ++ (x ∷ zs)) where
  few_before : FewHeld m (events_of ys)
  few_before = few_held m ys (events_of ys) (promise_before m xs ys x zs p e) (events_before m xs ys x zs p e)

  length_kept : length x.later ≡ length x.before
  length_kept = keeps_length m (events_of ys) (orders_of ys) x x.answer (exact_before m xs ys x zs p e) few_before (keeps_here m xs ys x zs p e)

  records_kept : (a : Totals) → x.answer ≡ Ok a → (a.orders ≤ 129) × (drop a.orders x.later ≡ drop a.orders x.before)
  records_kept a ok =
      let k : Answered m (events_of ys) (orders_of ys) x (Ok a) = subst (Answered m (events_of ys) (orders_of ys) x) ok (keeps_here m xs ys x zs p e) in
      (fits_list m (events_of ys) (orders_of ys) x a (exact_before m xs ys x zs p e) few_before k, behind_kept m (events_of ys) (orders_of ys) x a k)

  refused_kept : (r : Refusal) → x.answer ≡ Err r → x.later ≡ x.before
  refused_kept r err =
      let k : Answered m (events_of ys) (orders_of ys) x (Err r) = subst (Answered m (events_of ys) (orders_of ys) x) err (keeps_here m xs ys x zs p e) in
      k.1

pub lists_are_kept : ListsAreKept
lists_are_kept = (
  λ m xs ys x a p ok. records_kept m xs ys x ok.0.0 p ok.0.1 a ok.1,
  λ m xs ys x zs p e. (refused_kept m xs ys x zs p e, length_kept m xs ys x zs p e),
)

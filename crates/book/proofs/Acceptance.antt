-- When calls are accepted, what they are refused with, and that the events so far stay within the limits.
use Rattle.std.proofs.Common.{◌≡◌, ℕ, suc, ◌<◌, ◌≤◌, Bool, true, false, cond, eqb, ltb, ◌↔◌, List, [], ◌∷◌, ◌++◌, length, replicate, sym, refl, ap, ◌∙◌, subst, inl, inr, arith}
use Rattle.std.proofs.lemmas.Bool.{cases_lt, cases_eq, lt-ltb, ltb-true}
use Rattle.book.specs.Limits.{tags}
use Rattle.book.specs.declared.event.Event.{Event}
use Rattle.book.specs.declared.event.Event.TheVariants.{Open, Close, End}
use Rattle.book.specs.declared.answer.Refusal.{Refusal}
use Rattle.book.specs.declared.answer.Refusal.TheVariants.{NoStates, Ended, ShortList, BadTag, TooDeep, TooMany, HoldFull, NoneOpen, OtherTag, StillOpen}
use Rattle.book.specs.Catalogue.{Nest, within, broken, after, nest, Sound, count, opened}
use Rattle.book.specs.Machines.{Machine, Selecting}
use Rattle.book.specs.Orders.{Held}
use Rattle.book.specs.ItemLists.{Counts}
use Rattle.book.specs.Checks.{SharedMet, Overfull, Met, Topmost, Accepts, Refuses, WatchRefuses}
use Rattle.book.specs.Acceptance.{NumbersOfLines, TagsAndStates, OpenItems, AcceptedCalls, AcceptedWatchCalls, ReadyFor, CallsAreRefused, WatchReadyFor, WatchCallsAreRefused, WithinLimits, HistoryWithinLimits, SixtyFourDeep}
use Rattle.book.proofs.Nesting.{within_not_over, within_not_broken, same_open, events_bounded}
use Rattle.book.proofs.Steps.{nest_more, opened_more}
use Rattle.book.proofs.ItemLists.{counts_most}
use Rattle.book.proofs.Checks.{unmet, accepts, watch_unmet, watch_accepts, shared_unmet, unmet_sound}
use Rattle.book.proofs.History.{sound_none, events_keep, watched_keep}
use Rattle.book.proofs.Telling.{open_items}

-- Numbers ---------------------------------------------------------------------------------------------------------

pub numbers_of_lines : NumbersOfLines
numbers_of_lines = (refl, refl)

pub tags_and_states : TagsAndStates
tags_and_states = (
  λ t. (
    λ s. elim (cases_lt t 32) [ inl a ↦ (let z : t ≤ 31 = omega arith in z) | inr a ↦ absurd (s (tested t (ltb t 32) refl a)) ],
    λ small broken_is. within_not_broken (t ∷ []) (sym (ap (λ (b : Bool). cond b (within (t ∷ [])) broken) (lt-ltb t 32 (omega arith))) ∙ broken_is),
  ),
  λ m law. law.narrow,
)
  where
    tested : (t : ℕ) (b : Bool) → ltb t 32 ≡ b → 32 ≤ t → cond b (within (t ∷ [])) broken ≡ broken
    tested t true is big = let z = ltb-true t 32 is in absurd (omega arith)
    tested t false is big = refl

-- Lines that scans and watches share ------------------------------------------------------------------------------

module _ (m : Machine) (h : List Event) (some : 1 ≤ m.width) (ts : List ℕ) (at : nest h ≡ within ts) where
  states : (e : Event) → SharedMet m h e NoStates → ⊥
  states e z = omega arith

  going : (e : Event) → SharedMet m h e Ended → ⊥
  going e z = within_not_over ts (sym at ∙ z)

  shallow : (t : ℕ) → length ts ≤ 63 → SharedMet m h (Open t) TooDeep → ⊥
  shallow t few y = let a = y.2 in let b = ap length (same_open y.0 ts (sym y.1 ∙ at)) in omega arith

  -- an open, a close and an end meet no line
  pub open_unmet : (t : ℕ) → t ≤ 31 → length ts ≤ 63 → opened h ≤ 16777214 → (r : Refusal) → SharedMet m h (Open t) r → ⊥
  open_unmet t small few less NoStates = states (Open t)
  open_unmet t small few less Ended = going (Open t)
  open_unmet t small few less ShortList = λ y. y
  open_unmet t small few less BadTag = λ y. omega arith
  open_unmet t small few less TooDeep = shallow t few
  open_unmet t small few less TooMany = λ y. omega arith
  open_unmet t small few less HoldFull = λ y. y
  open_unmet t small few less NoneOpen = λ y. y
  open_unmet t small few less OtherTag = λ y. y
  open_unmet t small few less StillOpen = λ y. y

  pub close_unmet : (t : ℕ) (us : List ℕ) → ts ≡ t ∷ us → (r : Refusal) → SharedMet m h (Close t) r → ⊥
  close_unmet t us is NoStates = states (Close t)
  close_unmet t us is Ended = going (Close t)
  close_unmet t us is ShortList = λ y. y
  close_unmet t us is BadTag = λ y. y
  close_unmet t us is TooDeep = λ y. y
  close_unmet t us is TooMany = λ y. y
  close_unmet t us is HoldFull = λ y. y
  close_unmet t us is NoneOpen = λ y. cc
  close_unmet t us is OtherTag = λ y. y.3 (cc y.2)
  close_unmet t us is StillOpen = λ y. y

  pub end_unmet : ts ≡ [] → (r : Refusal) → SharedMet m h End r → ⊥
  end_unmet is NoStates = states End
  end_unmet is Ended = going End
  end_unmet is ShortList = λ y. y
  end_unmet is BadTag = λ y. y
  end_unmet is TooDeep = λ y. y
  end_unmet is TooMany = λ y. y
  end_unmet is HoldFull = λ y. y
  end_unmet is NoneOpen = λ y. y
  end_unmet is OtherTag = λ y. y
  end_unmet is StillOpen = λ y. cc y.2

-- what unmet lines say of an open, a close and an end
abbrev Unmet : Machine → List Event → Event → Type 0
Unmet m h e = (r : Refusal) → SharedMet m h e r → ⊥

has_states : (m : Machine) (h : List Event) (e : Event) → Unmet m h e → 1 ≤ m.width
has_states m h e none = elim (cases_lt 0 m.width) [ inl a ↦ a | inr a ↦ absurd (none NoStates (let z : m.width ≡ 0 = omega arith in z)) ]

unmet_open : (m : Machine) (h : List Event) (t : ℕ) → Sound h → Unmet m h (Open t) → (t ≤ 31) × OpenItems h 63 × (opened h ≤ 16777214)
unmet_open m h t s none =
    let o = open_items h s (none Ended) in (
      elim (cases_lt t 32) [ inl a ↦ (let z : t ≤ 31 = omega arith in z) | inr a ↦ absurd (none BadTag a) ],
      (o.0, o.1, elim (cases_lt (length o.0) 64) [ inl a ↦ (let z : length o.0 ≤ 63 = omega arith in z) | inr a ↦ absurd (none TooDeep (o.0, o.1, a)) ]),
      elim (cases_lt (opened h) 16777215) [ inl a ↦ (let z : opened h ≤ 16777214 = omega arith in z) | inr a ↦ absurd (none TooMany a) ],
    )

unmet_close : (m : Machine) (h : List Event) (t : ℕ) → Sound h → Unmet m h (Close t) → (ts : List ℕ) × (nest h ≡ within (t ∷ ts))
unmet_close m h t s none = let o = open_items h s (none Ended) in go o.0 o.1
  where
    go : (us : List ℕ) → nest h ≡ within us → (ts : List ℕ) × (nest h ≡ within (t ∷ ts))
    go [] at = absurd (none NoneOpen at)
    go (u ∷ us) at = elim (cases_eq u t) [ inl e ↦ (us, at ∙ ap (λ (x : ℕ). within (x ∷ us)) e) | inr ne ↦ absurd (none OtherTag (u, us, at, ne)) ]

unmet_end : (m : Machine) (h : List Event) → Sound h → Unmet m h End → nest h ≡ within []
unmet_end m h s none = let o = open_items h s (none Ended) in go o.0 o.1
  where
    go : (us : List ℕ) → nest h ≡ within us → nest h ≡ within []
    go [] at = at
    go (u ∷ us) at = absurd (none StillOpen (u, us, at))

-- Accepted calls --------------------------------------------------------------------------------------------------

pub accepted_watch_calls : AcceptedWatchCalls
accepted_watch_calls m h t s = (
  (
    λ ok. let none = watch_unmet m h (Open t) ok in let o = unmet_open m h t s none in (has_states m h (Open t) none, o.0, o.1, o.2),
    λ x. watch_accepts m h (Open t) (open_unmet m h x.0 x.2.0 x.2.1 t x.1 x.2.2 x.3),
  ),
  (
    λ ok. let none = watch_unmet m h (Close t) ok in (has_states m h (Close t) none, unmet_close m h t s none),
    λ x. watch_accepts m h (Close t) (close_unmet m h x.0 (t ∷ x.1.0) x.1.1 t x.1.0 refl),
  ),
  (
    λ ok. let none = watch_unmet m h End ok in (has_states m h End none, unmet_end m h s none),
    λ x. watch_accepts m h End (end_unmet m h x.0 [] x.1 refl),
  ),
)

-- a scan's lines are those it shares, the list and the hold
scan_unmet : (m : Selecting) (h : List Event) (room : ℕ) (e : Event) → Unmet m.shape h e → 129 ≤ room → (Met m h room e HoldFull → ⊥) → (r : Refusal)
    → Met m h room e r → ⊥
scan_unmet m h room e none enough free NoStates = none NoStates
scan_unmet m h room e none enough free Ended = none Ended
scan_unmet m h room e none enough free ShortList = λ y. omega arith
scan_unmet m h room e none enough free BadTag = none BadTag
scan_unmet m h room e none enough free TooDeep = none TooDeep
scan_unmet m h room e none enough free TooMany = none TooMany
scan_unmet m h room e none enough free HoldFull = free
scan_unmet m h room e none enough free NoneOpen = none NoneOpen
scan_unmet m h room e none enough free OtherTag = none OtherTag
scan_unmet m h room e none enough free StillOpen = none StillOpen

enough_room : (m : Selecting) (h : List Event) (room : ℕ) (e : Event) → Accepts m h room e → 129 ≤ room
enough_room m h room e ok = elim (cases_lt room 129) [ inl a ↦ absurd (unmet m h room e ok ShortList a) | inr a ↦ a ]

-- the hold has room, whoever counts it
pub not_overfull : (m : Selecting) (h : List Event) → (Overfull m h → ⊥) ↔ ((n : ℕ) → Counts (Held m h) n → n ≤ 128)
not_overfull m h = (
  λ free n c. elim (cases_lt 128 n) [ inl a ↦ absurd (free (n, c, a)) | inr a ↦ a ],
  λ most full. let a = most full.0 full.1 in let b = full.2 in omega arith,
)

pub accepted_calls : AcceptedCalls
accepted_calls m h room t s = (
  (
    λ ok.
        let none = shared_unmet m h room (Open t) ok in
        let o = unmet_open m.shape h t s none in
        (has_states m.shape h (Open t) none, enough_room m h room (Open t) ok, o.0, o.1, o.2, (not_overfull m (h ++ (Open t ∷ []))).0 (unmet m h room (Open t) ok HoldFull)),
    λ x. accepts m h room (Open t) (scan_unmet m h room (Open t) (open_unmet m.shape h x.0 x.3.0 x.3.1 t x.2 x.3.2 x.4) x.1
        ((not_overfull m (h ++ (Open t ∷ []))).1 x.5)),
  ),
  (
    λ ok. let none = shared_unmet m h room (Close t) ok in (has_states m.shape h (Close t) none, enough_room m h room (Close t) ok, unmet_close m.shape h t s none),
    λ x. accepts m h room (Close t) (scan_unmet m h room (Close t) (close_unmet m.shape h x.0 (t ∷ x.2.0) x.2.1 t x.2.0 refl) x.1 (λ y. y)),
  ),
  (
    λ ok. let none = shared_unmet m h room End ok in (has_states m.shape h End none, enough_room m h room End ok, unmet_end m.shape h s none),
    λ x. accepts m h room End (scan_unmet m h room End (end_unmet m.shape h x.0 [] x.2 refl) x.1 (λ y. y)),
  ),
)

-- Refused calls ---------------------------------------------------------------------------------------------------

pub calls_are_refused : CallsAreRefused
calls_are_refused m h room = record {
  no_states = λ e none. inl (none, refl);
  ended = λ e some fin. inr ((λ z. omega arith), inl (fin, refl));
  short_list = λ e ts some at short. inr (states m.shape h some ts at e, inr (going m.shape h some ts at e, inl ((let z : room < 129 = omega arith in z), refl)));
  bad_tag = λ t ts ready big. past_list ts ready (Open t) BadTag (inl (big, refl));
  too_deep = λ t ts ready small deep. past_list ts ready (Open t) TooDeep (inr ((λ z. omega arith), inl ((ts, ready.2, deep), refl)));
  too_many = λ t ts ready small few many. past_list ts ready (Open t) TooMany
      (inr ((λ z. omega arith), inr (shallow m.shape h ready.0 ts ready.2 t few, inl (many, refl))));
  hold_full = λ t ts ready small few less n c full. past_list ts ready (Open t) HoldFull
      (inr ((λ z. omega arith), inr (shallow m.shape h ready.0 ts ready.2 t few, inr ((λ z. omega arith), inl ((n, c, (let z : 128 < n = omega arith in z)), refl)))));
  none_open = λ t ready. past_list [] ready (Close t) NoneOpen (inr ((λ z. z), inr ((λ z. z), inr ((λ z. z), inr ((λ z. z), inl (ready.2, refl))))));
  other_tag = λ t u ts ready ne. past_list (u ∷ ts) ready (Close t) OtherTag
      (inr ((λ z. z), inr ((λ z. z), inr ((λ z. z), inr ((λ z. z), inr ((λ z. cc), inl ((u, ts, ready.2, ne), refl)))))));
  still_open = λ u ts ready. past_list (u ∷ ts) ready End StillOpen
      (inr ((λ z. z), inr ((λ z. z), inr ((λ z. z), inr ((λ z. z), inr ((λ z. z), inr ((λ z. z), inl ((u, ts, ready.2), refl))))))));
}
  where
    past_list : (ts : List ℕ) → ReadyFor m h room ts → (e : Event) (r : Refusal)
        → Topmost (Met m h room e) (BadTag ∷ TooDeep ∷ TooMany ∷ HoldFull ∷ NoneOpen ∷ OtherTag ∷ StillOpen ∷ []) r → Refuses m h room e r
    past_list ts ready e r t =
        let enough = ready.1 in
        inr (states m.shape h ready.0 ts ready.2 e, inr (going m.shape h ready.0 ts ready.2 e, inr ((λ z. omega arith), t)))

pub watch_calls_are_refused : WatchCallsAreRefused
watch_calls_are_refused m h = record {
  no_states = λ e none. inl (none, refl);
  ended = λ e some fin. inr ((λ z. omega arith), inl (fin, refl));
  bad_tag = λ t ts ready big. past_end ts ready (Open t) BadTag (inl (big, refl));
  too_deep = λ t ts ready small deep. past_end ts ready (Open t) TooDeep (inr ((λ z. omega arith), inl ((ts, ready.1, deep), refl)));
  too_many = λ t ts ready small few many. past_end ts ready (Open t) TooMany
      (inr ((λ z. omega arith), inr (shallow m h ready.0 ts ready.1 t few, inl (many, refl))));
  none_open = λ t ready. past_end [] ready (Close t) NoneOpen (inr ((λ z. z), inr ((λ z. z), inr ((λ z. z), inl (ready.1, refl)))));
  other_tag = λ t u ts ready ne. past_end (u ∷ ts) ready (Close t) OtherTag
      (inr ((λ z. z), inr ((λ z. z), inr ((λ z. z), inr ((λ z. cc), inl ((u, ts, ready.1, ne), refl))))));
  still_open = λ u ts ready. past_end (u ∷ ts) ready End StillOpen
      (inr ((λ z. z), inr ((λ z. z), inr ((λ z. z), inr ((λ z. z), inr ((λ z. z), inl ((u, ts, ready.1), refl)))))));
}
  where
    past_end : (ts : List ℕ) → WatchReadyFor m h ts → (e : Event) (r : Refusal)
        → Topmost (SharedMet m h e) (BadTag ∷ TooDeep ∷ TooMany ∷ NoneOpen ∷ OtherTag ∷ StillOpen ∷ []) r → WatchRefuses m h e r
    past_end ts ready e r t = inr (states m h ready.0 ts ready.1 e, inr (going m h ready.0 ts ready.1 e, t))

-- Within the limits -----------------------------------------------------------------------------------------------

-- what lasts: no rule is broken, and the counts stay within the limits
abbrev Limited : List Event → Type 0
Limited h = Sound h × (opened h ≤ 16777215) × ((ts : List ℕ) → nest h ≡ within ts → length ts ≤ 64)

limited_none : Limited []
limited_none = (sound_none, omega arith, λ ts at. let e = ap length (same_open [] ts at) in omega arith)

limited_more : (m : Machine) (h : List Event) (e : Event) → Limited h → Unmet m h e → Limited (h ++ (e ∷ []))
limited_more m h e l none = (unmet_sound m h e l.0 none, subst (λ (n : ℕ). n ≤ 16777215) (sym (opened_more h e)) (few e none), λ us at. deep e none us (sym (nest_more h e) ∙ at))
  where
    few : (e : Event) → Unmet m h e → count (opened h) e ≤ 16777215
    few (Open t) none = let a = (unmet_open m h t l.0 none).2 in omega arith
    few (Close t) none = l.1
    few End none = l.1

    opened_now : (b : Bool) (t : ℕ) (ts us : List ℕ) → cond b (within (t ∷ ts)) broken ≡ within us → length us ≡ suc (length ts)
    opened_now true t ts us e = sym (ap length (same_open (t ∷ ts) us e))
    opened_now false t ts us e = absurd (within_not_broken us (sym e))

    closed_now : (b : Bool) (ts us : List ℕ) → cond b (within ts) broken ≡ within us → length us ≡ length ts
    closed_now true ts us e = sym (ap length (same_open ts us e))
    closed_now false ts us e = absurd (within_not_broken us (sym e))

    deep : (e : Event) → Unmet m h e → (us : List ℕ) → after (nest h) e ≡ within us → length us ≤ 64
    deep (Open t) none us is =
        let o = (unmet_open m h t l.0 none).1 in
        let a = opened_now (ltb t tags) t o.0 us (ap (λ (n : Nest). after n (Open t)) (sym o.1) ∙ is) in
        let b = o.2 in
        omega arith
    deep (Close t) none us is =
        let o = unmet_close m h t l.0 none in
        let a = closed_now (eqb t t) o.0 us (ap (λ (n : Nest). after n (Close t)) (sym o.1) ∙ is) in
        let b = l.2 (t ∷ o.0) o.1 in
        omega arith
    deep End none us is = absurd (within_not_over us (sym is ∙ ap (λ (n : Nest). after n End) (unmet_end m h l.0 none)))

within_limits : (h : List Event) → Limited h → WithinLimits h
within_limits h l = record { items = l.1; deep = l.2; events = (let a = events_bounded h l.0 in let b = l.1 in omega arith) }

pub history_within_limits : HistoryWithinLimits
history_within_limits = (
  λ m calls h at. within_limits h (events_keep m Limited limited_none (λ g c l ok. limited_more m.shape g c.event l (shared_unmet m g c.room c.event ok)) calls h at),
  λ m calls h at. within_limits h (watched_keep m Limited limited_none (λ g e l ok. limited_more m g e l (watch_unmet m g e ok)) calls h at),
)

-- so few items cannot fill the hold
pub sixty_four_deep : SixtyFourDeep
sixty_four_deep m some = (
  (accepted_calls m (replicate 63 (Open 0)) 129 0 (λ b. within_not_broken (replicate 63 0) b)).0.1 (
    some,
    omega arith,
    omega arith,
    (replicate 63 0, refl, omega arith),
    omega arith,
    λ n c.
        let a = counts_most (Held m (replicate 63 (Open 0) ++ (Open 0 ∷ []))) n 64 c (λ i held. held.0.1) in
        omega arith,
  ),
  (calls_are_refused m (replicate 64 (Open 0)) 129).too_deep 0 (replicate 64 0) (some, omega arith, refl) (omega arith) (omega arith),
)

-- Each line of the checks can be told once those above it are: so each call has an outcome where a table fits.
use Rattle.std.proofs.Common.{◌≡◌, ℕ, ◌<◌, ◌≤◌, Bool, cond, ◌⊎◌, List, [], ◌∷◌, ◌++◌, length, sym, refl, ap, ◌∙◌, subst, inl, inr, arith}
use Rattle.std.proofs.lemmas.Bool.{cases_lt, cases_eq, lt-ltb}
use Rattle.book.specs.Limits.{tags, most_open, most_items, most_held, least_room}
use Rattle.book.specs.declared.event.Event.{Event}
use Rattle.book.specs.declared.event.Event.TheVariants.{Open, Close, End}
use Rattle.book.specs.declared.answer.Refusal.{Refusal}
use Rattle.book.specs.declared.answer.Refusal.TheVariants.{BadTag, TooDeep, TooMany, HoldFull, NoneOpen, OtherTag, StillOpen}
use Rattle.book.specs.Catalogue.{Nest, within, over, broken, after, nest, Sound, opened}
use Rattle.book.specs.Machines.{Machine, Selecting, Lawful, LawfulMarks}
use Rattle.book.specs.Orders.{Held}
use Rattle.book.specs.Tables.{Fits}
use Rattle.book.specs.ItemLists.{Lists}
use Rattle.book.specs.Checks.{scan_lines, watch_lines, SharedMet, Overfull, Met, Accepts, Refuses, WatchAccepts, WatchRefuses}
use Rattle.book.specs.History.{Bring, event_of, itself, SomeHistory}
use Rattle.book.proofs.Nesting.{within_not_over, within_not_broken}
use Rattle.book.proofs.Steps.{nest_more}
use Rattle.book.proofs.Earliest.{is_held}
use Rattle.book.proofs.ItemLists.{listed, counts_same}
use Rattle.book.proofs.Checks.{Told, some_outcome, accepted_sound, watch_accepted_sound}
use Rattle.book.proofs.History.{sound_none}

-- a fact, or not
abbrev pub Either : Type 0 → Type 0
Either P = P ⊎ (P → ⊥)

less_or_not : (a b : ℕ) → Either (a < b)
less_or_not a b = elim (cases_lt a b) [ inl y ↦ inl y | inr z ↦ inr (λ y. omega arith) ]

at_most_or_not : (a b : ℕ) → Either (a ≤ b)
at_most_or_not a b = elim (cases_lt b a) [ inl y ↦ inr (λ z. omega arith) | inr z ↦ inl z ]

-- Where the events stand ------------------------------------------------------------------------------------------

pub is_over : (h : List Event) → Either (nest h ≡ over)
is_over h = go (nest h)
  where
    go : (n : Nest) → Either (n ≡ over)
    go (within ts) = inr (within_not_over ts)
    go over = inl refl
    go broken = inr (λ e. cc)

pub open_items : (h : List Event) → Sound h → (nest h ≡ over → ⊥) → (ts : List ℕ) × (nest h ≡ within ts)
open_items h s not_over = go (nest h) refl
  where
    go : (n : Nest) → nest h ≡ n → (ts : List ℕ) × (nest h ≡ within ts)
    go (within ts) at = (ts, at)
    go over at = absurd (not_over at)
    go broken at = absurd (s at)

-- The lines -------------------------------------------------------------------------------------------------------

module _ (h : List Event) (ts : List ℕ) (at : nest h ≡ within ts) where
  deep_or_not : Either ((us : List ℕ) × (nest h ≡ within us) × (most_open ≤ length us))
  deep_or_not = elim (at_most_or_not most_open (length ts)) [
    | inl a ↦ inl (ts, at, a)
    | inr b ↦ inr (λ y. b (subst (λ (us : List ℕ). most_open ≤ length us) (cc y.1) y.2))
  ]

  none_or_not : Either (nest h ≡ within [])
  none_or_not = go ts at
    where
      go : (us : List ℕ) → nest h ≡ within us → Either (nest h ≡ within [])
      go [] is = inl is
      go (u ∷ us) is = inr (λ y. cc)

  other_or_not : (t : ℕ) → Either ((u : ℕ) × (us : List ℕ) × (nest h ≡ within (u ∷ us)) × (u ≡ t → ⊥))
  other_or_not t = go ts at
    where
      go : (us : List ℕ) → nest h ≡ within us → Either ((u : ℕ) × (us : List ℕ) × (nest h ≡ within (u ∷ us)) × (u ≡ t → ⊥))
      go [] is = inr (λ y. cc y.2)
      go (u ∷ us) is = elim (cases_eq u t) [
        | inl e ↦ inr (λ y. y.3 (cc y.2))
        | inr ne ↦ inl (u, us, is, ne)
      ]

  open_or_not : Either ((u : ℕ) × (us : List ℕ) × (nest h ≡ within (u ∷ us)))
  open_or_not = go ts at
    where
      go : (us : List ℕ) → nest h ≡ within us → Either ((u : ℕ) × (us : List ℕ) × (nest h ≡ within (u ∷ us)))
      go [] is = inr (λ y. cc y.2)
      go (u ∷ us) is = inl (u, us, is)

never : Either ⊥
never = inr (λ y. y)

-- A watch ---------------------------------------------------------------------------------------------------------

pub watch_told : (m : Machine) (h : List Event) (e : Event) → Sound h → Told (SharedMet m h e) watch_lines
watch_told m h e s = (cases_eq m.width 0, λ some. (is_over h, λ going. let o = open_items h s going in by_call e o.0 o.1))
  where
    by_call : (e : Event) (ts : List ℕ) → nest h ≡ within ts → Told (SharedMet m h e) (BadTag ∷ TooDeep ∷ TooMany ∷ NoneOpen ∷ OtherTag ∷ StillOpen ∷ [])
    by_call (Open t) ts at = (at_most_or_not tags t, λ _. (deep_or_not h ts at, λ _. (at_most_or_not most_items (opened h), λ _. (never, λ _. (never, λ _. (never, λ _. tt))))))
    by_call (Close t) ts at = (never, λ _. (never, λ _. (never, λ _. (none_or_not h ts at, λ _. (other_or_not h ts at t, λ _. (never, λ _. tt))))))
    by_call End ts at = (never, λ _. (never, λ _. (never, λ _. (never, λ _. (never, λ _. (open_or_not h ts at, λ _. tt))))))

pub watch_outcome : (m : Machine) (h : List Event) (e : Event) → Sound h → ((r : Refusal) × WatchRefuses m h e r) ⊎ WatchAccepts m h e
watch_outcome m h e s = some_outcome (SharedMet m h e) watch_lines (watch_told m h e s)

-- A scan ----------------------------------------------------------------------------------------------------------

module _ (m : Selecting) (reach : ℕ → ℕ → Bool) (law : Lawful m.shape) (mark_law : LawfulMarks m.shape m.mark) (fits : Fits m.shape reach) where
  pub held_list : (h : List Event) → Sound h → (xs : List ℕ) × Lists (Held m h) xs
  held_list h s = listed (Held m h) h (λ i y. y.0) (is_held m reach law mark_law fits h s)

  overfull_or_not : (h : List Event) → Sound h → Either (Overfull m h)
  overfull_or_not h s =
      let held = held_list h s in
      elim (cases_lt most_held (length held.0)) [
        | inl a ↦ inl (length held.0, (held.0, held.1, refl), a)
        | inr b ↦ inr (λ y. let same = counts_same (Held m h) y.0 (length held.0) y.1 (held.0, held.1, refl) in let c = y.2 in omega arith)
      ]

  module _ (h : List Event) (room : ℕ) (s : Sound h) where
    open_sound : (t : ℕ) (ts : List ℕ) → nest h ≡ within ts → (tags ≤ t → ⊥) → Sound (h ++ (Open t ∷ []))
    open_sound t ts at small b =
        let less : t < tags = elim (cases_lt t tags) [ inl y ↦ y | inr z ↦ absurd (small z) ] in
        let is : nest (h ++ (Open t ∷ [])) ≡ within (t ∷ ts) =
        nest_more h (Open t) ∙ ap (λ (n : Nest). after n (Open t)) at ∙ ap (λ (c : Bool). cond c (within (t ∷ ts)) broken) (lt-ltb t tags less) in
        within_not_broken (t ∷ ts) (sym is ∙ b)

    pub scan_told : (e : Event) → Told (Met m h room e) scan_lines
    scan_told e = (cases_eq m.shape.width 0, λ some. (is_over h, λ going. (less_or_not room least_room, λ _. let o = open_items h s going in by_call e o.0 o.1)))
      where
        by_call : (e : Event) (ts : List ℕ) → nest h ≡ within ts
            → Told (Met m h room e) (BadTag ∷ TooDeep ∷ TooMany ∷ HoldFull ∷ NoneOpen ∷ OtherTag ∷ StillOpen ∷ [])
        by_call (Open t) ts at = (
          at_most_or_not tags t,
          λ small. (
            deep_or_not h ts at,
            λ _. (
              at_most_or_not most_items (opened h),
              λ _.
                  (overfull_or_not (h ++ (Open t ∷ [])) (open_sound t ts at small), λ _. (never, λ _. (never, λ _. (never, λ _. tt)))),
            ),
          ),
        )
        by_call (Close t) ts at = (never, λ _. (never, λ _. (never, λ _. (never, λ _. (none_or_not h ts at, λ _. (other_or_not h ts at t, λ _. (never, λ _. tt)))))))
        by_call End ts at = (never, λ _. (never, λ _. (never, λ _. (never, λ _. (never, λ _. (never, λ _. (open_or_not h ts at, λ _. tt)))))))

    pub scan_outcome : (e : Event) → ((r : Refusal) × Refuses m h room e r) ⊎ Accepts m h room e
    scan_outcome e = some_outcome (Met m h room e) scan_lines (scan_told e)

-- Histories -------------------------------------------------------------------------------------------------------

some_events : {C : Type 0} (event : C → Event) (accepts : List Event → C → Type 0) (refuses : List Event → C → Refusal → Type 0)
    → ((h : List Event) (c : C) → Sound h → ((r : Refusal) × refuses h c r) ⊎ accepts h c) → ((h : List Event) (c : C) → Sound h → accepts h c → Sound (h ++ (event c ∷ [])))
    → (h : List Event) (cs : List C) → Sound h → (g : List Event) × Bring event accepts refuses h cs g
some_events event accepts refuses outcome keep h [] s = (h, refl)
some_events event accepts refuses outcome keep h (c ∷ cs) s = elim (outcome h c s) [
  | inl r ↦ (let g = some_events event accepts refuses outcome keep h cs s in (g.0, inr (r, g.1)))
  | inr ok ↦ (let g = some_events event accepts refuses outcome keep (h ++ (event c ∷ [])) cs (keep h c s ok) in (g.0, inl (ok, g.1)))
]

pub some_history : SomeHistory
some_history = (
  λ m reach law mark_law fits calls. some_events event_of (λ g c. Accepts m g c.room c.event) (λ g c r. Refuses m g c.room c.event r)
      (λ h c s. scan_outcome m reach law mark_law fits h c.room s c.event) (λ h c. accepted_sound m h c.room c.event) [] calls sound_none,
  λ m calls. some_events itself (WatchAccepts m) (WatchRefuses m) (λ h e s. watch_outcome m h e s) (watch_accepted_sound m) [] calls sound_none,
)

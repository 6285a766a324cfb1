-- When a call is accepted, and what it is refused with, as laws with the numbers written out.
use Rattle.std.specs.Prelude.{◌≡◌, ℕ, ◌≤◌, ◌↔◌, List, [], ◌∷◌, ◌++◌, map, length, replicate, ◌≢◌}
use Rattle.book.specs.declared.event.Event.{Event}
use Rattle.book.specs.declared.event.Event.TheVariants.{Open, Close, End}
use Rattle.book.specs.declared.answer.Refusal.TheVariants.{NoStates, Ended, ShortList, BadTag, TooDeep, TooMany, HoldFull, NoneOpen, OtherTag, StillOpen}
use Rattle.book.specs.Refusals.{number}
use Rattle.book.specs.Catalogue.{within, over, nest, Sound, opened}
use Rattle.book.specs.Machines.{Machine, Selecting, Lawful}
use Rattle.book.specs.Orders.{Held}
use Rattle.book.specs.ItemLists.{Counts}
use Rattle.book.specs.Checks.{scan_lines, watch_lines, Accepts, Refuses, WatchAccepts, WatchRefuses}
use Rattle.book.specs.History.{Call, EventsSoFar, WatchedSoFar}

-- Numbers ---------------------------------------------------------------------------------------------------------

-- the numbers of the refusals stand in the order of the table
abbrev pub NumbersOfLines : Type 0
NumbersOfLines =
    (map number scan_lines ≡ 1 ∷ 2 ∷ 3 ∷ 4 ∷ 5 ∷ 6 ∷ 7 ∷ 8 ∷ 9 ∷ 10 ∷ [])
    × (map number watch_lines ≡ 1 ∷ 2 ∷ 4 ∷ 5 ∷ 6 ∷ 8 ∷ 9 ∷ 10 ∷ [])

-- a tag is a number from 0 to 31, and a lawful book has at most 64 states
abbrev pub TagsAndStates : Type 0
TagsAndStates = ((t : ℕ) → Sound (Open t ∷ []) ↔ (t ≤ 31)) × ((m : Machine) → Lawful m → m.width ≤ 64)

-- Accepted calls --------------------------------------------------------------------------------------------------

-- items with the tags ts are open, and there are at most n
abbrev pub OpenItems : List Event → ℕ → Type 0
OpenItems h n = (ts : List ℕ) × (nest h ≡ within ts) × (length ts ≤ n)

-- a call of a scan, which is lent a list of room records, after events that break no rule
abbrev pub AcceptedCalls : Type 0
AcceptedCalls = (m : Selecting) (h : List Event) (room t : ℕ) → Sound h →
    (Accepts m h room (Open t) ↔ ((1 ≤ m.shape.width) × (129 ≤ room) × (t ≤ 31) × OpenItems h 63 × (opened h ≤ 16777214)
    × ((n : ℕ) → Counts (Held m (h ++ (Open t ∷ []))) n → n ≤ 128)))
    × (Accepts m h room (Close t) ↔ ((1 ≤ m.shape.width) × (129 ≤ room) × ((ts : List ℕ) × (nest h ≡ within (t ∷ ts)))))
    × (Accepts m h room End ↔ ((1 ≤ m.shape.width) × (129 ≤ room) × (nest h ≡ within [])))

abbrev pub AcceptedWatchCalls : Type 0
AcceptedWatchCalls = (m : Machine) (h : List Event) (t : ℕ) → Sound h →
    (WatchAccepts m h (Open t) ↔ ((1 ≤ m.width) × (t ≤ 31) × OpenItems h 63 × (opened h ≤ 16777214)))
    × (WatchAccepts m h (Close t) ↔ ((1 ≤ m.width) × ((ts : List ℕ) × (nest h ≡ within (t ∷ ts)))))
    × (WatchAccepts m h End ↔ ((1 ≤ m.width) × (nest h ≡ within [])))

-- Refused calls ---------------------------------------------------------------------------------------------------

-- the book has states, the list is long enough, and items with the tags ts are open
abbrev pub ReadyFor : Selecting → List Event → ℕ → List ℕ → Type 0
ReadyFor m h room ts = (1 ≤ m.shape.width) × (129 ≤ room) × (nest h ≡ within ts)

-- What the calls of a scan are refused with, line by line.
pub record RefusedCalls (m : Selecting) (h : List Event) (room : ℕ) : Type 0 where
  pub no_states : (e : Event) → m.shape.width ≡ 0 → Refuses m h room e NoStates
  pub ended : (e : Event) → 1 ≤ m.shape.width → nest h ≡ over → Refuses m h room e Ended
  pub short_list : (e : Event) (ts : List ℕ) → 1 ≤ m.shape.width → nest h ≡ within ts → room ≤ 128 → Refuses m h room e ShortList
  pub bad_tag : (t : ℕ) (ts : List ℕ) → ReadyFor m h room ts → 32 ≤ t → Refuses m h room (Open t) BadTag
  pub too_deep : (t : ℕ) (ts : List ℕ) → ReadyFor m h room ts → t ≤ 31 → 64 ≤ length ts → Refuses m h room (Open t) TooDeep
  pub too_many : (t : ℕ) (ts : List ℕ) → ReadyFor m h room ts → t ≤ 31 → length ts ≤ 63 → 16777215 ≤ opened h → Refuses m h room (Open t) TooMany
  pub hold_full : (t : ℕ) (ts : List ℕ) → ReadyFor m h room ts → t ≤ 31 → length ts ≤ 63 → opened h ≤ 16777214 →
      (n : ℕ) → Counts (Held m (h ++ (Open t ∷ []))) n → 129 ≤ n → Refuses m h room (Open t) HoldFull
  pub none_open : (t : ℕ) → ReadyFor m h room [] → Refuses m h room (Close t) NoneOpen
  pub other_tag : (t u : ℕ) (ts : List ℕ) → ReadyFor m h room (u ∷ ts) → (u ≢ t) → Refuses m h room (Close t) OtherTag
  pub still_open : (u : ℕ) (ts : List ℕ) → ReadyFor m h room (u ∷ ts) → Refuses m h room End StillOpen

abbrev pub CallsAreRefused : Type 0
CallsAreRefused = (m : Selecting) (h : List Event) (room : ℕ) → RefusedCalls m h room

-- A watch has no list and no hold.
abbrev pub WatchReadyFor : Machine → List Event → List ℕ → Type 0
WatchReadyFor m h ts = (1 ≤ m.width) × (nest h ≡ within ts)

pub record RefusedWatchCalls (m : Machine) (h : List Event) : Type 0 where
  pub no_states : (e : Event) → m.width ≡ 0 → WatchRefuses m h e NoStates
  pub ended : (e : Event) → 1 ≤ m.width → nest h ≡ over → WatchRefuses m h e Ended
  pub bad_tag : (t : ℕ) (ts : List ℕ) → WatchReadyFor m h ts → 32 ≤ t → WatchRefuses m h (Open t) BadTag
  pub too_deep : (t : ℕ) (ts : List ℕ) → WatchReadyFor m h ts → t ≤ 31 → 64 ≤ length ts → WatchRefuses m h (Open t) TooDeep
  pub too_many : (t : ℕ) (ts : List ℕ) → WatchReadyFor m h ts → t ≤ 31 → length ts ≤ 63 → 16777215 ≤ opened h → WatchRefuses m h (Open t) TooMany
  pub none_open : (t : ℕ) → WatchReadyFor m h [] → WatchRefuses m h (Close t) NoneOpen
  pub other_tag : (t u : ℕ) (ts : List ℕ) → WatchReadyFor m h (u ∷ ts) → (u ≢ t) → WatchRefuses m h (Close t) OtherTag
  pub still_open : (u : ℕ) (ts : List ℕ) → WatchReadyFor m h (u ∷ ts) → WatchRefuses m h End StillOpen

abbrev pub WatchCallsAreRefused : Type 0
WatchCallsAreRefused = (m : Machine) (h : List Event) → RefusedWatchCalls m h

-- Within the limits -----------------------------------------------------------------------------------------------

-- at most 16,777,215 items are opened, 64 of them open at once; so the events are at most twice as many and the end
pub record WithinLimits (h : List Event) : Type 0 where
  pub items : opened h ≤ 16777215
  pub deep : (ts : List ℕ) → nest h ≡ within ts → length ts ≤ 64
  pub events : length h ≤ 33554431

abbrev pub HistoryWithinLimits : Type 0
HistoryWithinLimits =
    ((m : Selecting) (calls : List Call) (h : List Event) → EventsSoFar m calls h → WithinLimits h)
    × ((m : Machine) (calls h : List Event) → WatchedSoFar m calls h → WithinLimits h)

-- on any book with states, a 64th item inside 63 others is accepted, and a 65th inside 64 is not
abbrev pub SixtyFourDeep : Type 0
SixtyFourDeep = (m : Selecting) → 1 ≤ m.shape.width →
    Accepts m (replicate 63 (Open 0)) 129 (Open 0) × Refuses m (replicate 64 (Open 0)) 129 (Open 0) TooDeep

-- The events that calls bring: there is one list of them at most, and it breaks no rule.
use Rattle.std.proofs.Common.{◌≡◌, List, [], ◌∷◌, ◌++◌, sym, ◌∙◌, subst, inl, inr}
use Rattle.book.specs.declared.event.Event.{Event}
use Rattle.book.specs.declared.answer.Refusal.{Refusal}
use Rattle.book.specs.Catalogue.{Sound}
use Rattle.book.specs.Machines.{Machine, Selecting}
use Rattle.book.specs.Checks.{Accepts, Refuses, WatchAccepts, WatchRefuses}
use Rattle.book.specs.History.{Bring, Call, event_of, itself, EventsSoFar, WatchedSoFar, OneHistory, HistoryIsSound}
use Rattle.book.proofs.Checks.{one_outcome, accepted_sound, watch_accepted_sound}

-- Any calls -------------------------------------------------------------------------------------------------------

pub bring_same : {C : Type 0} (event : C → Event) (accepts : List Event → C → Type 0) (refuses : List Event → C → Refusal → Type 0)
    → ((h : List Event) (c : C) (r : Refusal) → accepts h c → refuses h c r → ⊥)
    → (h : List Event) (cs : List C) (f g : List Event) → Bring event accepts refuses h cs f → Bring event accepts refuses h cs g → f ≡ g
bring_same event accepts refuses apart h [] f g a b = a ∙ sym b
bring_same event accepts refuses apart h (c ∷ cs) f g (inl a) (inl b) = bring_same event accepts refuses apart (h ++ (event c ∷ [])) cs f g a.1 b.1
bring_same event accepts refuses apart h (c ∷ cs) f g (inl a) (inr b) = absurd (apart h c b.0.0 a.0 b.0.1)
bring_same event accepts refuses apart h (c ∷ cs) f g (inr a) (inl b) = absurd (apart h c a.0.0 b.0 a.0.1)
bring_same event accepts refuses apart h (c ∷ cs) f g (inr a) (inr b) = bring_same event accepts refuses apart h cs f g a.1 b.1

-- one call more
pub bring_more : {C : Type 0} (event : C → Event) (accepts : List Event → C → Type 0) (refuses : List Event → C → Refusal → Type 0)
    → (h : List Event) (cs : List C) (c : C) (f g : List Event) → Bring event accepts refuses h cs f
    → Bring event accepts refuses f (c ∷ []) g → Bring event accepts refuses h (cs ++ (c ∷ [])) g
bring_more event accepts refuses h [] c f g a b = subst (λ (x : List Event). Bring event accepts refuses x (c ∷ []) g) a b
bring_more event accepts refuses h (d ∷ cs) c f g (inl a) b = inl (a.0, bring_more event accepts refuses (h ++ (event d ∷ [])) cs c f g a.1 b)
bring_more event accepts refuses h (d ∷ cs) c f g (inr a) b = inr (a.0, bring_more event accepts refuses h cs c f g a.1 b)

-- what each accepted call hands on holds of the events that the calls bring
pub bring_keeps : {C : Type 0} (event : C → Event) (accepts : List Event → C → Type 0) (refuses : List Event → C → Refusal → Type 0) (P : List Event → Type 0)
    → ((h : List Event) (c : C) → P h → accepts h c → P (h ++ (event c ∷ [])))
    → (h : List Event) (cs : List C) (g : List Event) → P h → Bring event accepts refuses h cs g → P g
bring_keeps event accepts refuses P keep h [] g s a = subst P (sym a) s
bring_keeps event accepts refuses P keep h (c ∷ cs) g s (inl a) = bring_keeps event accepts refuses P keep (h ++ (event c ∷ [])) cs g (keep h c s a.0) a.1
bring_keeps event accepts refuses P keep h (c ∷ cs) g s (inr a) = bring_keeps event accepts refuses P keep h cs g s a.1

-- The calls of a scan and of a watch ------------------------------------------------------------------------------

pub sound_none : Sound []
sound_none p = cc

abbrev scan_accepts : Selecting → List Event → Call → Type 0
scan_accepts m h c = Accepts m h c.room c.event

abbrev scan_refuses : Selecting → List Event → Call → Refusal → Type 0
scan_refuses m h c r = Refuses m h c.room c.event r

pub events_same : (m : Selecting) (calls : List Call) (h g : List Event) → EventsSoFar m calls h → EventsSoFar m calls g → h ≡ g
events_same m calls h g = bring_same event_of (scan_accepts m) (scan_refuses m) (λ f c r. (one_outcome.0 m f c.room c.event).0 r) [] calls h g

pub watched_same : (m : Machine) (calls h g : List Event) → WatchedSoFar m calls h → WatchedSoFar m calls g → h ≡ g
watched_same m calls h g = bring_same itself (WatchAccepts m) (WatchRefuses m) (λ f c r. (one_outcome.1 m f c).0 r) [] calls h g

pub events_more : (m : Selecting) (calls : List Call) (c : Call) (h g : List Event) → EventsSoFar m calls h
    → Bring event_of (scan_accepts m) (scan_refuses m) h (c ∷ []) g → EventsSoFar m (calls ++ (c ∷ [])) g
events_more m calls c h g = bring_more event_of (scan_accepts m) (scan_refuses m) [] calls c h g

pub watched_more : (m : Machine) (calls : List Event) (c : Event) (h g : List Event) → WatchedSoFar m calls h
    → Bring itself (WatchAccepts m) (WatchRefuses m) h (c ∷ []) g → WatchedSoFar m (calls ++ (c ∷ [])) g
watched_more m calls c h g = bring_more itself (WatchAccepts m) (WatchRefuses m) [] calls c h g

pub events_keep : (m : Selecting) (P : List Event → Type 0) → P []
    → ((h : List Event) (c : Call) → P h → Accepts m h c.room c.event → P (h ++ (c.event ∷ [])))
    → (calls : List Call) (h : List Event) → EventsSoFar m calls h → P h
events_keep m P start keep calls h = bring_keeps event_of (scan_accepts m) (scan_refuses m) P keep [] calls h start

pub watched_keep : (m : Machine) (P : List Event → Type 0) → P [] → ((h : List Event) (e : Event) → P h → WatchAccepts m h e → P (h ++ (e ∷ [])))
    → (calls h : List Event) → WatchedSoFar m calls h → P h
watched_keep m P start keep calls h = bring_keeps itself (WatchAccepts m) (WatchRefuses m) P keep [] calls h start

pub events_sound : (m : Selecting) (calls : List Call) (h : List Event) → EventsSoFar m calls h → Sound h
events_sound m = events_keep m Sound sound_none (λ g c. accepted_sound m g c.room c.event)

pub watched_sound : (m : Machine) (calls h : List Event) → WatchedSoFar m calls h → Sound h
watched_sound m = watched_keep m Sound sound_none (watch_accepted_sound m)

pub one_history : OneHistory
one_history = (events_same, watched_same)

pub history_is_sound : HistoryIsSound
history_is_sound = (events_sound, watched_sound)

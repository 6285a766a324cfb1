-- One step of the watch over lists keeps the promise, and it stands after it. Assumes nothing.
use Rattle.std.proofs.Common.{◌≡◌, ℕ, ◌<◌, Bool, true, false, ◌≢◌, List, Ok, Err, Result, sym, refl, ap, ◌∙◌, subst, arith}
use Rattle.book.specs.declared.event.Event.{Event}
use Rattle.book.specs.declared.answer.Refusal.{Refusal}
use Rattle.book.specs.declared.answer.Refusal.TheVariants.{NoStates}
use Rattle.book.specs.declared.answer.Verdict.{Verdict}
use Rattle.book.specs.Catalogue.{Nest, after, nest, Sound, count}
use Rattle.book.specs.Machines.{Machine, Lawful, run, plainly, accepted}
use Rattle.book.specs.Tables.{Fits, TwoTests}
use Rattle.book.specs.Checks.{watch_lines, SharedMet, WatchAccepts}
use Rattle.book.specs.Watch.{Says, watch_exchange, WatchKeeps}
use Rattle.book.proofs.History.{sound_none}
use Rattle.book.proofs.Checks.{watch_unmet, watch_accepted_sound}
use Rattle.book.proofs.Exact.{plus}
use Rattle.book.proofs.Steps.{nest_more, opened_more}
use Rattle.scan.specs.Tracks.{Track, moved, may, Follows}
use Rattle.scan.specs.Tests.{shared_test}
use Rattle.scan.specs.Watching.{WatchModel, watch_next, verdict, watch_answer, watch_after, WatchStands, watch_event, WatchStepKept, WatchBeginsRight, WatchStepsRight}
use Rattle.scan.proofs.Tracks.{first_follows, run_follows}
use Rattle.scan.proofs.Judging.{base_tested}
use Rattle.scan.proofs.Tests.{all_tell, Outcome, checked_right, shared_tells}

verdict_says : (m : Machine) (h : List Event) (y n : Bool) → TwoTests (accepted m) h y n → Says m h (verdict y n)
verdict_says m h true true d = d
verdict_says m h true false d = d
verdict_says m h false true d = d
verdict_says m h false false d = absurd d

module _ (reach : ℕ → ℕ → Bool) (m : Machine) (law : Lawful m) (fits : Fits m reach) (s : WatchModel) (h : List Event) (st : WatchStands reach m s h) (e : Event) where
  abbrev base : Track
  base = moved reach m e s.base

  abbrev answered : Verdict
  answered = verdict (may m e true base) (may m e false base)

  module _ (ok : WatchAccepts m h e) where
    some : 0 < m.width
    some = let w : m.width ≢ 0 = watch_unmet m h e ok NoStates in omega arith

    sound : Sound (plus h e)
    sound = watch_accepted_sound m h e st.sound ok

    base_follows : Follows reach m (nest (plus h e)) base (run m (plainly m) (plus h e))
    base_follows = run_follows reach m law some h e s.base (plainly m) sound (λ q t. refl) st.base

    answered_says : Says m (plus h e) answered
    answered_says = verdict_says m (plus h e) (may m e true base) (may m e false base) (base_tested reach m law fits some h e base base_follows)

    next_stands : WatchStands reach m (watch_next reach m s e) (plus h e)
    next_stands = record {
      sound = sound;
      place = ap (λ (n : Nest). after n e) st.place ∙ sym (nest_more h e);
      opens = ap (λ (n : ℕ). count n e) st.opens ∙ sym (opened_more h e);
      base = base_follows;
    }

  by_outcome : (a : Result Verdict Refusal) → Outcome (SharedMet m h e) watch_lines answered a
      → WatchKeeps m h (watch_exchange e a) × WatchStands reach m (watch_after reach m s e a) (watch_event h e a)
  by_outcome (Ok v) o = ((o.0, subst (Says m (plus h e)) (sym o.1) (answered_says o.0)), next_stands o.0)
  by_outcome (Err r) o = (o, st)

-- Statements ------------------------------------------------------------------------------------------------------

pub watch_steps_right : WatchStepsRight
watch_steps_right reach m s e law fits h st =
    by_outcome reach m law fits s h st e (watch_answer reach m s e)
    (checked_right (shared_test m.width s.place s.opened e) (SharedMet m h e) watch_lines
    (verdict (may m e true (moved reach m e s.base)) (may m e false (moved reach m e s.base)))
    (all_tell (shared_test m.width s.place s.opened e) (SharedMet m h e) (shared_tells m h e s.place s.opened st.place st.opens) watch_lines))

pub watch_begins_right : WatchBeginsRight
watch_begins_right reach m = record { sound = sound_none; place = refl; opens = refl; base = first_follows reach m }

-- whatever has the answer and the state of the watch over lists keeps the promise
pub watch_step_kept : (reach : ℕ → ℕ → Bool) (m : Machine) (s s' : WatchModel) (e : Event) (a : Result Verdict Refusal)
    → a ≡ watch_answer reach m s e → s' ≡ watch_after reach m s e a → WatchStepKept reach m s e a s'
watch_step_kept reach m s s' e a p q =
    subst (λ (x : WatchModel). WatchStepKept reach m s e a x) (sym q)
    (subst (λ (b : Result Verdict Refusal). WatchStepKept reach m s e b (watch_after reach m s e b)) (sym p) (watch_steps_right reach m s e))

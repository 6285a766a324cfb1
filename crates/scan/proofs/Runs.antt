-- The runs of the scan and of the watch over lists keep their promises, and no others do. Assumes nothing.
use Rattle.std.proofs.Common.{◌≡◌, ℕ, Bool, List, [], ◌∷◌, ◌++◌, map, length, Ok, Err, Result, sym, refl, ap, subst, inl, inr, append_assoc, append-nil}
use Rattle.book.specs.declared.event.Event.{Event}
use Rattle.book.specs.declared.answer.Order.{Order}
use Rattle.book.specs.declared.answer.Totals.{Totals}
use Rattle.book.specs.declared.answer.Refusal.{Refusal}
use Rattle.book.specs.declared.answer.Verdict.{Verdict}
use Rattle.book.specs.Machines.{Machine, Selecting, Lawful, LawfulMarks}
use Rattle.book.specs.Tables.{Fits}
use Rattle.book.specs.Checks.{WatchAccepts, WatchRefuses}
use Rattle.book.specs.History.{Bring, Call, itself, EventsSoFar, WatchedSoFar}
use Rattle.book.specs.Promise.{Exchange, exchange, call_of, orders_of, Promise}
use Rattle.book.specs.PromiseLaws.{Asked, asked, with_event}
use Rattle.book.specs.Watch.{WatchExchange, watch_exchange, watch_call, WatchAnswered, WatchKeeps, WatchPromise}
use Rattle.std.proofs.lemmas.List.{map-append}
use Rattle.book.proofs.Exchanges.{kept_none}
use Rattle.book.proofs.History.{watched_more}
use Rattle.book.proofs.OneAnswer.{one_run}
use Rattle.book.proofs.Runs.{orders_more, events_on, promise_none, promise_more}
use Rattle.book.proofs.Watch.{one_watch_run, watch_promise_more}
use Rattle.scan.specs.Model.{Model, begun, answer, list_after, model_after}
use Rattle.scan.specs.Standing.{Stands}
use Rattle.scan.specs.Watching.{WatchModel, watch_begun, watch_answer, watch_after, watch_event, WatchStands}
use Rattle.scan.specs.Runs.{exchanges_from, scan_run, verdicts_from, watch_run, ScanRunsRight, WatchRunsRight}
use Rattle.scan.proofs.Standing.{begins_right, steps_right}
use Rattle.scan.proofs.Watching.{watch_begins_right, watch_steps_right}

-- The scan --------------------------------------------------------------------------------------------------------

exchanges_asked : (reach : ℕ → ℕ → Bool) (m : Selecting) (s : Model) (qs : List Asked) → map asked (exchanges_from reach m s qs) ≡ qs
exchanges_asked reach m s [] = refl
exchanges_asked reach m s (q ∷ qs) =
    ap (λ (r : List Asked). q ∷ r) (exchanges_asked reach m (model_after reach m s q.call (answer reach m s (length q.before) q.call)) qs)

module _ (reach : ℕ → ℕ → Bool) (m : Selecting) (law : Lawful m.shape) (mark_law : LawfulMarks m.shape m.mark) (fits : Fits m.shape reach) where
  -- after exchanges that keep the promise, so do those that follow
  exchanges_promise : (ys : List Exchange) (h : List Event) (s : Model) (qs : List Asked) → Promise m ys → EventsSoFar m (map call_of ys) h → Stands reach m s h (orders_of ys)
      → Promise m (ys ++ exchanges_from reach m s qs)
  exchanges_promise ys h s [] p at st = subst (Promise m) (sym (append-nil ys)) p
  exchanges_promise ys h s (q ∷ qs) p at st =
      let a : Result Totals Refusal = answer reach m s (length q.before) q.call in
      let later : List Order = list_after reach m s q.call q.before a in
      let x : Exchange = exchange q.call q.before a later in
      let step = steps_right reach m s q.call q.before law mark_law fits h (orders_of ys) st in
      let g : List Event = with_event h q.call a in
      let at' : EventsSoFar m (map call_of (ys ++ (x ∷ []))) g =
      subst (λ (l : List Call). EventsSoFar m l g) (sym (map-append call_of ys (x ∷ []))) (events_on m (map call_of ys) h (orders_of ys) x at step.0) in
      let st' : Stands reach m (model_after reach m s q.call a) g (orders_of (ys ++ (x ∷ []))) =
      subst (Stands reach m (model_after reach m s q.call a) g) (sym (orders_more ys x [])) step.1 in
      subst (Promise m) (append_assoc ys (x ∷ []) (exchanges_from reach m (model_after reach m s q.call a) qs))
      (exchanges_promise (ys ++ (x ∷ [])) g (model_after reach m s q.call a) qs (promise_more m ys x h p at step.0) at' st')

  run_promise : (qs : List Asked) → Promise m (scan_run reach m qs)
  run_promise qs = exchanges_promise [] [] (begun reach m.shape) qs (promise_none m) refl (begins_right reach m)

pub scan_runs_right : ScanRunsRight
scan_runs_right reach m law mark_law fits =
    let same = (λ (qs : List Asked). exchanges_asked reach m (begun reach m.shape) qs) in (
      λ qs. (same qs, run_promise reach m law mark_law fits qs),
      λ xs. (
        λ p. one_run m xs (scan_run reach m (map asked xs)) p (run_promise reach m law mark_law fits (map asked xs)) (sym (same (map asked xs))),
        λ e. subst (Promise m) (sym e) (run_promise reach m law mark_law fits (map asked xs)),
      ),
    )

-- The watch -------------------------------------------------------------------------------------------------------

verdicts_asked : (reach : ℕ → ℕ → Bool) (m : Machine) (s : WatchModel) (es : List Event) → map watch_call (verdicts_from reach m s es) ≡ es
verdicts_asked reach m s [] = refl
verdicts_asked reach m s (e ∷ es) = ap (λ (r : List Event). e ∷ r) (verdicts_asked reach m (watch_after reach m s e (watch_answer reach m s e)) es)

answered_brings : (m : Machine) (h : List Event) (e : Event) (a : Result Verdict Refusal) → WatchAnswered m h e a
    → Bring itself (WatchAccepts m) (WatchRefuses m) h (e ∷ []) (watch_event h e a)
answered_brings m h e (Ok v) k = inl (k.0, refl)
answered_brings m h e (Err r) k = inr ((r, k), refl)

module _ (reach : ℕ → ℕ → Bool) (m : Machine) (law : Lawful m) (fits : Fits m reach) where
  verdicts_promise : (ys : List WatchExchange) (h : List Event) (s : WatchModel) (es : List Event) → WatchPromise m ys → WatchedSoFar m (map watch_call ys) h → WatchStands reach m s h
      → WatchPromise m (ys ++ verdicts_from reach m s es)
  verdicts_promise ys h s [] p at st = subst (WatchPromise m) (sym (append-nil ys)) p
  verdicts_promise ys h s (e ∷ es) p at st =
      let a : Result Verdict Refusal = watch_answer reach m s e in
      let x : WatchExchange = watch_exchange e a in
      let step = watch_steps_right reach m s e law fits h st in
      let g : List Event = watch_event h e a in
      let at' : WatchedSoFar m (map watch_call (ys ++ (x ∷ []))) g =
      subst (λ (l : List Event). WatchedSoFar m l g) (sym (map-append watch_call ys (x ∷ []))) (watched_more m (map watch_call ys) e h g at (answered_brings m h e a step.0)) in
      subst (WatchPromise m) (append_assoc ys (x ∷ []) (verdicts_from reach m (watch_after reach m s e a) es))
      (verdicts_promise (ys ++ (x ∷ [])) g (watch_after reach m s e a) es (watch_promise_more m ys x h p at step.0) at' step.1)

  watch_run_promise : (es : List Event) → WatchPromise m (watch_run reach m es)
  watch_run_promise es = verdicts_promise [] [] (watch_begun reach m) es (kept_none (WatchedSoFar m) watch_call (λ h ys x. WatchKeeps m h x)) refl (watch_begins_right reach m)

pub watch_runs_right : WatchRunsRight
watch_runs_right reach m law fits =
    let same = (λ (es : List Event). verdicts_asked reach m (watch_begun reach m) es) in (
      λ es. (same es, watch_run_promise reach m law fits es),
      λ xs. (
        λ p. one_watch_run m xs (watch_run reach m (map watch_call xs)) p (watch_run_promise reach m law fits (map watch_call xs)) (sym (same (map watch_call xs))),
        λ e. subst (WatchPromise m) (sym e) (watch_run_promise reach m law fits (map watch_call xs)),
      ),
    )

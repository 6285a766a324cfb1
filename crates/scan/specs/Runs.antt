-- Whole runs: any list of calls, made to the scan or to the watch over lists from its beginning.
use Rattle.std.specs.Prelude.{◌≡◌, ℕ, Bool, ◌↔◌, List, [], ◌∷◌, map, length, Result}
use Rattle.book.specs.declared.event.Event.{Event}
use Rattle.book.specs.declared.answer.Totals.{Totals}
use Rattle.book.specs.declared.answer.Refusal.{Refusal}
use Rattle.book.specs.declared.answer.Verdict.{Verdict}
use Rattle.book.specs.Machines.{Machine, Selecting, Lawful, LawfulMarks}
use Rattle.book.specs.Tables.{Fits}
use Rattle.book.specs.Promise.{Exchange, exchange, Promise}
use Rattle.book.specs.PromiseLaws.{Asked, asked}
use Rattle.book.specs.Watch.{WatchExchange, watch_exchange, watch_call, WatchPromise}
use Rattle.scan.specs.Model.{Model, begun, answer, list_after, model_after}
use Rattle.scan.specs.Watching.{WatchModel, watch_begun, watch_answer, watch_after}

-- Runs ------------------------------------------------------------------------------------------------------------

-- what the scan answers, call after call, each with its own list
abbrev pub exchanges_from : (ℕ → ℕ → Bool) → Selecting → Model → List Asked → List Exchange
exchanges_from reach m s [] = []
exchanges_from reach m s (q ∷ qs) =
    let a : Result Totals Refusal = answer reach m s (length q.before) q.call in
    exchange q.call q.before a (list_after reach m s q.call q.before a) ∷ exchanges_from reach m (model_after reach m s q.call a) qs

abbrev pub scan_run : (ℕ → ℕ → Bool) → Selecting → List Asked → List Exchange
scan_run reach m qs = exchanges_from reach m (begun reach m.shape) qs

abbrev pub verdicts_from : (ℕ → ℕ → Bool) → Machine → WatchModel → List Event → List WatchExchange
verdicts_from reach m s [] = []
verdicts_from reach m s (e ∷ es) =
    let a : Result Verdict Refusal = watch_answer reach m s e in
    watch_exchange e a ∷ verdicts_from reach m (watch_after reach m s e a) es

abbrev pub watch_run : (ℕ → ℕ → Bool) → Machine → List Event → List WatchExchange
watch_run reach m es = verdicts_from reach m (watch_begun reach m) es

-- Statements ------------------------------------------------------------------------------------------------------

-- where a table fits, the run of any calls keeps the promise, and no other exchanges of these calls do
abbrev pub ScanRunsRight : Type 0
ScanRunsRight = (reach : ℕ → ℕ → Bool) (m : Selecting) → Lawful m.shape → LawfulMarks m.shape m.mark → Fits m.shape reach →
    ((qs : List Asked) → (map asked (scan_run reach m qs) ≡ qs) × Promise m (scan_run reach m qs))
    × ((xs : List Exchange) → Promise m xs ↔ (xs ≡ scan_run reach m (map asked xs)))

abbrev pub WatchRunsRight : Type 0
WatchRunsRight = (reach : ℕ → ℕ → Bool) (m : Machine) → Lawful m → Fits m reach →
    ((es : List Event) → (map watch_call (watch_run reach m es) ≡ es) × WatchPromise m (watch_run reach m es))
    × ((xs : List WatchExchange) → WatchPromise m xs ↔ (xs ≡ watch_run reach m (map watch_call xs)))

-- The verdicts of a watch: what they say, that there is one, and that the calls fix the answers.
use Rattle.std.proofs.Common.{◌≡◌, ℕ, ◌<◌, Bool, true, false, ◌↔◌, List, [], ◌∷◌, ◌++◌, map, Ok, Err, Result, sym, refl, ap, ◌∙◌, subst, inl, inr, arith}
use Rattle.std.proofs.lemmas.Bool.{both_ways, cases_lt, cases_Bool}
use Rattle.book.specs.declared.event.Event.{Event}
use Rattle.book.specs.declared.answer.Refusal.{Refusal}
use Rattle.book.specs.declared.answer.Verdict.{Verdict}
use Rattle.book.specs.declared.answer.Verdict.TheVariants.{Yes, No, Undecided}
use Rattle.book.specs.Catalogue.{Nest, within, over, broken, nest, Catalogue, Sound}
use Rattle.book.specs.Machines.{Machine, Lawful, run, plainly, accepted}
use Rattle.book.specs.Orders.{Every, Some}
use Rattle.book.specs.Tables.{Fits, may_end, TwoTests}
use Rattle.book.specs.Earliest.{Begins}
use Rattle.book.specs.Checks.{watch_lines, SharedMet, WatchAccepts, WatchRefuses}
use Rattle.book.specs.History.{Bring, itself, WatchedSoFar}
use Rattle.book.specs.Watch.{Says, WatchExchange, watch_exchange, watch_call, WatchAnswered, WatchKeeps, WatchPromise, VerdictMeans, VerdictsMean, OneVerdict, EndVerdict, VerdictsOfRuns, OneWatchRun, SomeWatchAnswer, WatchAnswersAgree}
use Rattle.book.proofs.Questions.{not_every_both, not_every_some, not_never_some, every_at_end, some_at_end}
use Rattle.book.proofs.Tables.{tables_decide_acceptance}
use Rattle.book.proofs.Checks.{not_both, topmost_same, watch_accepted_sound}
use Rattle.book.proofs.History.{watched_same, watched_more, watched_sound}
use Rattle.std.proofs.lemmas.List.{map-append}
use Rattle.book.proofs.Exchanges.{kept_more, kept_at, through_all, same_exchanges, some_exchanges}
use Rattle.book.proofs.Telling.{watch_outcome}

-- What a verdict says ---------------------------------------------------------------------------------------------

every_catalogue : (question : List Event → Bool) (b : Bool) (h : List Event) → Every question b h ↔ ((c : List Event) → Begins h c → question c ≡ b)
every_catalogue question b h = (
  λ every c begins. subst (λ (x : List Event). question x ≡ b) (sym begins.1.1) (every begins.1.0 (subst Catalogue begins.1.1 begins.0)),
  λ all e fin. all (h ++ e) (fin, (e, refl)),
)

some_catalogue : (question : List Event → Bool) (b : Bool) (h : List Event) → Some question b h ↔ ((c : List Event) × Begins h c × (question c ≡ b))
some_catalogue question b h = (
  λ some. (h ++ some.0, (some.1, (some.0, refl)), some.2),
  λ x. (x.1.1.0, subst Catalogue x.1.1.1 x.1.0, subst (λ (c : List Event). question c ≡ b) x.1.1.1 x.2),
)

pub verdicts_mean : VerdictsMean
verdicts_mean m h Yes = every_catalogue (accepted m) true h
verdicts_mean m h No = every_catalogue (accepted m) false h
verdicts_mean m h Undecided =
    let t = some_catalogue (accepted m) true h in
    let f = some_catalogue (accepted m) false h in
    (λ x. (t.0 x.0, f.0 x.1), λ x. (t.1 x.0, f.1 x.1))

pub one_verdict : OneVerdict
one_verdict m h Yes Yes s v w = refl
one_verdict m h Yes No s v w = absurd (not_every_both (accepted m) h s v w)
one_verdict m h Yes Undecided s v w = absurd (not_every_some (accepted m) h v w.1)
one_verdict m h No Yes s v w = absurd (not_every_both (accepted m) h s w v)
one_verdict m h No No s v w = refl
one_verdict m h No Undecided s v w = absurd (not_never_some (accepted m) h v w.0)
one_verdict m h Undecided Yes s v w = absurd (not_every_some (accepted m) h w v.1)
one_verdict m h Undecided No s v w = absurd (not_never_some (accepted m) h w v.0)
one_verdict m h Undecided Undecided s v w = refl

pub end_verdict : EndVerdict
end_verdict m h fin = (
  every_at_end (accepted m) true h fin,
  every_at_end (accepted m) false h fin,
  λ u. both_ways (accepted m h) (some_at_end (accepted m) false h fin u.1) (some_at_end (accepted m) true h fin u.0),
)

-- One answer ------------------------------------------------------------------------------------------------------

ok_of : Verdict → Result Verdict Refusal
ok_of v = Ok v

err_of : Refusal → Result Verdict Refusal
err_of r = Err r

one_watch_answer : (m : Machine) (h : List Event) (e : Event) (a b : Result Verdict Refusal) → Sound h → WatchAnswered m h e a → WatchAnswered m h e b → a ≡ b
unfolding ok_of err_of
one_watch_answer m h e (Ok v) (Ok w) s x y = ap ok_of (one_verdict m (h ++ (e ∷ [])) v w (watch_accepted_sound m h e s x.0) x.1 y.1)
one_watch_answer m h e (Ok v) (Err r) s x y = absurd (not_both (SharedMet m h e) watch_lines r x.0 y)
one_watch_answer m h e (Err r) (Ok w) s x y = absurd (not_both (SharedMet m h e) watch_lines r y.0 x)
one_watch_answer m h e (Err r) (Err q) s x y = ap err_of (topmost_same (SharedMet m h e) watch_lines r q x y)

same_exchange : (x y : WatchExchange) → x.call ≡ y.call → x.answer ≡ y.answer → x ≡ y
same_exchange x y p q = λ i. record { call = p i; answer = q i }

-- an exchange after events that break no rule
abbrev SoundKeeps : Machine → List Event → List WatchExchange → WatchExchange → Type 0
SoundKeeps m h ys x = Sound h × WatchKeeps m h x

one_exchange : (m : Machine) (h : List Event) (x y : WatchExchange) → Sound h → x.call ≡ y.call → WatchKeeps m h x → WatchKeeps m h y → x ≡ y
one_exchange m h x y s c u v = same_exchange x y c (one_watch_answer m h x.call x.answer y.answer s u (subst (λ (e : Event). WatchAnswered m h e y.answer) (sym c) v))

pub one_watch_run : OneWatchRun
one_watch_run m xs ys k l e =
    same_exchanges (WatchedSoFar m) watch_call (SoundKeeps m) (watched_same m) watch_call
    (λ h zs x y a u v. one_exchange m h x y u.0 a u.1 v.1) xs ys (with_sound xs k) (with_sound ys l) e
  where
    with_sound : (zs : List WatchExchange) → WatchPromise m zs → (ys : List WatchExchange) (x : WatchExchange) (ws : List WatchExchange) → zs ≡ ys ++ (x ∷ ws)
        → (h : List Event) × WatchedSoFar m (map watch_call ys) h × SoundKeeps m h ys x
    with_sound zs p ys x ws at = let r = p ys x ws at in (r.0, r.1, (watched_sound m (map watch_call ys) r.0 r.1, r.2))

-- Answers and checks ----------------------------------------------------------------------------------------------

err_same : (r s : Refusal) (x : Result Verdict Refusal) → x ≡ Err r → x ≡ Err s → r ≡ s
err_same r s x p q = cc

pub watch_answers_agree : WatchAnswersAgree
unfolding err_of
watch_answers_agree m h x k = by_answer x.answer refl k
  where
    by_answer : (a : Result Verdict Refusal) → x.answer ≡ a → WatchAnswered m h x.call a →
        (((v : Verdict) × (x.answer ≡ Ok v)) ↔ WatchAccepts m h x.call) × ((r : Refusal) → (x.answer ≡ Err r) ↔ WatchRefuses m h x.call r)
    by_answer (Ok v) is y = (
      (λ _. y.0, λ _. (v, is)),
      λ r. (λ e. cc, λ t. absurd (not_both (SharedMet m h x.call) watch_lines r y.0 t)),
    )
    by_answer (Err q) is y = (
      (λ o. cc o.1, λ ok. absurd (not_both (SharedMet m h x.call) watch_lines q ok y)),
      λ r. (
        λ e. subst (WatchRefuses m h x.call) (err_same q r x.answer is e) y,
        λ t. is ∙ ap err_of (topmost_same (SharedMet m h x.call) watch_lines q r y t),
      ),
    )

-- Some answer -----------------------------------------------------------------------------------------------------

by_tests : (m : Machine) (h : List Event) (y n : Bool) → TwoTests (accepted m) h y n → (v : Verdict) × Says m h v
by_tests m h true true d = (Undecided, d)
by_tests m h true false d = (Yes, d)
by_tests m h false true d = (No, d)
by_tests m h false false d = absurd d

module _ (m : Machine) (reach : ℕ → ℕ → Bool) (law : Lawful m) (fits : Fits m reach) where
  pub some_verdict : (h : List Event) → Sound h → (v : Verdict) × Says m h v
  some_verdict h s = elim (cases_lt 0 m.width) [ inl some ↦ by_nest some (nest h) refl | inr none ↦ (No, λ e fin. law.no_accept (run m (plainly m) (h ++ e)).state (omega arith)) ]
    where
      by_nest : 0 < m.width → (n : Nest) → nest h ≡ n → (v : Verdict) × Says m h v
      by_nest some (within ts) at =
          let can : Bool → Bool = may_end reach m ts (run m (plainly m) h) in
          by_tests m h (can true) (can false) (tables_decide_acceptance m reach law some fits h ts at)
      by_nest some over at = elim (cases_Bool (accepted m h)) [ inl y ↦ (Yes, (every_at_end (accepted m) true h at).1 y) | inr n ↦ (No, (every_at_end (accepted m) false h at).1 n) ]
      by_nest some broken at = absurd (s at)

  any_watch_answer : (h : List Event) (e : Event) → Sound h → (a : Result Verdict Refusal) × WatchAnswered m h e a
  any_watch_answer h e s = elim (watch_outcome m h e s) [
    | inl f ↦ (Err f.0, f.1)
    | inr ok ↦ (let v = some_verdict (h ++ (e ∷ [])) (watch_accepted_sound m h e s ok) in (Ok v.0, (ok, v.1)))
  ]

-- the events that a call brings, by its answer
watch_next : List Event → Event → Result Verdict Refusal → List Event
watch_next h e (Ok v) = h ++ (e ∷ [])
watch_next h e (Err r) = h

watch_brings : (m : Machine) (h : List Event) (e : Event) (a : Result Verdict Refusal) → WatchAnswered m h e a
    → Bring itself (WatchAccepts m) (WatchRefuses m) h (e ∷ []) (watch_next h e a)
unfolding watch_next
watch_brings m h e (Ok v) k = inl (k.0, refl)
watch_brings m h e (Err r) k = inr ((r, k), refl)

pub watch_events : (m : Machine) (xs : List WatchExchange) → WatchPromise m xs → (h : List Event) × WatchedSoFar m (map watch_call xs) h
watch_events m xs p =
    let r = through_all (WatchedSoFar m) watch_call (λ h ys x. WatchKeeps m h x) (watched_same m) (λ ys h. Unit {0}) (λ h x. watch_next h x.call x.answer)
    (λ ys x h at y k. (watched_more m (map watch_call ys) x.call h (watch_next h x.call x.answer) at (watch_brings m h x.call x.answer k), tt))
    xs [] refl tt p in
    (r.0, r.1)

pub watch_promise_more : (m : Machine) (xs : List WatchExchange) (x : WatchExchange) (h : List Event) → WatchPromise m xs → WatchedSoFar m (map watch_call xs) h
    → WatchKeeps m h x → WatchPromise m (xs ++ (x ∷ []))
watch_promise_more m xs x h = kept_more (WatchedSoFar m) watch_call (λ g zs y. WatchKeeps m g y) xs x h

pub some_watch_answer : SomeWatchAnswer
some_watch_answer m reach law fits = (
  next_answer,
  some_exchanges (WatchedSoFar m) watch_call (λ h ys x. WatchKeeps m h x) watch_call
      (λ xs p e. let r = next_answer xs p e in (watch_exchange e r.0, refl, r.1)),
)
  where
    next_answer : (xs : List WatchExchange) → WatchPromise m xs → (e : Event) → (a : Result Verdict Refusal) × WatchPromise m (xs ++ (watch_exchange e a ∷ []))
    next_answer xs p e =
        let at = watch_events m xs p in
        let r = any_watch_answer m reach law fits at.0 e (watched_sound m (map watch_call xs) at.0 at.1) in
        (r.0, watch_promise_more m xs (watch_exchange e r.0) at.0 p at.1 r.1)

-- Verdicts of runs ------------------------------------------------------------------------------------------------

pub verdicts_of_runs : VerdictsOfRuns
unfolding watch_next
verdicts_of_runs m xs ys x zs p e h g before after_it =
    let k : WatchKeeps m h x = kept_at (WatchedSoFar m) watch_call (λ f ws w. WatchKeeps m f w) (watched_same m) xs ys x zs h p e before in
    let brought : (a : Result Verdict Refusal) → WatchAnswered m h x.call a → g ≡ watch_next h x.call a = (λ a y.
    watched_same m (map watch_call (ys ++ (x ∷ []))) g (watch_next h x.call a) after_it
    (subst (λ (l : List Event). WatchedSoFar m l (watch_next h x.call a)) (sym (map-append watch_call ys (x ∷ [])))
    (watched_more m (map watch_call ys) x.call h (watch_next h x.call a) before (watch_brings m h x.call a y)))) in (
      λ v is.
          let y : WatchAnswered m h x.call (Ok v) = subst (WatchAnswered m h x.call) is k in
          let to : g ≡ h ++ (x.call ∷ []) = brought (Ok v) y in
          (to, subst (λ (l : List Event). VerdictMeans m l v) (sym to) ((verdicts_mean m (h ++ (x.call ∷ [])) v).0 y.1)),
      λ r is. brought (Err r) (subst (WatchAnswered m h x.call) is k),
    )

-- Calls that are made one after the other, as the scan over lists makes them. Assumes nothing.
use Rattle.std.proofs.Common.{◌≡◌, ℕ, suc, ◌+◌, ◌<◌, ◌≤◌, Bool, ◌≢◌, ◌⊎◌, List, [], ◌∷◌, ◌++◌, map, length, get_or, take, set, Result, sym, refl, ap, ◌∙◌, subst, inl, inr, arith, get_or-set_other, get_or-set_same}
use Rattle.std.proofs.lemmas.List.{take_more, get_or_default}
use Rattle.std.proofs.lemmas.Bool.{cases_eq}
use Rattle.book.specs.declared.event.Event.{Event}
use Rattle.book.specs.declared.answer.Order.{Order}
use Rattle.book.specs.declared.answer.Totals.{Totals}
use Rattle.book.specs.declared.answer.Refusal.{Refusal}
use Rattle.book.specs.Machines.{Selecting, Lawful, LawfulMarks}
use Rattle.book.specs.Tables.{Fits}
use Rattle.book.specs.PromiseLaws.{Asked}
use Rattle.scan.specs.Model.{Model, answer, list_after, model_after}
use Rattle.scan.specs.Runs.{exchanges_from, scan_run}
use Rattle.scan.proofs.Runs.{scan_runs_right}
use Rattle.replay.specs.declared.exchange.Exchange.{Exchange}
use Rattle.replay.specs.Replays.{asked_by, AllShow, Replayed, onto, Made, standing}

-- One call --------------------------------------------------------------------------------------------------------

-- a call that was lent the list of x
module _ (reach : ℕ → ℕ → Bool) (m : Selecting) (s s' : Model) (e : Event) (before own later : List Order) (a : Result Totals Refusal)
    (lent : before ≡ own) (is : a ≡ answer reach m s (length before) e) (list : later ≡ list_after reach m s e before a) (model : s' ≡ model_after reach m s e a) where
  pub lent_answer : a ≡ answer reach m s (length own) e
  lent_answer = is ∙ ap (λ (xs : List Order). answer reach m s (length xs) e) lent

  pub lent_list : later ≡ list_after reach m s e own (answer reach m s (length own) e)
  lent_list = list ∙ (λ i. list_after reach m s e (lent i) (lent_answer i))

  pub lent_model : s' ≡ model_after reach m s e (answer reach m s (length own) e)
  lent_model = model ∙ ap (model_after reach m s e) lent_answer

-- Call after call -------------------------------------------------------------------------------------------------

module _ (reach : ℕ → ℕ → Bool) (m : Selecting) where
  standing_push : (s : Model) (qs : List Asked) (q : Asked) → standing reach m s (qs ++ (q ∷ [])) ≡ onto reach m (standing reach m s qs) q
  standing_push s [] q = refl
  standing_push s (p ∷ qs) q = standing_push (onto reach m s p) qs q

  map_push : (xs : List Exchange) (x : Exchange) → map asked_by (xs ++ (x ∷ [])) ≡ map asked_by xs ++ (asked_by x ∷ [])
  map_push [] x = refl
  map_push (y ∷ xs) x = ap (λ (qs : List Asked). asked_by y ∷ qs) (map_push xs x)

  pub standing_more : (s : Model) (xs : List Exchange) (i : ℕ) (d : Exchange) → i < length xs
      → standing reach m s (map asked_by (take (i + 1) xs)) ≡ onto reach m (standing reach m s (map asked_by (take i xs))) (asked_by (get_or xs i d))
  standing_more s xs i d lt =
      ap (λ (ys : List Exchange). standing reach m s (map asked_by ys)) (take_more xs i d lt)
      ∙ ap (standing reach m s) (map_push (take i xs) (get_or xs i d))
      ∙ standing_push s (map asked_by (take i xs)) (asked_by (get_or xs i d))

  -- one call more: x, which was read at place i, is made, and is then y
  module _ (s : Model) (xs ys : List Exchange) (i : ℕ) (x y : Exchange) (lt : i < length xs) (long : length ys ≡ length xs)
      (so_far : (k : ℕ) → k < i → (d : Exchange) → Made reach m (standing reach m s (map asked_by (take k xs))) (get_or xs k d) (get_or ys k d))
      (rest : (k : ℕ) → i ≤ k → (d : Exchange) → get_or ys k d ≡ get_or xs k d) (read : x ≡ get_or ys i x)
      (at : Model) (is : at ≡ standing reach m s (map asked_by (take i xs))) (made : Made reach m at x y) where
    here : (d : Exchange) → x ≡ get_or xs i d
    here d = read ∙ rest i (let z : i ≤ i = omega arith in z) x ∙ get_or_default xs i x d lt

    pub made_more : (k : ℕ) → k < i + 1 → (d : Exchange) → Made reach m (standing reach m s (map asked_by (take k xs))) (get_or xs k d) (get_or (set ys i y) k d)
    made_more k less d = go (cases_eq k i)
      where
        now : Made reach m (standing reach m s (map asked_by (take i xs))) (get_or xs i d) y
        now = subst (λ (a : Model). Made reach m a (get_or xs i d) y) is (subst (λ (e : Exchange). Made reach m at e y) (here d) made)

        go : (k ≡ i) ⊎ (k ≡ i → ⊥) → Made reach m (standing reach m s (map asked_by (take k xs))) (get_or xs k d) (get_or (set ys i y) k d)
        go (inl z) = subst (λ (j : ℕ). Made reach m (standing reach m s (map asked_by (take j xs))) (get_or xs j d) (get_or (set ys i y) j d)) (sym z)
            (subst (λ (e : Exchange). Made reach m (standing reach m s (map asked_by (take i xs))) (get_or xs i d) e) (sym (get_or-set_same ys i y d (let z : i < length ys = omega arith in z))) now)
        go (inr ne) = let other : k ≢ i = ne in
            subst (λ (e : Exchange). Made reach m (standing reach m s (map asked_by (take k xs))) (get_or xs k d) e) (sym (get_or-set_other ys i k y d ne)) (so_far k (omega arith) d)

    pub rest_more : (k : ℕ) → i + 1 ≤ k → (d : Exchange) → get_or (set ys i y) k d ≡ get_or xs k d
    rest_more k le d = let ne : k ≢ i = omega arith in get_or-set_other ys i k y d ne ∙ rest k (omega arith) d

    pub model_more : (new : Model) → new ≡ onto reach m at (asked_by x) → new ≡ standing reach m s (map asked_by (take (i + 1) xs))
    model_more new e = e ∙ (λ j. onto reach m (is j) (asked_by (here x j))) ∙ sym (standing_more s xs i x lt)

  -- calls that were each made where those before them lead show the run of the scan over lists
  pub all_shown : (s : Model) (xs ys : List Exchange) → length ys ≡ length xs
      → ((k : ℕ) → k < length xs → (d : Exchange) → Made reach m (standing reach m s (map asked_by (take k xs))) (get_or xs k d) (get_or ys k d))
      → AllShow xs ys (exchanges_from reach m s (map asked_by xs))
  all_shown s [] [] long made = tt
  all_shown s [] (y ∷ ys) long made = absurd (omega arith)
  all_shown s (x ∷ xs) [] long made = absurd (omega arith)
  all_shown s (x ∷ xs) (y ∷ ys) long made =
      let first = made 0 (omega arith) x in (
        (refl, first.call, first.answer, first.list),
        all_shown (onto reach m s (asked_by x)) xs ys (omega arith) (λ k lt d. made (suc k) (omega arith) d),
      )

  -- so they are replayed
  pub replayed : (xs ys : List Exchange) → Lawful m.shape → LawfulMarks m.shape m.mark → Fits m.shape reach → AllShow xs ys (scan_run reach m (map asked_by xs)) → Replayed m xs ys
  replayed xs ys law marks fits shown =
      let right = scan_runs_right reach m law marks fits in
      let run = right.0 (map asked_by xs) in (
        scan_run reach m (map asked_by xs),
        shown,
        run.1,
        λ ws keeps same. (right.1 ws).0 keeps ∙ ap (scan_run reach m) same,
      )

-- How a run goes on by one event more.
use Rattle.std.proofs.Common.{◌≡◌, ℕ, suc, ◌<◌, ◌≤◌, Bool, cond, eqb, ltb, List, [], ◌∷◌, ◌++◌, length, refl, ap, ◌∙◌, subst, arith}
use Rattle.std.proofs.lemmas.Bool.{eq-eqb, ne_eqb}
use Rattle.book.specs.declared.event.Event.{Event}
use Rattle.book.specs.declared.event.Event.TheVariants.{Open, Close, End}
use Rattle.book.specs.Limits.{tags}
use Rattle.book.specs.Catalogue.{follow, nest, after, within, count, opened}
use Rattle.book.specs.Machines.{Machine, Selecting, Entering, Stand, stand, last, others, step, run, plainly, marking}
use Rattle.book.specs.Runs.{RunBegins, RunGoesOn, OneAsideForEach, OneItemMarked}
use Rattle.book.proofs.Nesting.{follow_append, same_open, passed_within, broken_not_within, over_not_within, count_grows}

-- a run counts the items that it enters
pub run_items : (m : Machine) (f : Entering) (e : List Event) (c : Stand) → (follow (step m f) c e).items ≡ follow count c.items e
run_items m f [] c = refl
run_items m f (Open t ∷ e) c = run_items m f e (step m f c (Open t))
run_items m f (Close t ∷ e) c = run_items m f e (step m f c (Close t))
run_items m f (End ∷ e) c = run_items m f e c

-- One event more --------------------------------------------------------------------------------------------------

pub nest_more : (h : List Event) (e : Event) → nest (h ++ (e ∷ [])) ≡ after (nest h) e
nest_more h e = follow_append after (within []) h (e ∷ [])

pub opened_more : (h : List Event) (e : Event) → opened (h ++ (e ∷ [])) ≡ count (opened h) e
opened_more h e = follow_append count 0 h (e ∷ [])

pub run_more : (m : Machine) (f : Entering) (h : List Event) (e : Event) → run m f (h ++ (e ∷ [])) ≡ step m f (run m f h) e
run_more m f h e = follow_append (step m f) (stand m.start [] 0) h (e ∷ [])

pub run_opened : (m : Machine) (f : Entering) (h : List Event) → (run m f h).items ≡ opened h
run_opened m f h = run_items m f h (stand m.start [] 0)

-- The run in which one item alone is entered by mark ------------------------------------------------------------

-- runs that enter alike go alike
follow_alike : (m : Machine) (f g : Entering) (e : List Event) (c : Stand) → ((k s t : ℕ) → k ≤ follow count c.items e → f k s t ≡ g k s t)
    → follow (step m f) c e ≡ follow (step m g) c e
follow_alike m f g [] c same = refl
follow_alike m f g (Open t ∷ e) c same =
    let here = same (suc c.items) c.state t (count_grows e (suc c.items)) in
    follow_alike m f g e (step m f c (Open t)) same ∙ ap (λ (x : ℕ). follow (step m g) (stand x (c.state ∷ c.aside) (suc c.items)) e) here
follow_alike m f g (Close t ∷ e) c same = follow_alike m f g e (step m f c (Close t)) same
follow_alike m f g (End ∷ e) c same = follow_alike m f g e c same

-- an item that is not opened yet: its run is the plain run
pub run_unopened : (m : Selecting) (h : List Event) (i : ℕ) → opened h < i → run m.shape (marking m i) h ≡ run m.shape (plainly m.shape) h
run_unopened m h i lt = follow_alike m.shape (marking m i) (plainly m.shape) h (stand m.shape.start [] 0)
    (λ k s t le. ap (λ (b : Bool). cond b (m.mark s t) (m.shape.enter s t)) (ne_eqb k i (λ e. omega arith)))

-- the item that this event opens, and one that was opened before
pub run_opens_new : (m : Selecting) (h : List Event) (t : ℕ) →
    let c : Stand = run m.shape (plainly m.shape) h in
    run m.shape (marking m (suc (opened h))) (h ++ (Open t ∷ [])) ≡ stand (m.mark c.state t) (c.state ∷ c.aside) (suc (opened h))
run_opens_new m h t =
    let c : Stand = run m.shape (plainly m.shape) h in
    let f : Entering = marking m (suc (opened h)) in
    run_more m.shape f h (Open t)
    ∙ ap (λ (x : Stand). step m.shape f x (Open t)) (run_unopened m h (suc (opened h)) (omega arith))
    ∙ ap (λ (n : ℕ). stand (f (suc n) c.state t) (c.state ∷ c.aside) (suc n)) (run_opened m.shape (plainly m.shape) h)
    ∙ ap (λ (b : Bool). stand (cond b (m.mark c.state t) (m.shape.enter c.state t)) (c.state ∷ c.aside) (suc (opened h))) (eq-eqb (suc (opened h)) (suc (opened h)) refl)

pub run_opens_old : (m : Selecting) (h : List Event) (i t : ℕ) → i ≤ opened h →
    let c : Stand = run m.shape (marking m i) h in
    run m.shape (marking m i) (h ++ (Open t ∷ [])) ≡ stand (m.shape.enter c.state t) (c.state ∷ c.aside) (suc (opened h))
run_opens_old m h i t le =
    let c : Stand = run m.shape (marking m i) h in
    let f : Entering = marking m i in
    run_more m.shape f h (Open t)
    ∙ ap (λ (n : ℕ). stand (f (suc n) c.state t) (c.state ∷ c.aside) (suc n)) (run_opened m.shape f h)
    ∙ ap (λ (b : Bool). stand (cond b (m.mark c.state t) (m.shape.enter c.state t)) (c.state ∷ c.aside) (suc (opened h))) (ne_eqb (suc (opened h)) i (λ e. omega arith))

-- Laws of runs ----------------------------------------------------------------------------------------------------

pub run_begins : RunBegins
run_begins m f = refl

pub run_goes_on : RunGoesOn
run_goes_on m f h t =
    let c : Stand = run m f h in
    let items : c.items ≡ opened h = run_opened m f h in (
      run_more m f h (Open t) ∙ ap (λ (n : ℕ). stand (f (suc n) c.state t) (c.state ∷ c.aside) (suc n)) items,
      λ s ss is.
          run_more m f h (Close t)
          ∙ ap (λ (l : List ℕ). stand (m.back (last l) c.state t) (others l) c.items) is
          ∙ ap (stand (m.back s c.state t) ss) items,
      run_more m f h End,
    )

-- from any place, as many states are set aside as items are open
aside_follows : (m : Machine) (f : Entering) (e : List Event) (c : Stand) (us ts : List ℕ) → length c.aside ≡ length us → follow after (within us) e ≡ within ts
    → length (follow (step m f) c e).aside ≡ length ts
aside_follows m f [] c us ts same at = same ∙ ap length (same_open us ts at)
aside_follows m f (Open t ∷ e) c us ts same at =
    aside_follows m f e (step m f c (Open t)) (t ∷ us) ts (ap suc same) (passed_within (ltb t tags) (t ∷ us) e ts at)
aside_follows m f (Close t ∷ e) c [] ts same at = absurd (broken_not_within e ts at)
aside_follows m f (Close t ∷ e) c (u ∷ us) ts same at =
    aside_follows m f e (step m f c (Close t)) us ts (one_less c.aside u us same) (passed_within (eqb u t) us e ts at)
  where
    one_less : (ss : List ℕ) (u : ℕ) (us : List ℕ) → length ss ≡ length (u ∷ us) → length (others ss) ≡ length us
    one_less [] u us is = absurd (omega arith)
    one_less (s ∷ ss) u us is = omega arith
aside_follows m f (End ∷ e) c [] ts same at = absurd (over_not_within e ts at)
aside_follows m f (End ∷ e) c (u ∷ us) ts same at = absurd (broken_not_within e ts at)

pub one_aside_for_each : OneAsideForEach
one_aside_for_each m f h ts at = aside_follows m f h (stand m.start [] 0) [] ts refl at

pub one_item_marked : OneItemMarked
one_item_marked m h i t = (
  run_unopened m h i,
  λ is. subst (λ (j : ℕ). run m.shape (marking m j) (h ++ (Open t ∷ [])) ≡ stand (m.mark (run m.shape (plainly m.shape) h).state t) ((run m.shape (plainly m.shape) h).state ∷ (run m.shape (plainly m.shape) h).aside) j) is (run_opens_new m h t),
  run_opens_old m h i t,
)

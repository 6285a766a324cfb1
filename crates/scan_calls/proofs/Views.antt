-- The runs that rows of cells stand for, as an item opens or closes. Assumes nothing.
use Rattle.std.proofs.Common.{◌≡◌, ℕ, zero, suc, ◌+◌, ◌-◌, ◌<◌, ◌≤◌, Bool, true, false, cond, ◌≢◌, List, [], ◌∷◌, ◌++◌, map, length, get_or, take, drop, filter, sym, refl, ap, ◌∙◌, subst, arith, length-append, length-drop, length-take}
use lib.ListN.{length-map}
use Rattle.std.proofs.lemmas.List.Elements.{filter-append}
use Rattle.std.proofs.lemmas.List.{take_more, drop-map, map-append}
use Rattle.std.proofs.lemmas.Simd.{map-map}
use Rattle.std.proofs.lemmas.List.Sums.{length-filter, count_by-le-length}
use Rattle.book.specs.declared.event.Event.{Event}
use Rattle.book.specs.declared.event.Event.TheVariants.{Open, Close, End}
use Rattle.book.specs.declared.answer.Order.{Order}
use Rattle.book.specs.Machines.{Machine}
use Rattle.scan.specs.Tracks.{Level, track, entered, left, moved}
use Rattle.scan.specs.Model.{Holding, onward, is_due, is_held, note}
use Rattle.cells.specs.declared.cell.Cell.{Cell}
use Rattle.cells.specs.Cells.{Seen, seen, cell_at, entered_seen, left_seen, beside_seen}
use Rattle.scan_calls.specs.declared.scanning.Rows.{Rows}
use Rattle.scan_calls.specs.Rows.{Only, around, holding, held_in, base_view, held_view, row_of, item_cells, base_of, held_of, holding_new, held_child, cell_due, cell_held, cell_note, Settled}

-- Lists of cells --------------------------------------------------------------------------------------------------

pub pointwise : {X : Type 0} (f g : Cell → X) (n : ℕ) (xs ys : List Cell) → n ≤ length xs → n ≤ length ys
    → ((k : ℕ) → k < n → f (cell_at ys k) ≡ g (cell_at xs k)) → map f (take n ys) ≡ map g (take n xs)
pointwise f g zero xs ys p q same = refl
pointwise f g (suc n) [] ys p q same = absurd (omega arith)
pointwise f g (suc n) (x ∷ xs) [] p q same = absurd (omega arith)
pointwise f g (suc n) (x ∷ xs) (y ∷ ys) p q same = λ i. same 0 (omega arith) i ∷ pointwise f g n xs ys (omega arith) (omega arith) (λ k lt. same (suc k) (omega arith)) i

-- the same behind the first
rest_like : {X : Type 0} (f g : Cell → X) (n : ℕ) (xs ys : List Cell) → n ≤ length xs → n ≤ length ys
    → ((k : ℕ) → k < n → f (cell_at ys k) ≡ g (cell_at xs k)) → map f (drop 1 (take n ys)) ≡ map g (drop 1 (take n xs))
rest_like f g n xs ys p q same = sym (drop-map f 1 (take n ys)) ∙ ap (drop 1) (pointwise f g n xs ys p q same) ∙ drop-map g 1 (take n xs)

-- cells that are the same one by one
pub take_like : (n : ℕ) (xs ys : List Cell) → n ≤ length xs → n ≤ length ys → ((k : ℕ) → k < n → cell_at ys k ≡ cell_at xs k) → take n ys ≡ take n xs
take_like zero xs ys p q same = refl
take_like (suc n) [] ys p q same = absurd (omega arith)
take_like (suc n) (x ∷ xs) [] p q same = absurd (omega arith)
take_like (suc n) (x ∷ xs) (y ∷ ys) p q same = λ i. same 0 (omega arith) i ∷ take_like n xs ys (omega arith) (omega arith) (λ k lt. same (suc k) (omega arith)) i

map_like : {X Y : Type 0} (f g : X → Y) → ((x : X) → f x ≡ g x) → (xs : List X) → map f xs ≡ map g xs
map_like f g same [] = refl
map_like f g same (x ∷ xs) = λ i. same x i ∷ map_like f g same xs i

-- one cell more behind the first
rest_more : {X : Type 0} (f : Cell → X) (n : ℕ) (ys : List Cell) → 1 ≤ n → n < length ys → map f (drop 1 (take (n + 1) ys)) ≡ map f (drop 1 (take n ys)) ++ (f (cell_at ys n) ∷ [])
rest_more f n [] some lt = absurd (omega arith)
rest_more f zero (y ∷ ys) some lt = absurd (omega arith)
rest_more f (suc n) (y ∷ ys) some lt =
    let up : suc n + 1 ≡ suc (n + 1) = omega arith in
    ap (λ (k : ℕ). map f (drop 1 (take k (y ∷ ys)))) up
    ∙ ap (map f) (take_more ys n _ (omega arith))
    ∙ map-append f (take n ys) (cell_at ys n ∷ [])

-- a filter of cells is a filter of the items that they stand for
pub kept_map : {X : Type 0} (g : Cell → X) (p : Cell → Bool) (q : X → Bool) → ((c : Cell) → p c ≡ q (g c)) → (cs : List Cell) → map g (filter p cs) ≡ filter q (map g cs)
kept_map g p q same [] = refl
kept_map g p q same (c ∷ cs) = both (p c) (kept_map g p q same cs) ∙ ap (λ (x : Bool). cond x (g c ∷ filter q (map g cs)) (filter q (map g cs))) (same c)
  where
    both : (b : Bool) → map g (filter p cs) ≡ filter q (map g cs) → map g (cond b (c ∷ filter p cs) (filter p cs)) ≡ cond b (g c ∷ filter q (map g cs)) (filter q (map g cs))
    both true ih = ap (λ r. g c ∷ r) ih
    both false ih = ih

-- Levels ----------------------------------------------------------------------------------------------------------

-- what is around a cell of level d lies in the rows before d
pub around_same : (rows later : List (List Cell)) (d : ℕ) → ((j : ℕ) → j < d → get_or later j [] ≡ get_or rows j []) → (k : ℕ) → around later d k ≡ around rows d k
around_same rows later zero same k = refl
around_same rows later (suc d) same k =
    let row : get_or later d [] ≡ get_or rows d [] = same d (omega arith) in
    ap (λ (r : List Cell). (seen (cell_at r k)).level ∷ around later d (cell_at r k).parent) row
    ∙ ap (λ (ls : List Level). (seen (cell_at (get_or rows d []) k)).level ∷ ls) (around_same rows later d (λ j lt. same j (omega arith)) (cell_at (get_or rows d []) k).parent)

pub holding_same : (rows later : List (List Cell)) (d : ℕ) → ((j : ℕ) → j < d → get_or later j [] ≡ get_or rows j []) → (s : Seen) → holding later d s ≡ holding rows d s
holding_same rows later d same s = λ i. record { item = s.item; since = s.since; track = track s.level (around_same rows later d same s.parent i) }

-- rows of which only one above has changed
pub below_only : (rows later : List (List Cell)) (e d : ℕ) → d ≤ e → Only e rows later → (j : ℕ) → j < d → get_or later j [] ≡ get_or rows j []
below_only rows later e d le only j lt = only j (let z : j ≢ e = omega arith in z)

-- Judging ---------------------------------------------------------------------------------------------------------

pub same_due : (m : Machine) (rows : List (List Cell)) (d : ℕ) (e : Event) (c : Cell) → cell_due m e c ≡ is_due m e (held_in rows d c)
same_due m rows d (Open t) c = refl
same_due m rows d (Close t) c = refl
same_due m rows d End c = refl

pub same_held : (m : Machine) (rows : List (List Cell)) (d : ℕ) (e : Event) (c : Cell) → cell_held m e c ≡ is_held m e (held_in rows d c)
same_held m rows d (Open t) c = refl
same_held m rows d (Close t) c = refl
same_held m rows d End c = refl

pub same_notes : (rows : List (List Cell)) (d event : ℕ) (cs : List Cell) → map (cell_note event) cs ≡ map (note event) (map (held_in rows d) cs)
same_notes rows d event [] = refl
same_notes rows d event (c ∷ cs) = ap (λ (r : List Order). cell_note event c ∷ r) (same_notes rows d event cs)

-- An item opens ---------------------------------------------------------------------------------------------------

module _ (reach : ℕ → ℕ → Bool) (m : Machine) (t : ℕ) (rows later : List (List Cell)) (d : ℕ) where
  abbrev cells : List Cell
  cells = get_or rows d []

  module _ (only : Only (suc d) rows later) where
    child : (k : ℕ) (s : Seen) → s ≡ entered_seen reach m k t (seen (cell_at cells k)) → holding later (suc d) s ≡ onward reach m (Open t) (held_in rows d (cell_at cells k))
    child k s is =
        ap (holding later (suc d)) is
        ∙ holding_same rows later (suc d) (below_only rows later (suc d) (suc d) (omega arith) only) (entered_seen reach m k t (seen (cell_at cells k)))

    fresh_child : (item since q : ℕ) (s : Seen) → s ≡ beside_seen item since q (entered_seen reach m 0 t (seen (cell_at cells 0)))
        → holding later (suc d) s ≡ holding_new item since (entered reach m t q (base_view rows d))
    fresh_child item since q s is =
        ap (holding later (suc d)) is
        ∙ holding_same rows later (suc d) (below_only rows later (suc d) (suc d) (omega arith) only) (beside_seen item since q (entered_seen reach m 0 t (seen (cell_at cells 0))))

  -- at level e, whose first n cells are those of level d entered, and then comes one for the new item
  abbrev Opens : ℕ → ℕ → ℕ → ℕ → ℕ → Type 0
  Opens n item since q e = Only e rows later → n < length (get_or later e [])
      → ((k : ℕ) → k < n → seen (cell_at (get_or later e []) k) ≡ entered_seen reach m k t (seen (cell_at cells k)))
      → seen (cell_at (get_or later e []) n) ≡ beside_seen item since q (entered_seen reach m 0 t (seen (cell_at cells 0)))
      → (base_view later e ≡ moved reach m (Open t) (base_view rows d))
      × (held_view later e (n + 1) ≡ map (onward reach m (Open t)) (held_view rows d n) ++ (holding_new item since (entered reach m t q (base_view rows d)) ∷ []))

  opens_at : (n item since q : ℕ) → 1 ≤ n → n ≤ length cells → Opens n item since q (suc d)
  opens_at n item since q some long only room each new = (
    ap (λ (x : Holding). x.track) (child only 0 (seen (cell_at (get_or later (suc d) []) 0)) (each 0 (omega arith))),
    rest_more (held_in later (suc d)) n (get_or later (suc d) []) some room
        ∙ (λ i. rest_like (held_in later (suc d)) (λ c. onward reach m (Open t) (held_in rows d c)) n cells (get_or later (suc d) []) long (omega arith)
        (λ k lt. child only k (seen (cell_at (get_or later (suc d) []) k)) (each k lt)) i
        ++ (fresh_child only item since q (seen (cell_at (get_or later (suc d) []) n)) new i ∷ []))
        ∙ ap (λ (r : List Holding). r ++ (holding_new item since (entered reach m t q (base_view rows d)) ∷ [])) (sym (map-map (onward reach m (Open t)) (held_in rows d) (drop 1 (take n cells)))),
  )

  pub opens : (n item since q : ℕ) → 1 ≤ n → n ≤ length cells → Opens n item since q (d + 1)
  opens n item since q some long = let up : suc d ≡ d + 1 = omega arith in subst (Opens n item since q) up (opens_at n item since q some long)

-- how many items would be held: those of the cells, and the new one h
pub held_count : (reach : ℕ → ℕ → Bool) (m : Machine) (t : ℕ) (rows : List (List Cell)) (d n : ℕ) (h : Holding)
    → length (filter (is_held m (Open t)) (map (onward reach m (Open t)) (held_view rows d n) ++ (h ∷ [])))
    ≡ length (filter (held_child reach m t) (drop 1 (take n (get_or rows d [])))) + cond (is_held m (Open t) h) 1 0
held_count reach m t rows d n h =
    ap length (filter-append (is_held m (Open t)) (map (onward reach m (Open t)) (held_view rows d n)) (h ∷ []))
    ∙ length-append (filter (is_held m (Open t)) (map (onward reach m (Open t)) (held_view rows d n))) (filter (is_held m (Open t)) (h ∷ []))
    ∙ (λ i. old i + one (is_held m (Open t) h) i)
  where
    old : length (filter (is_held m (Open t)) (map (onward reach m (Open t)) (held_view rows d n))) ≡ length (filter (held_child reach m t) (drop 1 (take n (get_or rows d []))))
    old = let cs : List Cell = drop 1 (take n (get_or rows d [])) in
        let g : Cell → Holding = (λ c. onward reach m (Open t) (held_in rows d c)) in
        ap (λ (hs : List Holding). length (filter (is_held m (Open t)) hs)) (map-map (onward reach m (Open t)) (held_in rows d) cs)
        ∙ ap length (sym (kept_map g (held_child reach m t) (is_held m (Open t)) (λ c. refl) cs))
        ∙ length-map (filter (held_child reach m t) cs) g

    one : (b : Bool) → length (cond b (h ∷ []) []) ≡ cond b 1 0
    one true = refl
    one false = refl

-- no more items would be held than cells are in use
pub few_held : (reach : ℕ → ℕ → Bool) (m : Machine) (t : ℕ) (rows : List (List Cell)) (d n : ℕ) → 1 ≤ n → (h : Holding)
    → length (filter (is_held m (Open t)) (map (onward reach m (Open t)) (held_view rows d n) ++ (h ∷ []))) ≤ n
few_held reach m t rows d n some h =
    let cs : List Cell = drop 1 (take n (get_or rows d [])) in
    let a = held_count reach m t rows d n h in
    let b : length (filter (held_child reach m t) cs) ≤ length cs = kept_few (held_child reach m t) cs in
    let k : length cs ≤ n - 1 = (let x = length-drop 1 (take n (get_or rows d [])) in let y = length-take n (get_or rows d []) in omega arith) in
    go (is_held m (Open t) h) a b k
  where
    kept_few : (p : Cell → Bool) (cs : List Cell) → length (filter p cs) ≤ length cs
    kept_few p cs = subst (λ (k : ℕ). k ≤ length cs) (sym (length-filter p cs)) (count_by-le-length p cs)

    go : (b : Bool) → length (filter (is_held m (Open t)) (map (onward reach m (Open t)) (held_view rows d n) ++ (h ∷ []))) ≡ length (filter (held_child reach m t) (drop 1 (take n (get_or rows d [])))) + cond b 1 0
        → length (filter (held_child reach m t) (drop 1 (take n (get_or rows d [])))) ≤ length (drop 1 (take n (get_or rows d []))) → length (drop 1 (take n (get_or rows d []))) ≤ n - 1
        → length (filter (is_held m (Open t)) (map (onward reach m (Open t)) (held_view rows d n) ++ (h ∷ []))) ≤ n
    go true e f l = omega arith
    go false e f l = omega arith

-- the end leaves runs where they are
pub stays : (reach : ℕ → ℕ → Bool) (m : Machine) (xs : List Holding) → map (onward reach m End) xs ≡ xs
stays reach m [] = refl
stays reach m (x ∷ xs) = ap (λ (r : List Holding). x ∷ r) (stays reach m xs)

-- Items are judged ------------------------------------------------------------------------------------------------

-- the cells cs, of items at level d, are judged, and the cells kept stay
settled : (m : Machine) (e : Event) (event : ℕ) (rows : List (List Cell)) (d : ℕ) (cs kept : List Cell) (items stay : List Holding) (before later : List Order) (sent left : ℕ)
    → map (held_in rows d) cs ≡ items → stay ≡ map (held_in rows d) kept → length kept ≡ left - 1
    → sent ≡ length (filter (cell_due m e) cs) → kept ≡ filter (cell_held m e) cs → later ≡ map (cell_note event) (filter (cell_due m e) cs) ++ drop sent before
    → Settled m e event items before later sent stay left
settled m e event rows d cs kept items stay before later sent left are view count s k f =
    let due : map (held_in rows d) (filter (cell_due m e) cs) ≡ filter (is_due m e) items = kept_map (held_in rows d) (cell_due m e) (is_due m e) (same_due m rows d e) cs ∙ ap (filter (is_due m e)) are in
    record {
      due = s ∙ sym (length-map (filter (cell_due m e) cs) (held_in rows d)) ∙ ap length due;
      list = f ∙ ap (λ (os : List Order). os ++ drop sent before) (same_notes rows d event (filter (cell_due m e) cs) ∙ ap (map (note event)) due);
      held = view ∙ ap (map (held_in rows d)) k ∙ kept_map (held_in rows d) (cell_held m e) (is_held m e) (same_held m rows d e) cs ∙ ap (filter (is_held m e)) are;
      cells = ap length view ∙ length-map kept (held_in rows d) ∙ count;
    }

-- in the row of level d, which alone has changed
pub settled_at : (m : Machine) (call : Event) (event : ℕ) (rows later : List (List Cell)) (d e : ℕ) → e ≤ d → Only d rows later → (cs kept : List Cell) (before orders : List Order) (sent left : ℕ)
    → length kept ≡ left - 1 → sent ≡ length (filter (cell_due m call) cs) → kept ≡ filter (cell_held m call) cs → orders ≡ map (cell_note event) (filter (cell_due m call) cs) ++ drop sent before
    → Settled m call event (map (held_in rows e) cs) before orders sent (map (held_in later e) kept) left
settled_at m call event rows later d e le only cs kept before orders sent left count s k f =
    settled m call event rows e cs kept (map (held_in rows e) cs) (map (held_in later e) kept) before orders sent left refl
    (map_like (held_in later e) (held_in rows e) (λ c. holding_same rows later e (below_only rows later d e le only) (seen c)) kept) count s k f

-- where the rows stand
module _ (old new : Rows) (same : new.depth ≡ old.depth) where
  pub settled_here : (m : Machine) (call : Event) (event : ℕ) (before orders : List Order) (sent : ℕ)
      → ((e : ℕ) → e ≤ old.depth → Settled m call event (map (held_in old.cells e) (item_cells old)) before orders sent (map (held_in new.cells e) (item_cells new)) new.count)
      → Settled m call event (held_of old) before orders sent (held_of new) new.count
  settled_here m call event before orders sent settles =
      subst (λ (e : ℕ). Settled m call event (map (held_in old.cells e) (item_cells old)) before orders sent (held_of new) new.count) same (settles new.depth (omega arith))

  pub settled_base : Only old.depth old.cells new.cells → cell_at (row_of new) 0 ≡ cell_at (row_of old) 0 → base_of new ≡ base_of old
  settled_base only is =
      ap (λ (c : Cell). (held_in new.cells new.depth c).track) is
      ∙ ap (λ (e : ℕ). (held_in new.cells e (cell_at (row_of old) 0)).track) same
      ∙ ap (λ (x : Holding). x.track) (holding_same old.cells new.cells old.depth (below_only old.cells new.cells old.depth old.depth (omega arith) only) (seen (cell_at (row_of old) 0)))

-- An item closes --------------------------------------------------------------------------------------------------

-- The runs of level d + 1 leave their item, in the row of that level; the items are judged there; and then the cells kept
-- become those of level d.
module _ (reach : ℕ → ℕ → Bool) (m : Machine) (t : ℕ) (old left judged later : Rows) (d : ℕ) (up : old.depth ≡ suc d) (down : later.depth ≡ d)
    (at : left.depth ≡ old.depth) (still : judged.depth ≡ left.depth) (all : left.count ≡ old.count) (kept : later.count ≡ judged.count)
    (left_only : Only old.depth old.cells left.cells) (judged_only : Only left.depth left.cells judged.cells) (later_only : Only d judged.cells later.cells)
    (left_cells : (k : ℕ) → k < old.count → seen (cell_at (row_of left) k) ≡ left_seen m t (get_or old.cells d []) (seen (cell_at (row_of old) k)))
    (lowered : (k : ℕ) → k < judged.count → cell_at (row_of later) k ≡ cell_at (row_of judged) k) where
  behind : (s c : Seen) → s ≡ left_seen m t (get_or old.cells d []) c → holding left.cells d s ≡ onward reach m (Close t) (holding old.cells old.depth c)
  behind s c is =
      ap (holding left.cells d) is
      ∙ holding_same old.cells left.cells d (below_only old.cells left.cells old.depth d (omega arith) left_only) (left_seen m t (get_or old.cells d []) c)
      ∙ ap (λ (e : ℕ). onward reach m (Close t) (holding old.cells e c)) (sym up)

  below : (s : Seen) → holding later.cells d s ≡ holding judged.cells d s
  below s = holding_same judged.cells later.cells d (below_only judged.cells later.cells d d (omega arith) later_only) s

  before : (s : Seen) → holding judged.cells d s ≡ holding left.cells d s
  before s = holding_same left.cells judged.cells d (below_only left.cells judged.cells left.depth d (omega arith) judged_only) s

  pub closed_base : 1 ≤ old.count → 1 ≤ judged.count → cell_at (row_of judged) 0 ≡ cell_at (row_of left) 0 → base_of later ≡ moved reach m (Close t) (base_of old)
  closed_base some one is =
      ap (λ (e : ℕ). (held_in later.cells e (cell_at (row_of later) 0)).track) down
      ∙ ap (λ (c : Cell). (held_in later.cells d c).track) (lowered 0 (omega arith) ∙ is)
      ∙ ap (λ (x : Holding). x.track) (below (seen (cell_at (row_of left) 0)) ∙ before (seen (cell_at (row_of left) 0)) ∙ behind (seen (cell_at (row_of left) 0)) (seen (cell_at (row_of old) 0)) (left_cells 0 (omega arith)))

  pub closed_settled : (event : ℕ) (before orders : List Order) (sent : ℕ) → old.count ≤ length (row_of old) → old.count ≤ length (row_of left) → judged.count ≤ length (row_of judged) → judged.count ≤ length (row_of later)
      → ((e : ℕ) → e ≤ left.depth → Settled m (Close t) event (map (held_in left.cells e) (item_cells left)) before orders sent (map (held_in judged.cells e) (item_cells judged)) judged.count)
      → Settled m (Close t) event (map (onward reach m (Close t)) (held_of old)) before orders sent (held_of later) later.count
  closed_settled event orders_before orders sent long wide room here settles =
      let items : map (held_in left.cells d) (item_cells left) ≡ map (onward reach m (Close t)) (held_of old) =
      ap (λ (n : ℕ). map (held_in left.cells d) (drop 1 (take n (row_of left)))) all
      ∙ rest_like (held_in left.cells d) (λ c. onward reach m (Close t) (held_in old.cells old.depth c)) old.count (row_of old) (row_of left) long wide
      (λ k lt. behind (seen (cell_at (row_of left) k)) (seen (cell_at (row_of old) k)) (left_cells k lt))
      ∙ sym (map-map (onward reach m (Close t)) (held_in old.cells old.depth) (item_cells old)) in
      let stay : map (held_in judged.cells d) (item_cells judged) ≡ held_of later =
      map_like (held_in judged.cells d) (held_in later.cells d) (λ c. sym (below (seen c))) (item_cells judged)
      ∙ ap (λ (cs : List Cell). map (held_in later.cells d) (drop 1 cs)) (sym (take_like judged.count (row_of judged) (row_of later) room here lowered))
      ∙ (λ i. map (held_in later.cells (sym down i)) (drop 1 (take (sym kept i) (row_of later)))) in
      subst (λ (hs : List Holding). Settled m (Close t) event hs orders_before orders sent (held_of later) later.count) items
      (subst (λ (hs : List Holding). Settled m (Close t) event (map (held_in left.cells d) (item_cells left)) orders_before orders sent hs later.count) stay
      (subst (λ (n : ℕ). Settled m (Close t) event (map (held_in left.cells d) (item_cells left)) orders_before orders sent (map (held_in judged.cells d) (item_cells judged)) n) (sym kept)
      (settles d (omega arith))))

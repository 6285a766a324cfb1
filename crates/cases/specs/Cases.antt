-- The worked cases as one statement.
use Rattle.std.specs.Prelude.{◌≡◌, ℕ, suc, ◌<◌, ◌⊎◌, List, [], ◌∷◌, length, take, replicate, Ok}
use Rattle.book.specs.declared.event.Event.{Event}
use Rattle.book.specs.declared.event.Event.TheVariants.{Open, Close, End}
use Rattle.book.specs.declared.answer.Refusal.{Refusal}
use Rattle.book.specs.Limits.{least_room}
use Rattle.book.specs.Catalogue.{Catalogue}
use Rattle.book.specs.Machines.{Machine, Marks, Selecting, Lawful, LawfulMarks, selecting}
use Rattle.book.specs.Orders.{Due, Dropped, Held}
use Rattle.book.specs.ItemLists.{Lists, Counts}
use Rattle.book.specs.Refusals.{number}
use Rattle.book.specs.Checks.{Accepts, Refuses}
use Rattle.book.specs.Promise.{NewlyDue, order}
use Rattle.book_file.specs.Files.{reading}
use Rattle.kinds.specs.Opposite.{opposite}
use Rattle.kinds.specs.Both.{both, both_marks, ProductFits}
use Rattle.kinds.specs.KindCases.{KindCases, either_way}
use Rattle.cases.specs.Seal.{seal_bytes, seal_file, seal, boxed}

-- Words -----------------------------------------------------------------------------------------------------------

-- after the events h just these items are held, these due and these dropped, each list by rising number
abbrev pub ItemsAre : Selecting → List Event → List ℕ → List ℕ → List ℕ → Type 0
ItemsAre m h held due dropped = Lists (Held m h) held × Lists (Due m h) due × Lists (Dropped m h) dropped

-- of the events c, the n-th is the first after which it holds
abbrev pub FirstAt : (List Event → Type 0) → List Event → ℕ → Type 0
FirstAt Holds c n = Holds (take n c) × ((k : ℕ) → k < n → Holds (take k c) → ⊥)

-- of the events c, after the n-th so many items are held, and so on, event by event
abbrev pub HeldNumbers : Selecting → List Event → ℕ → List ℕ → Type 0
HeldNumbers m c n [] = Unit {0}
HeldNumbers m c n (k ∷ ks) = Counts (Held m (take n c)) k × HeldNumbers m c (suc n) ks

-- The seal book ---------------------------------------------------------------------------------------------------

pub record SealCases : Type 0 where
  -- the file is read as these tables and names
  pub size : length seal_bytes ≡ 95
  pub read : reading seal_bytes ≡ Ok seal_file
  -- The nine events are a whole catalogue: the box is item 1, the reels are 2 and 4, the seal is 3.
  pub whole : Catalogue boxed
  -- what is held, due and dropped after each event
  pub after_1 : ItemsAre seal (take 1 boxed) [] [] (1 ∷ [])
  pub after_2 : ItemsAre seal (take 2 boxed) (2 ∷ []) [] (1 ∷ [])
  pub after_3 : ItemsAre seal (take 3 boxed) (2 ∷ []) [] (1 ∷ [])
  pub after_4 : ItemsAre seal (take 4 boxed) [] (2 ∷ []) (1 ∷ 3 ∷ [])
  pub after_5 : ItemsAre seal (take 5 boxed) [] (2 ∷ []) (1 ∷ 3 ∷ [])
  pub after_6 : ItemsAre seal (take 6 boxed) (4 ∷ []) (2 ∷ []) (1 ∷ 3 ∷ [])
  pub after_7 : ItemsAre seal (take 7 boxed) (4 ∷ []) (2 ∷ []) (1 ∷ 3 ∷ [])
  pub after_8 : ItemsAre seal (take 8 boxed) [] (2 ∷ []) (1 ∷ 3 ∷ 4 ∷ [])
  pub after_9 : ItemsAre seal (take 9 boxed) [] (2 ∷ []) (1 ∷ 3 ∷ 4 ∷ [])
  -- how many are held after each
  pub numbers_held : HeldNumbers seal boxed 1 (0 ∷ 1 ∷ 1 ∷ 0 ∷ 0 ∷ 1 ∷ 1 ∷ 0 ∷ 0 ∷ [])
  -- the first reel is due at the open of the seal; the second is dropped at the close of the box
  pub ordered_at : FirstAt (λ h. Due seal h 2) boxed 4
  pub dropped_at : FirstAt (λ h. Dropped seal h 4) boxed 8
  -- so a scan orders it, and no other item, at event 4, with this record
  pub orders : Lists (NewlyDue seal (take 3 boxed) (Open 2)) (2 ∷ [])
  pub recorded : order (take 4 boxed) 2 ≡ record { item = 2; opened = 2; ordered = 4 }
  -- plausible but false: the first reel is due only at the close of the seal
  pub not_at_close : FirstAt (λ h. Due seal h 2) boxed 5 → ⊥

-- Layers over the seal book ---------------------------------------------------------------------------------------

-- the opposite of the seal book; both over it and the seal book; and the opposite of that
abbrev pub unseal : Selecting
unseal = selecting (opposite seal.shape) seal.mark

abbrev pub seal_and_not : Selecting
seal_and_not = selecting (both unseal.shape seal.shape) (both_marks unseal.shape seal.shape unseal.mark seal.mark)

abbrev pub seal_or_not : Selecting
seal_or_not = either_way seal.shape seal.mark

-- what is dropped by both over two books is dropped by one of the two
abbrev pub HalvesDecide : Type 0
HalvesDecide =
    (m n : Machine) (x y : Marks) → Lawful m → Lawful n → LawfulMarks m x → LawfulMarks n y → ProductFits m n →
    (h : List Event) (i : ℕ) → Dropped (selecting (both m n) (both_marks m n x y)) h i → Dropped (selecting m x) h i ⊎ Dropped (selecting n y) h i

pub record LayerCases : Type 0 where
  -- each item is due at its open
  pub item_1 : FirstAt (λ h. Due seal_or_not h 1) boxed 1
  pub item_2 : FirstAt (λ h. Due seal_or_not h 2) boxed 2
  pub item_3 : FirstAt (λ h. Due seal_or_not h 3) boxed 4
  pub item_4 : FirstAt (λ h. Due seal_or_not h 4) boxed 6
  -- at the opens of the two reels the both drops the reel, while each half holds it
  pub both_2 : Dropped seal_and_not (take 2 boxed) 2 × Held unseal (take 2 boxed) 2 × Held seal (take 2 boxed) 2
  pub both_4 : Dropped seal_and_not (take 6 boxed) 4 × Held unseal (take 6 boxed) 4 × Held seal (take 6 boxed) 4
  -- plausible but false: a both is decided by each half by itself
  pub not_by_halves : HalvesDecide → ⊥

-- Calls of a scan -------------------------------------------------------------------------------------------------

-- the call e, lent a list that is just long enough, is refused after the events h with the number n
abbrev pub RefusedWith : Selecting → List Event → Event → ℕ → Type 0
RefusedWith m h e n = (r : Refusal) × Refuses m h least_room e r × (number r ≡ n)

pub record CallCases (m : Selecting) : Type 0 where
  -- inside 63 items a 64th is opened; a 65th gets 5
  pub sixty_fourth : Accepts m (replicate 63 (Open 0)) least_room (Open 0)
  pub sixty_fifth : RefusedWith m (replicate 64 (Open 0)) (Open 0) 5
  -- the end may come first, and orders nothing; then an open gets 2
  pub end_first : Accepts m [] least_room End
  pub no_orders : Lists (NewlyDue m [] End) []
  pub open_after : (t : ℕ) → RefusedWith m (End ∷ []) (Open t) 2
  -- a close of tag 2 gets 9 where an item of tag 1 is open, and 8 where none is
  pub other_open : RefusedWith m (Open 1 ∷ []) (Close 2) 9
  pub none_open : RefusedWith m [] (Close 2) 8

-- All together ----------------------------------------------------------------------------------------------------

-- The path book of child any and descendant 1, and the widths of a both (KindCases); the seal book on its catalogue;
-- the opposite over both over its opposite and itself; and single calls on any selecting book with states.
abbrev pub WorkedCases : Type 0
WorkedCases = KindCases × SealCases × LayerCases × ((m : Selecting) → 0 < m.shape.width → CallCases m)

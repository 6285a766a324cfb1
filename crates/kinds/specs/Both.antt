-- Two books as one: its meaning, its rules of range, and its laws.
use Rattle.std.specs.Prelude.{◌≡◌, ℕ, Bool, true, false, if◌then◌else◌, Option, Some, None, ◌+◌, ◌-◌, ◌*◌, ◌/◌, ◌%◌, ◌<◌, ◌≤◌, ◌&&◌, ◌⊎◌, List, nat_le, nat_lt}
use Rattle.std.proofs.Common.{inl, inr, arith}
use Rattle.std.proofs.Math.Arith.{digits_lt}
use Rattle.std.proofs.lemmas.Bool.Decides.{nat_tests}
use Rattle.book.specs.Limits.{tags, most_states}
use Rattle.book.specs.declared.event.Event.{Event}
use Rattle.book.specs.Machines.{Machine, Marks, Lawful, LawfulMarks, selecting, accepted, selected}

-- Meaning ---------------------------------------------------------------------------------------------------------

-- the product of the widths, or 0 if that exceeds the limit
abbrev pub both_width : ℕ → ℕ → ℕ
both_width v w = if nat_le (v * w) most_states then v * w else 0

-- the state whose parts are a and b, where the second part has w states
abbrev pub joined : ℕ → ℕ → ℕ → ℕ
joined w a b = a * w + b

-- the parts of a state, if it is below the width
abbrev pub parts_of : ℕ → ℕ → ℕ → Option (ℕ × ℕ)
parts_of v w s = if nat_lt s (both_width v w) then Some (s / w, s % w) else None

-- two answers to a question about a state and a tag, as one
abbrev pub by_parts : ℕ → ℕ → (ℕ → ℕ → ℕ) → (ℕ → ℕ → ℕ) → ℕ → ℕ → ℕ
by_parts v w f g s t = if nat_lt s (both_width v w) then joined w (f (s / w) t) (g (s % w) t) else 0

-- It goes part by part, and accepts if both parts do.
abbrev pub both : Machine → Machine → Machine
both m n =
    record {
      width = both_width m.width n.width;
      start = if nat_lt 0 (both_width m.width n.width) then joined n.width m.start n.start else 0;
      enter = by_parts m.width n.width m.enter n.enter;
      back = λ s q t. if nat_lt s (both_width m.width n.width) && nat_lt q (both_width m.width n.width)
          then joined n.width (m.back (s / n.width) (q / n.width) t) (n.back (s % n.width) (q % n.width) t) else 0;
      accepts = λ s. nat_lt s (both_width m.width n.width) && (m.accepts (s / n.width) && n.accepts (s % n.width));
    }

abbrev pub both_marks : Machine → Machine → Marks → Marks → Marks
both_marks m n x y = by_parts m.width n.width x y

-- Rules of range --------------------------------------------------------------------------------------------------

-- The proofs stand here and not in proofs/, since the impl names `both_lawful` for the law of its trait, which may name
-- nothing of its own crate outside specs/; `both_marks_lawful`, for the method `marked`, stands beside it.

pub both_narrow : (v w : ℕ) → both_width v w ≤ most_states
both_narrow v w = grind (arith, nat_tests)

-- a state whose parts are within their widths is within the product, if there is one, whichever test tells that there is
pub joined_below : (b : Bool) (v w x y s : ℕ) → x ≤ v - 1 → y ≤ w - 1 → s < (if b then v * w else 0) → joined w x y ≤ (if b then v * w else 0) - 1
joined_below true v w x y s hx hy h =
    let less = digits_lt {q = x} {m = v} {r = y} {c = w} in
    grind (arith, nat_tests, less)
joined_below false v w x y s hx hy h = absurd (omega arith)

pub joined_within : (v w x y s : ℕ) → x ≤ v - 1 → y ≤ w - 1 → s < both_width v w → joined w x y ≤ both_width v w - 1
joined_within v w x y s = joined_below (nat_le (v * w) most_states) v w x y s

module _ (v w : ℕ) (f g : ℕ → ℕ → ℕ) where
  pub by_parts_within : ((s t : ℕ) → f s t ≤ v - 1) → ((s t : ℕ) → g s t ≤ w - 1) → (s t : ℕ) → by_parts v w f g s t ≤ both_width v w - 1
  by_parts_within hf hg s t =
      let both_within = joined_within v w (f (s / w) t) (g (s % w) t) s (hf (s / w) t) (hg (s % w) t) in
      grind (arith, nat_tests, both_within)

  pub by_parts_none : ((s t : ℕ) → tags ≤ t → f s t ≡ 0) → ((s t : ℕ) → tags ≤ t → g s t ≡ 0)
      → (s t : ℕ) → (both_width v w ≤ s) ⊎ (tags ≤ t) → by_parts v w f g s t ≡ 0
  by_parts_none hf hg s t (inl h) = grind (arith, nat_tests)
  by_parts_none hf hg s t (inr h) =
      let left = hf (s / w) t h in
      let right = hg (s % w) t h in
      rw (left, right) (grind (arith, nat_tests))

pub both_lawful : (m n : Machine) → Lawful m → Lawful n → Lawful (both m n)
both_lawful m n p q =
    record {
      narrow = both_narrow v w;
      starts = let both_within = joined_within v w m.start n.start 0 p.starts q.starts in grind (arith, nat_tests, both_within);
      enters = by_parts_within v w m.enter n.enter p.enters q.enters;
      backs = λ s r t.
          let both_within = joined_within v w (m.back (s / w) (r / w) t) (n.back (s % w) (r % w) t) s (p.backs (s / w) (r / w) t) (q.backs (s % w) (r % w) t) in
          grind (arith, nat_tests, both_within);
      no_enter = by_parts_none v w m.enter n.enter (λ s t h. p.no_enter s t (inr h)) (λ s t h. q.no_enter s t (inr h));
      no_back = no_back;
      no_accept = λ s h. grind (arith, nat_tests);
    }
  where
    v : ℕ
    v = m.width

    w : ℕ
    w = n.width

    no_back : (s r t : ℕ) → ((both m n).width ≤ s) ⊎ (((both m n).width ≤ r) ⊎ (tags ≤ t)) → (both m n).back s r t ≡ 0
    no_back s r t (inl h) = grind (arith, nat_tests)
    no_back s r t (inr (inl h)) = grind (arith, nat_tests)
    no_back s r t (inr (inr h)) =
        let left = p.no_back (s / w) (r / w) t (inr (inr h)) in
        let right = q.no_back (s % w) (r % w) t (inr (inr h)) in
        rw (left, right) (grind (arith, nat_tests))

pub both_marks_lawful : (m n : Machine) (x y : Marks) → LawfulMarks m x → LawfulMarks n y → LawfulMarks (both m n) (both_marks m n x y)
both_marks_lawful m n x y p q =
    record {
      marks = by_parts_within m.width n.width x y p.marks q.marks;
      no_mark = by_parts_none m.width n.width x y (λ s t h. p.no_mark s t (inr h)) (λ s t h. q.no_mark s t (inr h));
    }

-- Laws ------------------------------------------------------------------------------------------------------------

-- the product of the widths is above 0 and within the limit
abbrev pub ProductFits : Machine → Machine → Type 0
ProductFits m n = (0 < m.width) × (0 < n.width) × (m.width * n.width ≤ most_states)

-- a catalogue is accepted just if both accept it
abbrev pub BothAccepts : Machine → Machine → Type 0
BothAccepts m n = ProductFits m n → (c : List Event) → accepted (both m n) c ≡ (accepted m c && accepted n c)

-- an item is selected just if both select it
abbrev pub BothSelects : Machine → Machine → Type 0
BothSelects m n =
    ProductFits m n → (x y : Marks) → LawfulMarks m x → LawfulMarks n y → (c : List Event) (i : ℕ)
    → selected (selecting (both m n) (both_marks m n x y)) i c ≡ (selected (selecting m x) i c && selected (selecting n y) i c)

-- The path book: its steps, its meaning, its rules of range, and its law.
use Rattle.std.specs.Prelude.{◌≡◌, ℕ, if◌then◌else◌, Result, Ok, Err, zero, suc, ◌+◌, ◌-◌, ◌*◌, ◌/◌, ◌%◌, ◌^◌, ◌<◌, ◌≤◌, Bool, true, false, cond, ◌&&◌, ◌||◌, List, [], ◌∷◌, length, take, Decides, ◌==◌, nat_le, nat_lt, slice_index_or}
use Rattle.std.proofs.Common.{pow-suc, arith, length-take, pow_mono, pow_pos}
use Rattle.std.proofs.lemmas.Bool.Decides.{nat_tests}
use Rattle.book.specs.Limits.{tags, most_steps}
use Rattle.book.specs.declared.event.Event.{Event}
use Rattle.book.specs.declared.fault.BookFault.{BookFault}
use Rattle.book.specs.declared.fault.BookFault.TheVariants.{PathSteps}
use Rattle.kinds.specs.declared.path.Axis.{Axis}
use Rattle.kinds.specs.declared.path.Axis.TheVariants.{Child, Descendant}
use Rattle.kinds.specs.declared.path.TagTest.{TagTest}
use Rattle.kinds.specs.declared.path.TagTest.TheVariants.{Any, Only}
use Rattle.kinds.specs.declared.path.PathStep.{PathStep}
use Rattle.kinds.specs.declared.path.Row.{Row}
use Rattle.kinds.specs.declared.path.Step.{Step}
use Rattle.book.specs.Catalogue.{Catalogue, opened}
use Rattle.book.specs.Machines.{Machine, Marks, Lawful, LawfulMarks, selecting, selected}
use Rattle.kinds.specs.Places.{tags_to}

-- Steps -----------------------------------------------------------------------------------------------------------

-- a step given as plain numbers: axis 0 child, 1 descendant; tag 0 to 31, or 255 for any
abbrev pub step_right : Step → Bool
step_right s = nat_le s.axis 1 && (nat_lt s.tag tags || s.tag == 255)

abbrev pub steps_right : List Step → Bool
steps_right [] = true
steps_right (s ∷ ss) = step_right s && steps_right ss

-- 1 to 4 right steps
abbrev pub path_right : List Step → Bool
path_right ss = nat_le 1 (length ss) && (nat_le (length ss) most_steps && steps_right ss)

abbrev pub axis_of : ℕ → Axis
axis_of a = if a == 0 then Child else Descendant

abbrev pub test_of : ℕ → TagTest
test_of t = if t == 255 then Any else Only t

-- the step that the numbers mean
abbrev pub step_of : Step → PathStep
step_of s = record { axis = axis_of s.axis; tag = test_of s.tag }

-- the step, or a refusal
abbrev pub step_from : Step → Result PathStep BookFault
step_from s = if step_right s then Ok (step_of s) else Err PathSteps

abbrev pub descends : Axis → Bool
descends Child = false
descends Descendant = true

abbrev pub passes : TagTest → ℕ → Bool
passes Any t = true
passes (Only u) t = u == t

-- does the step fit the tag?
abbrev pub fits : PathStep → ℕ → Bool
fits a t = passes a.tag t

-- step j + 1 of a path
abbrev pub step_at : List PathStep → ℕ → PathStep
step_at steps j = slice_index_or steps j (record { axis = Child; tag = Any })

-- the steps that a row holds
abbrev pub steps_of : Row → List PathStep
steps_of r = take r.count r.steps

-- Meaning ---------------------------------------------------------------------------------------------------------

-- A state of a path of m steps below 2 ^ m is a set: bit j says that the first j steps are matched.
abbrev pub member : ℕ → ℕ → Bool
member s j = s / 2 ^ j % 2 == 1

-- the set, as a number, of those j below m for which p holds
abbrev pub set_of : (ℕ → Bool) → ℕ → ℕ
set_of p zero = 0
set_of p (suc m) = set_of p m + cond (p m) (2 ^ m) 0

-- j stays if step j + 1 is a descendant step
abbrev pub keeps : List PathStep → ℕ → ℕ → Bool
keeps steps s j = member s j && descends (step_at steps j).axis

-- j + 1 is added if step j + 1 fits the tag
abbrev pub adds : List PathStep → ℕ → ℕ → ℕ → Bool
adds steps s t zero = false
adds steps s t (suc j) = member s j && fits (step_at steps j) t

abbrev pub enter_set : List PathStep → ℕ → ℕ → ℕ
enter_set steps s t = set_of (λ j. keeps steps s j || adds steps s t j) (length steps)

-- are all steps matched at an item with the tag t?
abbrev pub matches : List PathStep → ℕ → ℕ → Bool
matches steps s t = member s (length steps - 1) && fits (step_at steps (length steps - 1)) t

abbrev pub miss : ℕ → ℕ
miss m = 2 ^ m

abbrev pub hit : ℕ → ℕ
hit m = 2 ^ m + 1

-- Hit and miss stay themselves; only hit accepts.
abbrev pub path_machine : List PathStep → Machine
path_machine steps =
    record {
      width = 2 ^ length steps + 2;
      start = 1;
      enter = λ s t. if nat_lt s (2 ^ length steps + 2) && nat_lt t tags then (if nat_lt s (2 ^ length steps) then enter_set steps s t else s) else 0;
      back = λ s q t. if nat_lt s (2 ^ length steps + 2) && (nat_lt q (2 ^ length steps + 2) && nat_lt t tags) then (if nat_lt q (2 ^ length steps) then s else q) else 0;
      accepts = λ s. (s == hit (length steps));
    }

abbrev pub path_marks : List PathStep → Marks
path_marks steps s t =
    if nat_lt s (2 ^ length steps + 2) && nat_lt t tags
    then (if nat_lt s (2 ^ length steps) then (if matches steps s t then hit (length steps) else miss (length steps)) else s)
    else 0

-- Rules of range --------------------------------------------------------------------------------------------------

-- The proofs stand here and not in proofs/, since the impl names `path_lawful` for the law of its trait, which may name
-- nothing of its own crate outside specs/; `path_marks_lawful`, for the method `marked`, stands beside it.

pub set_of_below : (p : ℕ → Bool) (m : ℕ) → set_of p m < 2 ^ m
set_of_below p zero = omega arith
set_of_below p (suc m) = one (p m) (set_of_below p m)
  where
    one : (b : Bool) → set_of p m < 2 ^ m → set_of p m + cond b (2 ^ m) 0 < 2 ^ suc m
    one true h = let e : 2 ^ suc m ≡ 2 ^ m * 2 = pow-suc 2 m in omega arith
    one false h = let e : 2 ^ suc m ≡ 2 ^ m * 2 = pow-suc 2 m in omega arith

module _ (steps : List PathStep) where
  pub path_lawful : length steps ≤ most_steps → Lawful (path_machine steps)
  path_lawful few =
      record {
        narrow = let p : 2 ^ length steps ≤ 2 ^ most_steps = pow_mono few in omega arith;
        starts = let p : 0 < 2 ^ length steps = pow_pos (length steps) in omega arith;
        enters = λ s t. let below = set_of_below (λ j. keeps steps s j || adds steps s t j) (length steps) in grind (arith, nat_tests, below);
        backs = λ s q t. grind (arith, nat_tests);
        no_enter = λ s t o. grind (arith, nat_tests);
        no_back = λ s q t o. grind (arith, nat_tests);
        no_accept = λ s h. grind (arith, nat_tests);
      }

  pub path_marks_lawful : LawfulMarks (path_machine steps) (path_marks steps)
  path_marks_lawful =
      record {
        marks = λ s t. grind (arith, nat_tests);
        no_mark = λ s t o. grind (arith, nat_tests);
      }

pub few_steps : (r : Row) → r.count ≤ most_steps → length (steps_of r) ≤ most_steps
few_steps r few = simp length-take (omega arith)

-- Law -------------------------------------------------------------------------------------------------------------

-- Tags, from the top down to an item, fit the steps: a child step fits the next tag, a descendant step may pass over
-- tags first, and the last step fits the item's own tag.
pub data Fits : List PathStep → List ℕ → Type 0 where
  none_left : Fits [] []
  next_fits : {a : PathStep} {t : ℕ} {steps : List PathStep} {ts : List ℕ} → fits a t ≡ true → Fits steps ts → Fits (a ∷ steps) (t ∷ ts)
  passed_over : {a : PathStep} {t : ℕ} {steps : List PathStep} {ts : List ℕ} → a.axis ≡ Descendant → Fits (a ∷ steps) ts → Fits (a ∷ steps) (t ∷ ts)

-- an item is selected just if the tags from the top down to it fit the steps
abbrev pub PathSelects : List PathStep → Type 0
PathSelects steps =
    (c : List Event) → Catalogue c → (i : ℕ) → 1 ≤ i → i ≤ opened c
    → Decides (selected (selecting (path_machine steps) (path_marks steps)) i c) (Fits steps (tags_to i c))

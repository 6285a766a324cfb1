-- Single calls of a scan, on any selecting book with states.
use Rattle.std.proofs.Common.{ℕ, ◌<◌, [], ◌∷◌, refl, arith}
use Rattle.book.specs.declared.event.Event.TheVariants.{Open, End}
use Rattle.book.specs.declared.answer.Refusal.TheVariants.{Ended, TooDeep, NoneOpen, OtherTag}
use Rattle.book.specs.Limits.{least_room}
use Rattle.book.specs.Machines.{Selecting}
use Rattle.book.specs.Promise.{NewlyDue}
use Rattle.book.proofs.Nesting.{within_not_broken}
use Rattle.book.proofs.Selections.{selected_opened}
use Rattle.book.proofs.Earliest.{end_decides}
use Rattle.book.proofs.Acceptance.{accepted_calls, calls_are_refused, sixty_four_deep}
use Rattle.cases.specs.Cases.{CallCases}

module _ (m : Selecting) (some : 0 < m.shape.width) where
  -- no item was opened
  none_newly_due : (i : ℕ) → NewlyDue m [] End i → ⊥
  none_newly_due i d =
      let o = selected_opened m i (End ∷ []) ((end_decides m (End ∷ []) i refl).0.0 d.0) in
      let a = o.0 in
      let b = o.1 in
      omega arith

  pub call_cases : CallCases m
  call_cases =
      record {
        sixty_fourth = (sixty_four_deep m some).0;
        sixty_fifth = (TooDeep, (sixty_four_deep m some).1, refl);
        end_first = (accepted_calls m [] least_room 0 (λ e. within_not_broken [] e)).2.1 (some, omega arith, refl);
        no_orders = (tt, λ i. (λ y. absurd y, none_newly_due i));
        open_after = λ t. (Ended, (calls_are_refused m (End ∷ []) least_room).ended (Open t) some refl, refl);
        other_open = (OtherTag, (calls_are_refused m (Open 1 ∷ []) least_room).other_tag 2 1 [] (some, omega arith, refl) (λ e. omega arith), refl);
        none_open = (NoneOpen, (calls_are_refused m [] least_room).none_open 2 (some, omega arith, refl), refl);
      }

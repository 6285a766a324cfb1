use Rattle.std.proofs.Common.{rules, tests, ◌≡◌, ◌+◌, ℕ, nat_le, nat_lt, List, sym, refl, ap, ◌∙◌}
use Rattle.std.specs.List.{position}
use Rattle.std.specs.Option.{option_map}
use Rattle.std.proofs.lemmas.Iterator.{YieldsList-from_slice}
use Rattle.std.proofs.lemmas.Iterator.Search.{position_from_yields_List}
use Rattle.book.specs.declared.fault.BookFault.TheVariants.{TableEntry}
use Rattle.book_file.specs.Files.{table_at, unless}
use Rattle.book_file.proofs.FirstOff.{none_all, off_at}
use Rattle.book_file.proofs.rest.Rest.table.Goals as goal

pub returns-in-Some-clause-value : goal.returns-in-Some-clause-value
returns-in-Some-clause-value c =
    let bound = c.args.bound in
    let at = c.args.self.now.at in
    let xs : List ℕ = c.split_at.result.0.now in
    let found : c.position.result ≡ position (λ x. nat_le bound x) xs =
    position_from_yields_List (λ x. nat_le bound x) _ _ c.position.result c.position.ensures.ran (YieldsList-from_slice xs cc) (λ x b q k. search (rules, tests)) in
    let off = off_at (λ x. nat_lt x bound) (λ x. nat_le bound x) (λ x. search (rules, tests)) at xs _ found ∙ ap (option_map (λ k. at + k)) c.in-Some.is in
    sym (ap (table_at bound at) (sym c.split_at.ensures.front) ∙ ap (λ o. unless o TableEntry xs) off)

pub returns-in-None : goal.returns-in-None
returns-in-None c =
    let bound = c.args.bound in
    let at = c.args.self.now.at in
    let xs : List ℕ = c.split_at.result.0.now in
    let found : c.position.result ≡ position (λ x. nat_le bound x) xs =
    position_from_yields_List (λ x. nat_le bound x) _ _ c.position.result c.position.ensures.ran (YieldsList-from_slice xs cc) (λ x b q k. search (rules, tests)) in
    let off = off_at (λ x. nat_lt x bound) (λ x. nat_le bound x) (λ x. search (rules, tests)) at xs _ found ∙ ap (option_map (λ k. at + k)) c.in-None.is in
    record {
      value = sym (ap (table_at bound at) (sym c.split_at.ensures.front) ∙ ap (λ o. unless o TableEntry xs) off);
      filled = (c.split_at.ensures.front_len, none_all (λ x. nat_lt x bound) at xs off);
      bytes = c.split_at.ensures.back;
      at = refl;
      left = c.split_at.ensures.back_len;
    }

use Rattle.std.proofs.Common.{rules, tests, ◌≡◌, nat_lt, ℕ, Bool, ◌&&◌, List, [], ◌∷◌, refl, ap, ◌∙◌}
use Rattle.std.specs.List.{list_all}
use Rattle.std.proofs.lemmas.Iterator.{YieldsList-from_slice}
use Rattle.std.proofs.lemmas.Iterator.Search.{all_from_yields_List}
use Rattle.name_bytes.specs.Names.{all}
use Rattle.book_file.proofs.books.is_below.Goals as goal

all_same : (test : ℕ → Bool) (xs : List ℕ) → list_all test xs ≡ all test xs
all_same test [] = refl
all_same test (x ∷ xs) = ap (λ b. test x && b) (all_same test xs)

pub returns : goal.returns
returns c =
    let test : ℕ → Bool = λ x. nat_lt x c.args.bound in
    let xs : List ℕ = c.args.entries.now in
    let found : c.all.result ≡ list_all test xs =
    all_from_yields_List test _ _ c.all.result c.all.ensures.ran (YieldsList-from_slice xs cc) (λ x b q k. search (rules, tests)) in
    found ∙ all_same test xs

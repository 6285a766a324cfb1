-- Where a name stands among names: the lowest tag that has it, and the name of a tag.
use Rattle.std.proofs.Common.{◌≡◌, ℕ, zero, suc, ◌+◌, ◌<◌, Bool, true, false, cond, eqb, List, [], ◌∷◌, Some, None, Option, sym, refl, ap, ◌∙◌, arith}
use Rattle.std.specs.List.{position, position_from, slice_get}
use Rattle.std.specs.Option.{option_map, unwrap_or}
use Rattle.std.specs.Str.{bytes_eq}
use Rattle.std.proofs.lemmas.Bool.{cond-true, cond-false, eq-eqb}
use borrow.Author.Tests.{apart_eqb}
use Rattle.std.proofs.lemmas.Iterator.Adapters.{position_from-zero}
use Rattle.std.specs.Iterator.{YieldsFirstRef}
use Rattle.std.proofs.lemmas.Iterator.{YieldsList}
use Rattle.std.proofs.lemmas.Iterator.Consumers.{YieldsList-from_first}
use Rattle.book_file.specs.declared.names.Words.{Words}
use Rattle.book_file.specs.Names.{lowest, named, tag_of, words_left}

lowest_from : (name : List ℕ) (before : ℕ) (ws : List (List ℕ)) → lowest (before + 1) ws name ≡ unwrap_or (option_map (λ k. k + 1) (position_from (λ w. bytes_eq w name) before ws)) 0
lowest_from name before [] = refl
lowest_from name before (w ∷ ws) = go (bytes_eq w name) (lowest_from name (before + 1) ws)
  where
    go : (b : Bool) → lowest (before + 1 + 1) ws name ≡ unwrap_or (option_map (λ k. k + 1) (position_from (λ v. bytes_eq v name) (before + 1) ws)) 0 →
        cond b (before + 1) (lowest (suc (before + 1)) ws name) ≡ unwrap_or (option_map (λ k. k + 1) (cond b (Some before) (position_from (λ v. bytes_eq v name) (before + 1) ws))) 0
    go true rest = refl
    go false rest = let next : suc (before + 1) ≡ before + 1 + 1 = omega arith in ap (λ n. lowest n ws name) next ∙ rest

-- the tag of a name, by its place
pub tag_at : (name : List ℕ) (ws : List (List ℕ)) (place : Option ℕ) → place ≡ position (λ w. bytes_eq w name) ws → tag_of ws name ≡ unwrap_or (option_map (λ k. k + 1) place) 0
tag_at name ws place e = lowest_from name 0 ws ∙ ap (λ o. unwrap_or (option_map (λ k. k + 1) o) 0) (sym (e ∙ position_from-zero (λ w. bytes_eq w name) ws))

-- a tag below the first has no name
pub named_before : (first tag : ℕ) (ws : List (List ℕ)) → tag < first → named first ws tag ≡ None
named_before first tag [] l = refl
named_before first tag (w ∷ ws) l =
    cond-false (eqb first tag) (Some w) (named (suc first) ws tag) (apart_eqb first tag (λ e. omega arith)) ∙ named_before (suc first) tag ws (omega arith)

-- the name of a tag, by its place
pub named_at : (first k : ℕ) (ws : List (List ℕ)) → named first ws (first + k) ≡ slice_get ws k
named_at first k [] = refl
named_at first zero (w ∷ ws) = cond-true (eqb first (first + 0)) (Some w) _ (eq-eqb first (first + 0) (omega arith))
named_at first (suc k) (w ∷ ws) =
    let next : first + suc k ≡ suc first + k = omega arith in
    cond-false (eqb first (first + suc k)) (Some w) (named (suc first) ws (first + suc k)) (apart_eqb first (first + suc k) (λ e. omega arith))
    ∙ ap (named (suc first) ws) next ∙ named_at (suc first) k ws

-- the names that come one after another
pub words_yield : (words : Words) → YieldsList (YieldsFirstRef words_left) (λ r. r.now) words (words_left words)
words_yield words = YieldsList-from_first (λ r. r.now) words_left (words_left words) refl

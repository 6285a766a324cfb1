use Rattle.std.proofs.Common.{rules, tests, ◌≡◌, not, ◌+◌, suc, ℕ, List, ◌∷◌, Some, true, sym, refl, ap, ◌∙◌, arith}
use Rattle.std.specs.List.{position}
use Rattle.std.specs.Option.{option_map}
use Rattle.std.proofs.lemmas.Iterator.{YieldsList-from_slice}
use Rattle.std.proofs.lemmas.Iterator.Search.{position_from_yields_List}
use Rattle.std.proofs.lemmas.Bool.{cond-true}
use Rattle.name_bytes.specs.Names.{name_byte, name_start}
use Rattle.book_file.specs.Files.{first_off, misspelt}
use Rattle.book_file.proofs.FirstOff.{off_at}
use Rattle.book_file.proofs.rest.first_bad_byte.Goals as goal

-- a name that begins as it may is searched behind its first byte
begins : (name : List ℕ) (at b : ℕ) (bs : List ℕ) → name ≡ b ∷ bs → name_start b ≡ true → misspelt at name ≡ first_off name_byte (suc at) bs
begins name at b bs e t = ap (misspelt at) e ∙ cond-true (name_start b) (first_off name_byte (suc at) bs) (Some at) t

pub returns : goal.returns
returns c =
    let at = c.args.at in
    let xs : List ℕ = c.in_ok-first.others.now in
    let found : c.position.result ≡ position (λ x. not (name_byte x)) xs =
    position_from_yields_List (λ x. not (name_byte x)) _ _ c.position.result c.position.ensures.ran (YieldsList-from_slice xs cc) (λ x b q k. search (rules, tests)) in
    let moved : c.map.result ≡ option_map (λ k. at + 1 + k) c.position.result = search (rules, tests) in
    let next : suc at ≡ at + 1 = omega arith in
    sym
    (begins c.args.name.now at c.in_ok-first.first.now xs c.in_ok-first.ensures.cases.0 (sym c.is_name_start.ensures ∙ c.if-not-is_name_start.false)
    ∙ ap (λ n. first_off name_byte n xs) next
    ∙ off_at name_byte (λ x. not (name_byte x)) (λ x. refl) (at + 1) xs _ found
    ∙ sym moved)

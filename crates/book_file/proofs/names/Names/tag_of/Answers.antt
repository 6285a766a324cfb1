use Rattle.std.proofs.Common.{rules, tests, ◌≡◌, ◌+◌, sym, ap, ◌∙◌, arith}
use Rattle.std.specs.Option.{option_map, unwrap_or}
use Rattle.std.specs.Str.{bytes_eq}
use Rattle.std.proofs.lemmas.Iterator.Search.{position_from_yields_List}
use Rattle.book_file.specs.Names.{tag_of}
use Rattle.book_file.proofs.Placed.{tag_at, words_yield}
use Rattle.book_file.proofs.names.Names.tag_of.Goals as goal

pub returns-clause-value : goal.returns-clause-value
returns-clause-value c =
    let name = c.args.name.now in
    let found = position_from_yields_List (λ w. bytes_eq w name) c.position.new.self _ c.position.result c.position.ensures.ran (words_yield _) (λ x b q k. search (rules, tests)) in
    let moved : c.map_or.result ≡ unwrap_or (option_map (λ k. k + 1) c.position.result) 0 = search (rules, tests) in
    moved ∙ sym (tag_at name _ _ found) ∙ ap (λ ws. tag_of ws name) (grind arith)

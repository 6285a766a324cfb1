use Rattle.std.proofs.Common.{◌≡◌, ◌+◌, ◌<◌, sym, ap, ◌∙◌, arith}
use Rattle.std.specs.List.{slice_get}
use Rattle.std.proofs.lemmas.Iterator.Consumers.{nth_from_yields_List}
use Rattle.book_file.specs.Names.{listed, name_of, spelt}
use Rattle.book_file.proofs.Placed.{named_at, named_before, words_yield}
use Rattle.book_file.proofs.names.Names.name_of.Goals as goal

pub returns-in_err-before : goal.returns-in_err-before
returns-in_err-before c =
    let none : c.args.tag < 1 = omega (arith, c.in_err-before.ensures) in
    ap spelt c.from_residual.ensures ∙ sym (named_before 1 c.args.tag (listed c.args.self.now) none)

pub returns : goal.returns
returns c =
    let ws = listed c.args.self.now in
    let found : spelt c.nth.result ≡ slice_get ws c.from.result = nth_from_yields_List _ c.nth.new.self _ c.nth.ensures.ran (words_yield _) in
    let tag : 1 + c.from.result ≡ c.args.tag = omega (arith, c.in_ok-before.ensures) in
    found ∙ sym (named_at 1 c.from.result ws) ∙ ap (name_of ws) tag

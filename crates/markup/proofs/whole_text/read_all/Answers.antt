-- What is left to show of `read_all` in src/whole_text.rt.
use Rattle.markup.proofs.Shown.{all_shown_more, finishes, gives_tag, giving_more}
use Rattle.markup.proofs.whole_text.read_all.Goals as goal
use Rattle.markup.specs.declared.token.Token.{Token}
use Rattle.markup.specs.Whole.{AllShown, Shows}
use Rattle.std.proofs.Common.{◌≡◌, ℕ, false, List, [], ◌∷◌, ◌++◌, sym, ◌∙◌, subst, rules}

pub loop-tags-preserved : goal.loop-tags-preserved
loop-tags-preserved c =
    let s = c.args.text.now in
    let i = c.loop-tags.invariant in
    let x = c.in-Ok.token in
    let tag : finishes x ≡ false = search rules in
    let g = gives_tag c.loop-tags.reader c.next.new.self x c.in-Ok.ensures.gives tag in
    let h : Shows s g.0 x = subst (λ (z : List ℕ). Shows z g.0 x) i.0 g.1 in (
      c.next.ensures.text ∙ i.0,
      (
        i.1.0 ++ (g.0 ∷ []),
        subst (λ (z : List Token). AllShown s (i.1.0 ++ (g.0 ∷ [])) z) (sym c.in_ok-push-in-Ok.ensures.items) (all_shown_more s i.1.0 _ g.0 x i.1.1 h),
        giving_more _ i.1.0 g.0 _ _ i.1.2 g.2,
      ),
    )

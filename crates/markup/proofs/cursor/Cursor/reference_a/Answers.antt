-- What is left to show of `reference_a` in src/reference.rt.
use Rattle.std.proofs.Common.{[], ◌∷◌, refl, ap, ◌∙◌}
use Rattle.markup.proofs.Cursors.{goes_byte, way_then}
use Rattle.markup.specs.Reading.{ampersand_a, awaiting, next}
use Rattle.markup.proofs.cursor.Cursor.reference_a.Goals as goal

pub returns-in-109 : goal.returns-in-109
returns-in-109 c = λ w. way_then _ _ _ _ _ _ _ (goes_byte c.args.self.now _ (ampersand_a c.args.at w) (awaiting c.args.at w 112 (59 ∷ [])) c.in_ok-b.ensures.0 (ap (λ z. next c.args.self.now.place (ampersand_a c.args.at w) z) (c.in_ok-b.ensures.1 ∙ c.in-109.is)) refl refl) (c.reference_rest.ensures w)

pub returns-in-112 : goal.returns-in-112
returns-in-112 c = λ w. way_then _ _ _ _ _ _ _ (goes_byte c.args.self.now _ (ampersand_a c.args.at w) (awaiting c.args.at w 111 (115 ∷ (59 ∷ []))) c.in_ok-b.ensures.0 (ap (λ z. next c.args.self.now.place (ampersand_a c.args.at w) z) (c.in_ok-b.ensures.1 ∙ c.in-112.is)) refl refl) (c.reference_rest-in-112.ensures w)

-- What is left to show of `reference` in src/reference.rt.
use Rattle.std.proofs.Common.{◌≡◌, ◌⊎◌, [], ◌∷◌, refl, ap, ◌∙◌, inl, inr}
use Rattle.markup.proofs.Cursors.{goes_byte, way_then}
use Rattle.markup.specs.Reading.{Where, ampersand, ampersand_a, awaiting, next, on}
use Rattle.markup.proofs.cursor.Cursor.reference.Goals as goal

pub returns-in-97 : goal.returns-in-97
returns-in-97 c = λ w. way_then _ _ _ _ _ _ _ (goes_byte c.args.self.now _ (ampersand c.args.at w) (ampersand_a c.args.at w) c.in_ok-b.ensures.0 (ap (λ z. next c.args.self.now.place (ampersand c.args.at w) z) (c.in_ok-b.ensures.1 ∙ c.in-97.is)) refl refl) (c.reference_a.ensures w)

pub returns-in-108 : goal.returns-in-108
returns-in-108 c =
    let p = c.args.self.now.place in
    let to : (w : Where) → (c.in_ok-b.b ≡ 103) ⊎ (c.in_ok-b.b ≡ 108) → next p (ampersand c.args.at w) c.in_ok-b.b ≡ on (awaiting c.args.at w 116 (59 ∷ [])) =
    λ w e. elim e [ inl g ↦ ap (λ z. next p (ampersand c.args.at w) z) g | inr g ↦ ap (λ z. next p (ampersand c.args.at w) z) g ] in
    λ w. way_then _ _ _ _ _ _ _ (goes_byte c.args.self.now _ (ampersand c.args.at w) (awaiting c.args.at w 116 (59 ∷ [])) c.in_ok-b.ensures.0 (ap (λ z. next p (ampersand c.args.at w) z) c.in_ok-b.ensures.1 ∙ to w c.in-108.is) refl refl) (c.reference_rest.ensures w)

pub returns-in-113 : goal.returns-in-113
returns-in-113 c = λ w. way_then _ _ _ _ _ _ _ (goes_byte c.args.self.now _ (ampersand c.args.at w) (awaiting c.args.at w 117 (111 ∷ (116 ∷ (59 ∷ [])))) c.in_ok-b.ensures.0 (ap (λ z. next c.args.self.now.place (ampersand c.args.at w) z) (c.in_ok-b.ensures.1 ∙ c.in-113.is)) refl refl) (c.reference_rest-in-113.ensures w)

-- Texts that were written one after the other.
use Rattle.std.proofs.Common.{◌≡◌, ℕ, List, [], ◌∷◌, ◌++◌, refl, ap, ◌∙◌}
use Rattle.std.proofs.lemmas.List.{append_assoc}

-- one more text is written
pub more : {text old new : List ℕ} (part : List ℕ) → new ≡ old ++ part → old ≡ text → new ≡ text ++ part
more part e is = e ∙ ap (λ t. t ++ part) is

abbrev pub followed_by : List ℕ → List (List ℕ) → List ℕ
followed_by text [] = text
followed_by text (part ∷ parts) = followed_by (text ++ part) parts

abbrev pub gathered : List ℕ → List (List ℕ) → List ℕ
gathered part [] = part
gathered part (next ∷ parts) = part ++ gathered next parts

-- what was written is the front, and then all of the texts
pub all_followed : (text part : List ℕ) (parts : List (List ℕ)) → followed_by text (part ∷ parts) ≡ text ++ gathered part parts
all_followed text part [] = refl
all_followed text part (next ∷ parts) = all_followed (text ++ part) next parts ∙ append_assoc text part (gathered next parts)

-- What the readers of values give.
use Rattle.std.proofs.Common.{◌≡◌, ◌++◌, map, sym, append-nil, ap, ◌∙◌, ℕ, List, [], ◌∷◌, Some, None}
use Rattle.std.proofs.lemmas.List.{map-append}
use Rattle.std.proofs.lemmas.List.Elements.{filter_map-append}
use Rattle.std.specs.List.{cons_option, filter_map}
use Rattle.command_words.specs.Values.{call_number_said}

-- ---- lists of calls

module _ {A : Type 0} (now : A → List ℕ) (parts : List A) (part : A) where
  apart : filter_map call_number_said (map now (parts ++ part ∷ []))
      ≡ filter_map call_number_said (map now parts) ++ filter_map call_number_said (now part ∷ [])
  apart =
      ap (filter_map call_number_said) (map-append now parts (part ∷ []))
      ∙ filter_map-append call_number_said (map now parts) (now part ∷ [])

  -- one more part that says a number
  pub said_more : (number : ℕ) → Some number ≡ call_number_said (now part)
      → filter_map call_number_said (map now parts) ++ number ∷ []
      ≡ filter_map call_number_said (map now (parts ++ part ∷ []))
  said_more number said = ap (λ o. filter_map call_number_said (map now parts) ++ cons_option o []) said ∙ sym apart

  -- and one that says none
  pub said_same : None ≡ call_number_said (now part) → filter_map call_number_said (map now parts)
      ≡ filter_map call_number_said (map now (parts ++ part ∷ []))
  said_same said =
      sym (append-nil (filter_map call_number_said (map now parts)))
      ∙ ap (λ o. filter_map call_number_said (map now parts) ++ cons_option o []) said ∙ sym apart

use Rattle.std.specs.Prelude.{Option, None, List, [], ◌∷◌}
use Rattle.std.specs.Option.{option_or}

-- the first answer that is one
abbrev pub first : {R : Type 0} → List (Option R) → Option R
first [] = None
first (answer ∷ rest) = option_or answer (first rest)

-- the answer of the first element of the list that has one
abbrev pub first_of : {X R : Type 0} → (X → Option R) → List X → Option R
first_of rule [] = None
first_of rule (item ∷ rest) = option_or (rule item) (first_of rule rest)

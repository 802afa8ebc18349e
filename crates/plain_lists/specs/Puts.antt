use Rattle.std.specs.Prelude.{List, ◌∷◌}

-- the whole is the rest with the item put in somewhere
pub data Puts {X : Type 0} (item : X) : List X → List X → Type 0 where
  here : {rest : List X} → Puts item rest (item ∷ rest)
  later : {other : X} {rest whole : List X} → Puts item rest whole → Puts item (other ∷ rest) (other ∷ whole)

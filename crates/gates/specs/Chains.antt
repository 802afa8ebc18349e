-- Ways from one place to another, a step for each item of a list.
use Rattle.std.specs.Prelude.{List, [], ◌∷◌}

-- Each item of the list, in order, is a step of the relation, and together they lead from the first place to the last.
pub data Chain {S I : Type 0} (R : S → I → S → Type 0) : List I → S → S → Type 0 where
  none : {place : S} → Chain R [] place place
  more : {item : I} {rest : List I} {first between last : S} → R first item between → Chain R rest between last
      → Chain R (item ∷ rest) first last

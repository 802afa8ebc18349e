-- Words for tables of cases.
use Rattle.std.specs.Prelude.{◌≡◌, List, map}

-- in each row what is answered is what is wanted
abbrev pub Agree : {Row Answer : Type 0} → (Row → Answer) → (Row → Answer) → List Row → Type 0
Agree answered wanted rows = map answered rows ≡ map wanted rows

-- the same of rows that end in what is wanted
abbrev pub Gives : {Case Answer : Type 0} → (Case → Answer) → List (Case × Answer) → Type 0
Gives answered rows = map (λ row. answered row.0) rows ≡ map (λ row. row.1) rows

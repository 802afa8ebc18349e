-- Rows that are read one after the other.
use Rattle.std.proofs.Common.{◌≡◌, ◌++◌, ap, append-nil, append_assoc, refl, List, [], ◌∷◌, Option, Some, None}
use Rattle.client_steps.specs.Rows.{before, both_as}
use Rattle.client_steps.specs.declared.cells.Cells.{Cells}

-- rows with those before them
abbrev pub prepended : List Cells → Option (List Cells) → Option (List Cells)
prepended rows (Some more) = Some (rows ++ more)
prepended rows None = None

pub prepended-nothing : (more : Option (List Cells)) → prepended [] more ≡ more
prepended-nothing (Some more) = refl
prepended-nothing None = refl

pub prepended-all : (rows : List Cells) → prepended rows (Some []) ≡ Some rows
prepended-all rows = ap Some (append-nil rows)

pub prepended-next : (rows : List Cells) (row : Cells) (more : Option (List Cells))
    → prepended (rows ++ row ∷ []) more ≡ prepended rows (both_as before (Some row) more)
prepended-next rows row (Some more) = ap Some (append_assoc rows (row ∷ []) more)
prepended-next rows row None = refl

-- The entries of rows that have spellings are read as these rows.
use Rattle.std.proofs.Common.{◌≡◌, Ok, List, [], ◌∷◌, map, refl}
use Rattle.plain_lists.specs.Members.{Each}
use Rattle.plain_lists.proofs.Elements.{Each-head, Each-tail}
use Rattle.records.specs.declared.rows.Row.{Row}
use Rattle.row_codec.specs.Spelling.{entry_of}
use Rattle.row_codec.specs.Reading.{row_of}
use Rattle.row_machine.specs.opening.Opening.{rows_in}

-- a row that is read off its entry
abbrev pub ReadsBack : Row → Type 0
ReadsBack r = row_of (entry_of r) ≡ Ok r

pub rows-back : (rows : List Row) → Each ReadsBack rows → rows_in (map entry_of rows) ≡ Ok rows
rows-back [] all = refl
rows-back (r ∷ rows) all =
    let first : row_of (entry_of r) ≡ Ok r = Each-head all in
    let rest : rows_in (map entry_of rows) ≡ Ok rows = rows-back rows (Each-tail all) in
    rw (first, rest) refl

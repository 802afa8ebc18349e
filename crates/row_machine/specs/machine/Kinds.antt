-- The kinds of objects, as a table.
use Rattle.std.specs.Prelude.{◌==◌}
use Rattle.row_machine.specs.Words.{ℕ, Bool, true, false, List, codes, ObjectKind, ObjectKind as kind, Target}

-- how refusals write the kind, the number that its entries have, whether its objects belong to projects, and how many
-- rows of it there may be, with those that live operations claim
pub record KindLine : Type 0 where
  pub text : List ℕ
  pub number : ℕ
  pub in_project : Bool
  pub cap : ℕ

abbrev pub kind_of_object : List ℕ → ℕ → Bool → ℕ → KindLine
kind_of_object text number in_project cap = record { text = text; number = number; in_project = in_project; cap = cap }

-- The table. Operations are no rows.
abbrev pub kind_line : ObjectKind → KindLine
kind_line kind.Project = kind_of_object (codes "project") 1 false 1024
kind_line kind.Profile = kind_of_object (codes "profile") 2 true 16384
kind_line kind.Network = kind_of_object (codes "network") 3 true 1024
kind_line kind.Pool = kind_of_object (codes "storage-pool") 4 false 64
kind_line kind.Volume = kind_of_object (codes "storage-volume") 5 true 65536
kind_line kind.Instance = kind_of_object (codes "instance") 6 true 65536
kind_line kind.Snapshot = kind_of_object (codes "snapshot") 7 true 65536
kind_line kind.Operation = kind_of_object (codes "operation") 0 true 0

abbrev pub kind_text : ObjectKind → List ℕ
kind_text kind = (kind_line kind).text

abbrev pub kind_number : ObjectKind → ℕ
kind_number kind = (kind_line kind).number

-- whether objects of a kind belong to projects; pools do not, and projects are asked for by their own names
abbrev pub is_in_project : ObjectKind → Bool
is_in_project kind = (kind_line kind).in_project

abbrev pub cap_of : ObjectKind → ℕ
cap_of kind = (kind_line kind).cap

abbrev pub is_of_kind : ObjectKind → Target → Bool
is_of_kind kind of = kind_number of.kind == kind_number kind

-- Which rows may use an object of a home.
use Rattle.std.specs.Prelude.{◌||◌, ℕ, Bool, List, if◌then◌else◌}
use Rattle.std.specs.Str.{bytes_eq}
use Rattle.row_machine.specs.Words.{Target, ObjectKind as kind}
use Rattle.row_machine.specs.machine.Kinds.{is_of_kind}
use Rattle.row_machine.specs.machine.Rows.{default_name}
use Rattle.row_readings.specs.Rising.{rows_at_home}

-- those of all projects, where it is a pool, which has no home; else those of projects that may have this home
abbrev pub rows_that_may_use : {X : Type 0} → (X → List (List ℕ)) → List ℕ → Target → List X → List X
rows_that_may_use names home of rows = if is_of_kind kind.Pool of then rows else rows_at_home names home rows

-- whether those of a project are among them
abbrev pub project_may_use : List ℕ → Target → List ℕ → Bool
project_may_use home of project = is_of_kind kind.Pool of || bytes_eq home default_name || bytes_eq project home
